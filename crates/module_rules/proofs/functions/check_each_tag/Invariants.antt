-- The tags behind those that were looked at decide.
use Rattle.std.proofs.Common.{◌≡◌, drop}
use Rattle.std.specs.List.{list_all}
use Rattle.module_rules.specs.Functions.{is_valid_tag}
use Rattle.module_rules.proofs.functions.check_each_tag.Given as goal

abbrev pub invariant-loop-tag : goal.invariant-loop-tag
invariant-loop-tag l =
    let passes = is_valid_tag l.features l.types in
    list_all passes (drop l.tag-index l.tags) ≡ list_all passes l.tags
