-- The exports behind those that were looked at decide.
use Rattle.std.proofs.Common.{◌≡◌, drop}
use Rattle.std.specs.List.{list_all}
use Rattle.module_rules.specs.Declarations.{declarations_of}
use Rattle.module_rules.specs.Exports.{is_valid_export}
use Rattle.module_rules.proofs.exports.check_each_export.Given as goal

abbrev pub invariant-loop-export : goal.invariant-loop-export
invariant-loop-export l =
    let passes = is_valid_export l.features (declarations_of l.declared) in
    list_all passes (drop l.export-index l.exports) ≡ list_all passes l.exports
