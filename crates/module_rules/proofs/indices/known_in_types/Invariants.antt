-- The types behind those that were looked at decide.
use Rattle.std.proofs.Common.{◌≡◌, drop}
use Rattle.std.specs.List.{list_all}
use Rattle.validate_resources.specs.Indices.{is_known, type_indices_pass}
use Rattle.module_rules.proofs.indices.known_in_types.Given as goal

abbrev pub invariant-loop-ty : goal.invariant-loop-ty
invariant-loop-ty l =
    let passes = type_indices_pass (is_known l.count) in
    list_all passes (drop l.ty-index l.types) ≡ list_all passes l.types
