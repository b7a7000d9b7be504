-- The types behind those that were looked at decide.
use Rattle.std.proofs.Common.{◌≡◌, ℕ, drop}
use Rattle.std.specs.List.{list_all, zip}
use Rattle.validate_types.specs.declared.types.SubType.{SubType}
use Rattle.module_rules.specs.Descriptors.{has_valid_descriptors}
use Rattle.module_rules.proofs.descriptors.check_each_descriptor.Given as goal

abbrev pub invariant-loop-index : goal.invariant-loop-index
invariant-loop-index l =
    let passes = λ (e : SubType × ℕ). has_valid_descriptors l.types e.1 e.0.composite_type in
    list_all passes (zip (drop l.index l.types) (drop l.index l.names)) ≡ list_all passes (zip l.types l.names)
