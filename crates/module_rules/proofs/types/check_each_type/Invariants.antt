-- The types behind those that were looked at decide.
use Rattle.std.proofs.Common.{◌≡◌, ℕ, drop}
use Rattle.std.specs.List.{list_all, enumerate_from}
use Rattle.validate_types.specs.declared.types.SubType.{SubType}
use Rattle.module_rules.specs.Types.{is_valid_type}
use Rattle.module_rules.specs.Within.{is_type_within}
use Rattle.module_rules.proofs.types.check_each_type.Given as goal

abbrev pub invariant-loop-index : goal.invariant-loop-index
invariant-loop-index l =
    let passes = λ (e : ℕ × SubType). is_valid_type l.features l.types e.0 e.1 in
    let within = λ (e : ℕ × SubType). is_type_within l.types e.0 e.1 in
    record {
      valid : list_all passes (enumerate_from l.index (drop l.index l.types)) ≡ list_all passes (enumerate_from 0 l.types);
      within : list_all within (enumerate_from l.index (drop l.index l.types)) ≡ list_all within (enumerate_from 0 l.types);
    }
