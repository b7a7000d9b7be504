-- The fields behind those that were looked at decide.
use Rattle.std.proofs.Common.{◌≡◌, drop}
use Rattle.std.specs.List.{list_all}
use Rattle.validate_types.specs.Types.{unpacked_type}
use Rattle.validate_types.specs.declared.types.FieldType.{FieldType}
use Rattle.module_rules.specs.Types.{may_stand_in}
use Rattle.module_rules.proofs.types.check_fields.Given as goal

abbrev pub invariant-loop-field : goal.invariant-loop-field
invariant-loop-field l =
    let passes = λ (f : FieldType). may_stand_in l.features l.types l.shared (unpacked_type f.element_type) in
    list_all passes (drop l.field-index l.fields) ≡ list_all passes l.fields
