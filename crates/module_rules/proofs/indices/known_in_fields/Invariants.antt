-- The fields behind those that were looked at decide.
use Rattle.std.proofs.Common.{◌≡◌, drop}
use Rattle.std.specs.List.{list_all}
use Rattle.validate_resources.specs.Indices.{is_known, field_indices_pass}
use Rattle.module_rules.proofs.indices.known_in_fields.Given as goal

abbrev pub invariant-loop-field : goal.invariant-loop-field
invariant-loop-field l =
    let passes = field_indices_pass (is_known l.count) in
    list_all passes (drop l.field-index l.fields) ≡ list_all passes l.fields
