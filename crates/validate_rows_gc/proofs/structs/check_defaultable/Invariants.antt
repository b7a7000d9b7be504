-- All fields have a default value where all that are left have one.
use Rattle.std.proofs.Common.{◌≡◌, length}
use Rattle.std.specs.List.{list_all}
use Rattle.validate_types.specs.Types.{is_defaultable, unpacked_fields}
use Rattle.validate_rows_gc.proofs.structs.check_defaultable.Given as goal

abbrev pub decreases-loop-field : goal.decreases-loop-field
decreases-loop-field g l = length l.rest

abbrev pub invariant-loop-field : goal.invariant-loop-field
invariant-loop-field g l =
    record {
      rest : list_all is_defaultable (unpacked_fields l.rest) ≡ list_all is_defaultable (unpacked_fields l.fields);
    }
