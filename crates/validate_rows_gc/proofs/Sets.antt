-- The lemmas that the prover is given, by the functions that name them.
use Rattle.validate_stacks.proofs.ClosedFrames.{frame_told, some_frame}
use Rattle.validate_stacks.proofs.Moves.{fits_now}
use Rattle.validate_stacks.proofs.Phases.{step_frame}
use Rattle.validate_stacks.proofs.PopRuns.{found_first}
use Rattle.validate_shapes.proofs.CarriedTypes.{accepts_none}
use Rattle.validate_shapes.proofs.KnownRows.{known_rows, refused_step}
use Rattle.validate_shapes.proofs.LookupRows.{barred}
use Rattle.validate_shapes.proofs.Parts.{part_none, part_of_another, part_passes}
use Rattle.validate_rows_gc.proofs.AccessRows.{or_true, place_found}
use Rattle.validate_rows_gc.proofs.CastBranches.{split_ends}
use Rattle.validate_rows_gc.proofs.DescriptorSteps.{another_descriptor, is_there, not_there, that_descriptor}
use Rattle.validate_rows_gc.proofs.LegacySteps.{catch_begins, catch_refused, catch_unknown}
use Rattle.validate_rows_gc.proofs.ResumedRows.{not_a_continuation, not_a_reference, not_handled}
use Rattle.validate_rows_gc.proofs.TryTables.{caught_none, caught_there, table_not_checked}

pub ruleset casts = (known_rows, split_ends)

pub ruleset descriptors = (found_first, is_there, not_there, another_descriptor, that_descriptor)

pub ruleset places = (known_rows, or_true, place_found)

pub ruleset new_descriptors = (fits_now, not_there)

pub ruleset clauses = (refused_step, accepts_none, step_frame, table_not_checked)

pub ruleset resumes = (not_a_continuation, not_a_reference, not_handled)

pub ruleset parts = (some_frame, frame_told, part_none, part_of_another, part_passes, catch_begins)

pub ruleset catches = (refused_step, catch_unknown, catch_refused)

pub ruleset throws = (known_rows, barred, caught_there, caught_none)
