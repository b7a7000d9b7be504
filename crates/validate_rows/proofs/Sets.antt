-- The lemmas that the prover is given, by the functions that name them.
use Rattle.validation_rules.proofs.Valid.{declared_valid}
use Rattle.validate_stacks.proofs.AtOnce.{was_not_made}
use Rattle.validate_stacks.proofs.ClosedFrames.{some_frame}
use Rattle.validate_shapes.proofs.BranchSteps.{no_label, no_types, some_outermost}
use Rattle.validate_shapes.proofs.HeapReferences.{ends_with, ends_without, made_is}
use Rattle.validate_shapes.proofs.KnownRows.{exchanged, known_rows, refused_step}
use Rattle.validate_shapes.proofs.LastSteps.{all_get}
use Rattle.validate_shapes.proofs.Moves.{never_refused}
use Rattle.validate_shapes.proofs.Parts.{else_begins, params_of, part_none}
use Rattle.validate_shapes.proofs.ReferenceSteps.{above_is, null_is, on_null_is, unreferenced}
use Rattle.validate_shapes.proofs.Rows.{drop_is, end_none, local_get_is, no_local_get, no_local_set, no_local_tee}
use Rattle.validate_rows.proofs.Ends.{results_as}
use Rattle.validate_rows.proofs.SelectSteps.{number_valid}
use Rattle.validate_rows.proofs.TailCalls.{others_unmoved}

pub ruleset parts = (refused_step, some_frame, results_as, end_none, part_none, params_of, else_begins)

pub ruleset calls = (known_rows, exchanged, some_outermost, others_unmoved)

pub ruleset drops = (refused_step, never_refused, drop_is)

pub ruleset selects = (was_not_made, number_valid)

pub ruleset references = (known_rows, refused_step, no_label, no_types, null_is, above_is, on_null_is, unreferenced, made_is, declared_valid, ends_with, ends_without)

pub ruleset variables = (refused_step, was_not_made, all_get, no_local_get, no_local_set, no_local_tee, local_get_is)
