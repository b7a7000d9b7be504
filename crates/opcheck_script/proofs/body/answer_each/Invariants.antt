-- There is an answer for each operator so far, those that were accepted lead to the state that is there, and the
-- rest of the list is in order below its frames.
use Rattle.std.proofs.Common.{◌≡◌, length, drop}
use Rattle.validate_stacks.specs.State.{body_context}
use Rattle.validate_operators.proofs.Listed.{IsOrderedBelow}
use Rattle.opcheck_script.specs.Attempts.{AreAnswers, accepted_of}
use Rattle.opcheck_script.proofs.body.answer_each.Given as goal

abbrev pub invariant-loop-index : goal.invariant-loop-index
invariant-loop-index g l =
    let f = l.fn.function in
    let cx = body_context (g.R.WasmModuleResources.context f.resources) f.starting in
    record {
      count : length l.answers.items ≡ l.index;
      kept : l.function ≡ record f { accepted = accepted_of l.ops l.answers.items; present = l.function.present };
      answered : AreAnswers cx l.shows f.starting.present l.ops l.attempts l.answers.items l.function.present;
      ordered : IsOrderedBelow l.function.present.frames (drop l.index l.ops);
    }
