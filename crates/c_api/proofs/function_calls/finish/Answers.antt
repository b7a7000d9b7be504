-- The function is the one that the handle keeps.
use Rattle.std.proofs.Common.{◌∙◌, sym, subst}
use Rattle.c_api.specs.FunctionCalls.{FinishAnswer}
use Rattle.c_api.proofs.function_calls.finish.Goals as goal

pub returns : goal.returns
returns c =
    let kept = subst (λ o. FinishAnswer o c.finish_kept.new.out.status) (sym c.take-kept.ensures.taken) c.finish_kept.ensures.answer in
    let x = subst (λ s. FinishAnswer c.args.handle.now.held s) (sym c.status_of.ensures) kept in
    record {
      status = c.status_of.ensures;
      consistent = c.finish_kept.ensures.consistent;
      whole = x.whole;
      «open» = x.is_open;
      covered = x.covered;
      none = x.none;
      known = x.known;
      kept = c.put_back.ensures ∙ sym c.take-kept.ensures.taken;
    }
