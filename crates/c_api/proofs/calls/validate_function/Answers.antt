-- What is checked is what the handle keeps.
use Rattle.std.proofs.Common.{◌∙◌, sym, subst}
use Rattle.c_api.specs.Answers.{BodyAnswer}
use Rattle.c_api.proofs.calls.validate_function.Goals as goal

pub returns : goal.returns
returns c =
    let kept = subst (λ o. BodyAnswer o c.args.function c.check_one_kept.new.out.status c.check_one_kept.new.out) (sym c.take-kept.ensures.taken) c.check_one_kept.ensures.answer in
    let x = subst (λ s. BodyAnswer c.args.handle.now.held c.args.function s c.check_one_kept.new.out) (sym c.status_of.ensures) kept in
    record {
      status = c.status_of.ensures;
      consistent = c.check_one_kept.ensures.consistent;
      safe = x.safe;
      refused = x.refused;
      invalid = x.invalid;
      malformed = x.malformed;
      uncovered = x.uncovered;
      reported = x.reported;
      missing = x.missing;
      none = x.none;
      known = x.known;
      kept = c.put_back.ensures ∙ sym c.take-kept.ensures.taken;
    }
