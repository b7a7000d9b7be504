-- What is checked is what the handle keeps.
use Rattle.std.proofs.Common.{◌∙◌, sym, subst}
use Rattle.c_api.specs.Answers.{NextAnswer}
use Rattle.c_api.proofs.calls.validate_next.Goals as goal

pub returns : goal.returns
returns c =
    let kept = subst (λ o. NextAnswer o c.args.position.now c.check_from_kept.new.position c.check_from_kept.new.out.status c.check_from_kept.new.out) (sym c.take-kept.ensures.taken) c.check_from_kept.ensures.answer in
    let x = subst (λ s. NextAnswer c.args.handle.now.held c.args.position.now c.check_from_kept.new.position s c.check_from_kept.new.out) (sym c.status_of.ensures) kept in
    record {
      status = c.status_of.ensures;
      consistent = c.check_from_kept.ensures.consistent;
      rest = x.rest;
      reported = x.reported;
      unmoved = x.unmoved;
      missing = x.missing;
      none = x.none;
      known = x.known;
      kept = c.put_back.ensures ∙ sym c.take-kept.ensures.taken;
    }
