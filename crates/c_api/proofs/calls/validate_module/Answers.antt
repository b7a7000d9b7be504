-- What is checked is what the handle keeps.
use Rattle.std.proofs.Common.{◌∙◌, sym, subst}
use Rattle.c_api.specs.Answers.{ModuleAnswer}
use Rattle.c_api.proofs.calls.validate_module.Goals as goal

pub returns : goal.returns
returns c =
    let kept = subst (λ o. ModuleAnswer o c.check_all_kept.new.out.status c.check_all_kept.new.out) (sym c.take-kept.ensures.taken) (c.check_all_kept.ensures.answer c.new.ensures.counted) in
    let x = subst (λ s. ModuleAnswer c.args.handle.now.held s c.check_all_kept.new.out) (sym c.status_of.ensures) kept in
    record {
      status = c.status_of.ensures;
      consistent = c.check_all_kept.ensures.consistent;
      valid = x.valid;
      refused = x.refused;
      invalid = x.invalid;
      malformed = x.malformed;
      uncovered = x.uncovered;
      counted = x.counted;
      missing = x.missing;
      none = x.none;
      known = x.known;
      kept = c.put_back.ensures ∙ sym c.take-kept.ensures.taken;
    }
