-- The function in the handle is that of the body.
use Rattle.std.proofs.Common.{subst}
use Rattle.validate_operators.specs.Validator.{state}
use Rattle.c_api.specs.Bodies.{StartsBody}
use Rattle.c_api.specs.Calls.{OnWhole}
use Rattle.c_api.proofs.Begun.{place_begun}
use Rattle.c_api.proofs.body_calls.begin_shared.Goals as goal

pub returns-in-Ok-clause-begun : goal.returns-in-Ok-clause-begun
returns-in-Ok-clause-begun c =
    let b = c.in-Ok.start in
    let v = state b.validator in
    let starts = subst (λ h. OnWhole h (λ m. StartsBody m c.args.index b.first b.behind v)) c.deref-2.ensures c.in-Ok.ensures.begun in
    place_begun c.args.shared v c.args.index b.first b.behind c.keep_body.result c.keep_body.new.function.held c.keep_body.new.out.status starts c.keep_body.ensures.kept
