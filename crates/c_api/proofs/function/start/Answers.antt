-- The validator starts in the lookup of the module that is held.
use Rattle.validate_operators.specs.Validator.{state}
use Rattle.validate_resources.specs.Kept.{declared_lists}
use Rattle.validate_resources.specs.Lists.{context_of}
use Rattle.c_api.proofs.Begun.{starting_over, made_over, cannot_start}
use Rattle.c_api.proofs.function.start.Goals as goal

pub returns-in-Ok-clause-starting : goal.returns-in-Ok-clause-starting
returns-in-Ok-clause-starting c =
    starting_over c.args.held.now (context_of (declared_lists c.resources.result.now)) c.resources.ensures (state c.start_body.new.self) c.in-Ok.ensures.starting

pub returns-in-Ok-clause-made : goal.returns-in-Ok-clause-made
returns-in-Ok-clause-made c =
    made_over c.args.held.now (context_of (declared_lists c.resources.result.now)) c.resources.ensures c.features-features.result c.features-features.ensures
    c.args.kind (state c.start_body.new.self) c.in-Ok.ensures.made

pub returns-in-Err-clause-cannot : goal.returns-in-Err-clause-cannot
returns-in-Err-clause-cannot c = λ memory.
    cannot_start c.args.held.now (context_of (declared_lists c.resources.result.now)) c.resources.ensures c.features-features.result c.features-features.ensures
    c.args.kind (c.in-Err.ensures.refused (c.of_error.ensures.memory memory))
