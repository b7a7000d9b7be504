-- The lookup is what the module declares.
use Rattle.std.proofs.Common.{◌∙◌, ap}
use Rattle.module_rules.specs.Features.{operator_features}
use Rattle.validate_operators.specs.Validator.{state}
use Rattle.validate_resources.specs.Kept.{declared_lists}
use Rattle.validate_resources.specs.Lists.{context_of}
use Rattle.c_api.proofs.Begun.{all_starting, all_with_locals}
use Rattle.c_api.proofs.body_calls.start_with_locals.Goals as goal

pub returns-in-Ok-clause-starting : goal.returns-in-Ok-clause-starting
returns-in-Ok-clause-starting c =
    all_starting c.args.loaded.now (context_of (declared_lists c.resources-resources.result.now)) c.resources-resources.ensures.context state c.with_locals.result c.with_locals.ensures.starting

pub returns-in-Ok-clause-locals : goal.returns-in-Ok-clause-locals
returns-in-Ok-clause-locals c =
    all_with_locals c.args.loaded.now (context_of (declared_lists c.resources-resources.result.now)) c.resources-resources.ensures.context state c.with_locals.result
    c.operator_features-features.result (c.operator_features-features.ensures ∙ ap operator_features c.features.ensures) c.args.ty c.args.code.now.types c.args.code.now.reader.left c.with_locals.new.code.reader.left
    (state c.in-Ok.v) c.in-Ok.ensures.made c.with_locals.ensures.defined
