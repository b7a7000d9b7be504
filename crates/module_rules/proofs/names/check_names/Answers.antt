use Rattle.std.proofs.Common.{subst, ◌∙◌, nat_eq}
use Rattle.std.specs.List.{IsDistinct}
use Rattle.module_rules.proofs.Distinct.{distinct-mixed}
use Rattle.module_rules.proofs.names.check_names.Goals as goal

pub returns-then-are_unlike-clause-valid : goal.returns-then-are_unlike-clause-valid
returns-then-are_unlike-clause-valid c = distinct-mixed c.args.exports.now (subst (IsDistinct nat_eq) (c.deref_mut.ensures.value ∙ c.in-Ok.ensures) (c.are_unlike.ensures c.if-are_unlike.true))
