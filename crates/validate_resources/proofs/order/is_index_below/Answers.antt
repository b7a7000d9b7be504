use Rattle.std.proofs.Common.{◌∙◌, sym}
use Rattle.validate_resources.specs.Lawful.Chains.{step-on, step-off}
use Rattle.validate_resources.proofs.order.is_index_below.Goals as goal

pub loop-at-preserved : goal.loop-at-preserved
loop-at-preserved c = step-on _ c.loop-at.at _ _ (sym c.in-Some.ensures) c.loop-at-test.true ∙ c.loop-at.invariant

pub returns-in-None : goal.returns-in-None
returns-in-None c = sym (step-off _ c.loop-at.at _ (sym c.supertype_of.ensures ∙ c.in-None.is) c.loop-at-test.true) ∙ c.loop-at.invariant
