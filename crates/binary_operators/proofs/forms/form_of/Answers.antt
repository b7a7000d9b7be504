-- The chart of the code is that of the standard.
use Rattle.std.proofs.Common.{ap, ◌∙◌}
use Rattle.binary_operators.specs.Forms.{from, forms}
use Rattle.binary_operators.proofs.forms.form_of.Goals as goal

pub returns : goal.returns
unfolding forms
returns c = c.item.ensures.item ∙ ap (from 0 forms) c.from.ensures
