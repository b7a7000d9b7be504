use Rattle.std.proofs.Common.{◌∙◌, ap}
use Rattle.module_rules.specs.Features.{operator_features}
use Rattle.c_api.proofs.shared.HeldModule.features.Goals as goal

pub returns-in-Whole : goal.returns-in-Whole
returns-in-Whole c = rw c.in-Whole.is (c.operator_features.ensures ∙ ap operator_features c.features.ensures)

pub returns-in-Declared : goal.returns-in-Declared
returns-in-Declared c = rw c.in-Declared.is (c.operator_features-in-Declared.ensures ∙ ap operator_features c.features-in-Declared.ensures)
