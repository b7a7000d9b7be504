use Rattle.std.proofs.Common.{◌∙◌, ap, subst}
use Rattle.c_api.specs.Functions.{InProgress, module_under}
use Rattle.c_api.specs.Modules.{AreTypesIn}
use Rattle.c_api.proofs.function.FunctionInProgress.types.Goals as goal

pub returns : goal.returns
returns c = subst (λ h. AreTypesIn h c.types.result) (c.deref.ensures ∙ ap (λ (f : InProgress). module_under f) c.self.view_is) c.types.ensures
