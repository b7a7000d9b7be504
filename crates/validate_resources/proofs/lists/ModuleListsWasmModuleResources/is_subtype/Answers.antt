use Rattle.std.proofs.Common.{◌∙◌, ap}
use Rattle.validate_resources.specs.Kept.{declared_lists}
use Rattle.validate_resources.specs.Order.{is_type_below}
use Rattle.validate_resources.specs.Lawful.{few_types}
use Rattle.validate_resources.specs.Lawful.Forms.{below-valid}
use Rattle.validate_resources.proofs.lists.ModuleListsWasmModuleResources.is_subtype.Goals as goal

pub returns : goal.returns
returns c h k =
    c.is_type_below.ensures
    ∙ ap (λ types. is_type_below types c.args.a c.args.b) c.deref.ensures.value
    ∙ below-valid (declared_lists c.args.self.now) (few_types (declared_lists c.args.self.now) c.args.self.now.module) c.args.a c.args.b h k
