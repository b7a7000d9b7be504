use Rattle.std.proofs.Common.{Some, sym, ap, subst, ◌∙◌}
use Rattle.validation_rules.specs.Valid.{IsValidOperand}
use Rattle.validate_stacks.specs.Pops.{may_pop}
use Rattle.validate_stacks.specs.State.{body_context}
use Rattle.validate_stacks.proofs.stacks.Stacks.is_fitting.Goals as goal

pub returns-in-Known : goal.returns-in-Known
returns-in-Known g c =
    let md = g.R.WasmModuleResources.context c.args.resources.now in
    let valid = subst (IsValidOperand md) c.in-Known.is c.requires.found in
    c.is_subtype.ensures valid c.requires.expected ∙ sym (ap (λ o. may_pop (body_context md c.args.self.now.body) (Some o) (Some c.args.expected)) c.in-Known.is)
