use Rattle.std.proofs.Common.{Some, sym, ap, ◌∙◌}
use Rattle.validate_stacks.specs.Pops.{may_pop}
use Rattle.validate_stacks.specs.State.{body_context}
use Rattle.validate_stacks.proofs.KnownAs.{known_as_fits}
use Rattle.validate_stacks.proofs.stacks.Stacks.is_fitting_by_order.Goals as goal

pub returns-then-is_known_as : goal.returns-then-is_known_as
returns-then-is_known_as g c =
    let md = g.R.WasmModuleResources.context c.args.resources.now in
    let v = c.args.self.now.body in
    let fits = known_as_fits md (g.met.R.WasmModuleResources.lawful c.args.resources.now) v c.in-Some.found c.args.expected.now c.requires.expected (c.is_known_as.ensures c.if-is_known_as.true) in
    c.if-is_known_as.true ∙ sym (ap (λ o. may_pop (body_context md v) o (Some c.args.expected.now)) (sym c.operand_found.ensures ∙ c.in-Some.is) ∙ fits)
