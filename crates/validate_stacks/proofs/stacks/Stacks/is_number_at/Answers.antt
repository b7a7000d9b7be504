use Rattle.std.proofs.Common.{Some, sym, ap, ◌∙◌}
use Rattle.validate_stacks.specs.Pops.{may_pop}
use Rattle.validate_stacks.specs.State.{body_context}
use Rattle.validate_stacks.proofs.AtOnce.{fits_by}
use Rattle.validate_stacks.proofs.stacks.Stacks.is_number_at.Goals as goal

pub returns-in-Some : goal.returns-in-Some
returns-in-Some g c = λ yes.
    let md = g.R.WasmModuleResources.context c.args.resources.now in
    let v = c.args.self.now.body in
    let fits = fits_by md (g.met.R.WasmModuleResources.lawful c.args.resources.now) v c.in-Some.found c.args.expected.now c.requires.expected (c.fits_at_once.ensures yes) in
    ap (λ o. may_pop (body_context md v) o (Some c.args.expected.now)) (sym c.operand_found_of.ensures ∙ c.in-Some.is) ∙ fits
