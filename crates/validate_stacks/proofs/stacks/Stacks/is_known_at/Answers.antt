use Rattle.std.proofs.Common.{Some, sym, ap, ◌∙◌}
use Rattle.std.specs.Option.{option_copied}
use Rattle.validate_stacks.specs.Pops.{may_pop}
use Rattle.validate_stacks.specs.State.{body_context}
use Rattle.validate_stacks.proofs.KnownAs.{known_as_fits}
use Rattle.validate_stacks.proofs.stacks.Stacks.is_known_at.Goals as goal

pub returns-in-Some : goal.returns-in-Some
returns-in-Some g c = λ yes.
    let md = g.R.WasmModuleResources.context c.args.resources.now in
    let v = c.args.self.now.body in
    let fits = known_as_fits md (g.met.R.WasmModuleResources.lawful c.args.resources.now) v c.in-Some.operand.now c.args.expected.now c.requires.expected (c.is_known_as.ensures yes) in
    ap (λ o. may_pop (body_context md v) o (Some c.args.expected.now)) (sym c.own_operand.ensures ∙ ap option_copied c.in-Some.is) ∙ fits
