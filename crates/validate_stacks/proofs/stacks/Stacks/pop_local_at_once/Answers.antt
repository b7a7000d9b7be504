use Rattle.std.proofs.Common.{[], Some, sym, ap, ◌∙◌, arith}
use Rattle.std.specs.Option.{option_map}
use Rattle.validate_stacks.specs.Pops.{body_pushed_each}
use Rattle.validate_stacks.proofs.AtOnce.{known_popped}
use Rattle.validate_stacks.proofs.stacks.Stacks.pop_local_at_once.Goals as goal

pub drop_operands-requires-clause-own : goal.drop_operands-requires-clause-own
drop_operands-requires-clause-own g c = omega (arith, c.has_local.ensures.own c.if-not-has_local.false)

pub returns-clause-exact : goal.returns-clause-exact
returns-clause-exact g c =
    let md = g.R.WasmModuleResources.context c.args.resources.now in
    let v = c.args.self.now.body in
    let found = c.has_local.ensures.found c.if-not-has_local.false in
    let gone = known_popped md (g.met.R.WasmModuleResources.lawful c.args.resources.now) v c.args.ty c.requires.valid found in
    ap (option_map (body_pushed_each [])) gone ∙ ap Some (sym c.drop_operands.ensures.dropped)
