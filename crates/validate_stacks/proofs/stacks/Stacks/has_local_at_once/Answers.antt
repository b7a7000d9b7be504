use Rattle.std.proofs.Common.{[], ◌∷◌, Some, sym, ap, ◌∙◌}
use Rattle.std.specs.Option.{option_map}
use Rattle.validate_stacks.specs.Pops.{body_pushed_each}
use Rattle.validate_stacks.proofs.AtOnce.{dropped_none, known_popped, known_stays}
use Rattle.validate_stacks.proofs.stacks.Stacks.has_local_at_once.Goals as goal

pub returns : goal.returns
returns g c h =
    let md = g.R.WasmModuleResources.context c.args.resources.now in
    let v = c.args.self.now.body in
    let t = c.args.ty in
    let found = c.has_local.ensures.found h in
    let gone = known_popped md (g.met.R.WasmModuleResources.lawful c.args.resources.now) v t c.requires.valid found in
    ap (option_map (body_pushed_each (t ∷ []))) gone
    ∙ ap Some (sym (known_stays 0 t v (c.has_local.ensures.own h) found) ∙ dropped_none v)
