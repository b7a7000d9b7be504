use Rattle.std.proofs.Common.{◌≡◌, Bool, true, false, MatchBool, Some, reverse, refl, sym, ◌∙◌, ap}
use Rattle.std.specs.Option.{option_map}
use Rattle.validate_stacks.specs.AtOnce.{pushed_list}
use Rattle.validate_stacks.specs.Pops.{body_pushed_each}
use Rattle.validate_stacks.proofs.PopRuns.{dead_stays}
use Rattle.validate_stacks.proofs.stacks.Stacks.exchange_in_dead_code.Goals as goal

made : {P Q : Type 0} (R : Type 0) (b : Bool) → (b ≡ true → P → Q) → MatchBool b P R → MatchBool b Q R
made R true f m = f refl m
made R false f m = m

pub returns-in-Some-clause-exact : goal.returns-in-Some-clause-exact
returns-in-Some-clause-exact g c =
    let md = g.R.WasmModuleResources.context c.args.resources.now in
    let v = c.args.self.now.body in
    let bare = c.push_in_dead_code.ensures.bare in
    let dead = c.push_in_dead_code.ensures.dead in
    let pushed = body_pushed_each (pushed_list c.args.pushed) in
    made _ c.push_in_dead_code.result (λ yes e. ap (option_map pushed) (dead_stays md v (bare yes) (dead yes) (reverse c.args.expected.now)) ∙ ap (λ p. Some (body_pushed_each (pushed_list p) v)) c.in-Some.is ∙ ap Some (sym e)) c.push_in_dead_code.ensures.exact
