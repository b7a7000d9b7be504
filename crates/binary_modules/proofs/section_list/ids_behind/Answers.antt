-- The id at this place is that one, or another.
use Rattle.std.proofs.Common.{rules, arith, ◌≡◌, ◌+◌, ◌∷◌, drop, get_or}
use Rattle.std.proofs.lemmas.List.{at_drop_more}
use Rattle.std.proofs.lemmas.Grind.{common_steps}
use Rattle.binary_modules.specs.Sections.{ids_behind}
use Rattle.binary_modules.proofs.section_list.ids_behind.Goals as goal

pub returns-then-ids-place : goal.returns-then-ids-place
returns-then-ids-place c =
    let id = c.args.id in
    let ids = c.args.ids.now in
    let place = c.loop-place.place in
    let here : ids_behind id (drop place ids) ≡ ids_behind id (get_or ids place 0 ∷ drop (place + 1) ids) =
    at_drop_more (ids_behind id) ids place 0 (search rules) in
    let before = c.loop-place.invariant in
    grind (arith, common_steps, here, before)

pub loop-place-preserved : goal.loop-place-preserved
loop-place-preserved c =
    let id = c.args.id in
    let ids = c.args.ids.now in
    let place = c.loop-place.place in
    let here : ids_behind id (drop place ids) ≡ ids_behind id (get_or ids place 0 ∷ drop (place + 1) ids) =
    at_drop_more (ids_behind id) ids place 0 (search rules) in
    let before = c.loop-place.invariant in
    grind (arith, common_steps, here, before)
