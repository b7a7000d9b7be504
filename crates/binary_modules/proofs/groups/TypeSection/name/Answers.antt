-- A type more is named.
use Rattle.std.proofs.Common.{rules, ap, ◌∙◌, ◌≡◌, ◌+◌, ◌++◌, ◌∷◌, [], append_assoc}
use Rattle.std.specs.List.{range_with_len}
use Rattle.binary_modules.proofs.Grouped.{range_more}
use Rattle.binary_modules.proofs.groups.TypeSection.name.Goals as goal

pub loop-place-preserved : goal.loop-place-preserved
loop-place-preserved c =
    let first = c.args.first in
    let place = c.loop-place.place in
    let before = c.args.self.now.canonical.items in
    let named = range_with_len first place in
    let i : c.in-Some.index ≡ first + place = search rules in (
      c.in_ok-push.ensures.added
          ∙ ap (λ l. l ++ c.in-Some.index ∷ []) c.loop-place.invariant.0
          ∙ append_assoc before named (c.in-Some.index ∷ [])
          ∙ ap (λ m. before ++ (named ++ m ∷ [])) i
          ∙ ap (λ l. before ++ l) (range_more first place),
      c.loop-place.invariant.1,
      c.loop-place.invariant.2,
    )
