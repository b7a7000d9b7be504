-- The item stands behind those that were there, at the index that is their number.
use Rattle.std.proofs.Common.{rules, ap, subst, ◌∙◌, ◌≡◌, sym, ℕ, ◌∷◌, ◌++◌, [], length, map}
use Rattle.std.proofs.lemmas.List.{map-append}
use Rattle.binary_modules.specs.Items.{placed}
use Rattle.binary_modules.specs.Kept.{Adds}
use Rattle.binary_modules.proofs.entries.read_entry.Goals as goal

pub returns-clause-read : goal.returns-clause-read
returns-clause-read g c =
    let e = c.in_ok-item.ensures.read in
    let at : c.in-Ok.index ≡ length c.args.items.now.items = search rules in
    let P : ℕ → Type 0 = λ n. Adds c.args.initializers.now (placed n (e.0 ∷ [])) c.read.new.initializers in (
      e.0,
      e.1,
      ap (map g.T.Entry.unplaced) c.in_ok-push.ensures.added
          ∙ map-append g.T.Entry.unplaced c.args.items.now.items (c.in_ok-item.item ∷ [])
          ∙ ap (λ x. map g.T.Entry.unplaced c.args.items.now.items ++ x ∷ []) (sym e.2),
      subst P at e.3,
    )
