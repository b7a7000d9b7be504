-- No items, and an item more, or none where one can't be read.
use Rattle.std.proofs.Common.{arith, ap, subst, sym, ◌∙◌, ◌≡◌, ℕ, ◌+◌, ◌-◌, ◌∷◌, ◌++◌, [], List, length, map, append_assoc, append-nil}
use Rattle.std.proofs.lemmas.List.{map-append, length_push}
use Rattle.std.proofs.lemmas.Result.{err_from_is_err_and}
use Rattle.binary_operators.specs.Values.{so_many}
use Rattle.binary_operators.proofs.Items.{no_front, one_more, list_broken}
use Rattle.module_rules.specs.declared.module.Place.{Place}
use Rattle.binary_modules.specs.Initializers.{Expression}
use Rattle.binary_modules.specs.Items.{Item, declared_items, placed}
use Rattle.binary_modules.specs.Kept.{Adds}
use Rattle.binary_modules.proofs.Added.{adds_none, adds_both, placed_more}
use Rattle.binary_modules.proofs.entries.read_entries.Goals as goal

pub loop-init : goal.loop-init
loop-init g c =
    let reading = g.T.Entry.reading c.args.canonical in
    let all : c.in_ok-count.count - 0 ≡ c.in_ok-count.count = omega arith in (
      [],
      no_front (so_many reading (c.in_ok-count.count - 0) c.read_var_u32.new.self.left)
          ∙ ap (λ n. so_many reading n c.read_var_u32.new.self.left) all,
      ap (map g.T.Entry.unplaced) c.make_room.ensures.kept ∙ sym (append-nil (map g.T.Entry.unplaced c.args.items.now.items)),
      omega (arith, ap length c.make_room.ensures.kept),
      adds_none c.args.initializers.now,
    )

pub loop-preserved : goal.loop-preserved
loop-preserved g c =
    let i = c.loop.invariant in
    let front = i.0 in
    let e = c.in_ok-read_entry.ensures.read in
    let item = e.0 in
    let reading = g.T.Entry.reading c.args.canonical in
    let count = c.in_ok-count.count in
    let first = length c.args.items.now.items in
    let before = map g.T.Entry.unplaced c.args.items.now.items in
    let P : ℕ → Type 0 = λ n. Adds c.loop.initializers (placed n (item ∷ [])) c.read_entry.new.initializers in
    let Q : List (Place × Expression) → Type 0 = λ l. Adds c.args.initializers.now l c.read_entry.new.initializers in
    let pushed = length_push front item in
    let more = c.in_ok-read_entry.ensures.more in (
      front ++ item ∷ [],
      sym (one_more reading count c.loop.counter c.loop.reader.left front item c.read_entry.new.reader.left c.loop-test.true e.1)
          ∙ i.1,
      e.2
          ∙ ap (λ l. l ++ item.declared ∷ []) i.2
          ∙ append_assoc before (declared_items front) (item.declared ∷ [])
          ∙ ap (λ l. before ++ l) (sym (map-append (λ (x : Item _). x.declared) front (item ∷ []))),
      omega (arith, pushed, more, i.3),
      subst Q (placed_more first front item)
          (adds_both c.args.initializers.now c.loop.initializers c.read_entry.new.initializers (placed first front) (placed (first + length front) (item ∷ [])) i.4 (subst P i.3 e.3)),
    )

pub returns-in_err-read_entry-clause-refused : goal.returns-in_err-read_entry-clause-refused
returns-in_err-read_entry-clause-refused g c =
    let p = err_from_is_err_and c.from_residual-in_err-read_entry.result c.from_residual-in_err-read_entry.ensures.1 in
    let i = c.loop.invariant in
    rw (p.1, p.2) (λ short.
    list_broken (g.T.Entry.reading c.args.canonical) c.args.reader.now.left c.in_ok-count.count c.loop.counter c.read_var_u32.new.self.left c.loop.reader.left i.0 c.in_ok-count.ensures.read
    i.1 c.loop-test.true (c.in_err-read_entry.ensures.refused short))
