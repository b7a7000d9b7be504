-- No expressions, and an expression more, or none where one can't be read.
use Rattle.std.proofs.Common.{arith, ap, subst, sym, ◌∙◌, ◌≡◌, ◌-◌, ◌∷◌, ◌++◌, [], List, map}
use Rattle.std.proofs.lemmas.List.{map-append}
use Rattle.std.proofs.lemmas.Result.{err_from_is_err_and}
use Rattle.binary_operators.specs.Values.{so_many}
use Rattle.binary_operators.proofs.Items.{no_front, one_more, none_more}
use Rattle.module_rules.specs.declared.module.Place.{Place}
use Rattle.module_rules.specs.declared.module.Place.TheVariants.{Element as ElementItem}
use Rattle.binary_modules.specs.Initializers.{Expression, expression}
use Rattle.binary_modules.specs.Kept.{Adds}
use Rattle.binary_modules.proofs.Added.{adds_none, adds_both}
use Rattle.binary_modules.proofs.elements.read_expressions.Goals as goal

pub loop-init : goal.loop-init
loop-init c =
    let reading = expression c.args.canonical in
    let all : c.args.count - 0 ≡ c.args.count = omega arith in (
      [],
      no_front (so_many reading (c.args.count - 0) c.args.reader.now.left)
          ∙ ap (λ n. so_many reading n c.args.reader.now.left) all,
      adds_none c.args.initializers.now,
    )

pub loop-preserved : goal.loop-preserved
loop-preserved c =
    let i = c.loop.invariant in
    let e = c.in_ok-read.ensures.read in
    let at = λ (x : Expression). (let p : Place × Expression = (ElementItem c.args.index, x) in p) in
    let Q : List (Place × Expression) → Type 0 = λ l. Adds c.args.initializers.now l c.read.new.self in (
      i.0 ++ e.0 ∷ [],
      sym (one_more (expression c.args.canonical) c.args.count c.loop.counter c.loop.reader.left i.0 e.0 c.read.new.reader.left c.loop-test.true e.1)
          ∙ i.1,
      subst Q (sym (map-append at i.0 (e.0 ∷ [])))
          (adds_both c.args.initializers.now c.loop.initializers c.read.new.self (map at i.0) (at e.0 ∷ []) i.2 e.2),
    )

pub returns-in_err-read-clause-refused : goal.returns-in_err-read-clause-refused
returns-in_err-read-clause-refused c =
    let p = err_from_is_err_and c.from_residual.result c.from_residual.ensures.1 in
    let i = c.loop.invariant in
    rw (p.1, p.2) (λ short.
    sym i.1
    ∙ none_more (expression c.args.canonical) c.args.count c.loop.counter c.loop.reader.left i.0 c.loop-test.true (c.in_err-read.ensures.refused short))
