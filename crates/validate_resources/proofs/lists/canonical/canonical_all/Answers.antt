use Rattle.std.proofs.Common.{◌≡◌, ◌++◌, ◌∷◌, ◌∙◌, [], arith, ap, sym, map, take}
use Rattle.std.specs.List.{list_all}
use Rattle.std.proofs.lemmas.Bool.{and_from}
use Rattle.std.proofs.lemmas.Grind.{common_steps}
use Rattle.std.proofs.lemmas.List.{map_more}
use Rattle.std.proofs.lemmas.List.Folds.{list_all_more, list_all_at}
use Rattle.std.proofs.lemmas.Result.{err_from_is_err_and}
use Rattle.validate_resources.proofs.lists.canonical.canonical_all.Goals as goal

pub loop-item-preserved : goal.loop-item-preserved
loop-item-preserved g c =
    let i = c.loop-item.item-index in
    let pushed : c.push.new.self.items ≡ c.loop-item.forms.items ++ c.in_ok-form.form ∷ [] = grind (arith, common_steps) in
    let known = g.T.Canonical.known c.args.count in
    record {
      known = list_all_more known c.args.items.now i c.item-item.result c.loop-item-test.true
          ∙ and_from (list_all known (take i c.args.items.now)) _ c.loop-item.invariant.known
          (sym (ap known c.item-item.is) ∙ c.in_ok-form.ensures.known);
      form = pushed
          ∙ (ap (λ xs. xs ++ c.in_ok-form.form ∷ []) c.loop-item.invariant.form
          ∙ (ap (λ y. map g.T.Canonical.form (take i c.args.items.now) ++ y ∷ []) (c.in_ok-form.ensures.form ∙ ap g.T.Canonical.form c.item-item.is)
          ∙ sym (map_more g.T.Canonical.form c.args.items.now i c.item-item.result c.loop-item-test.true)));
    }

pub returns-in_err-form-clause-refused : goal.returns-in_err-form-clause-refused
returns-in_err-form-clause-refused g c =
    let p = err_from_is_err_and c.from_residual.result c.from_residual.ensures.1 in
    let known = g.T.Canonical.known c.args.count in
    rw (p.1, p.2) (λ h. list_all_at known c.args.items.now c.loop-item.item-index c.item-item.result c.loop-item-test.true (sym (ap known c.item-item.is) ∙ c.in_err-form.ensures.refused h))
