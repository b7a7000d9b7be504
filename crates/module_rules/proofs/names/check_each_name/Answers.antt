use Rattle.std.proofs.Common.{◌≡◌, ◌∙◌, ◌+◌, true, false, List, ℕ, [], ◌∷◌, ◌++◌, take, length, ap, sym, arith, get_or, ◌<◌}
use Rattle.std.specs.List.{list_any}
use Rattle.std.specs.Str.{bytes_eq}
use Rattle.std.proofs.lemmas.Bool.{not-true, not-false}
use Rattle.std.proofs.lemmas.Grind.{common_steps}
use Rattle.std.proofs.lemmas.List.{map_more}
use Rattle.module_rules.specs.Exported.{Exported}
use Rattle.module_rules.specs.Exports.{are_distinct, names_of}
use Rattle.module_rules.proofs.Distinct.{holds-push, distinct-new, distinct-old, whole-false}
use Rattle.module_rules.proofs.names.check_each_name.Goals as goal

-- the names so far, and one more
more : (es : List Exported) (i : ℕ) (e : Exported) (name : List ℕ) → i < length es → name ≡ (get_or es i e).name → names_of (take (i + 1) es) ≡ names_of (take i es) ++ name ∷ []
more es i e name h is = map_more (λ (e : Exported). e.name) es i e h ∙ ap (λ x. names_of (take i es) ++ x ∷ []) (sym is)

pub returns-in-Ok-false-clause-invalid : goal.returns-in-Ok-false-clause-invalid
returns-in-Ok-false-clause-invalid c =
    let i = c.loop-export.export-index in
    let es = c.args.exports.now in
    let key = c.as_str.result in
    let name : key.now ≡ (get_or es i c.export-item.result).name = grind (arith, common_steps) in
    let known : list_any (bytes_eq key.now) (names_of (take i es)) ≡ true =
    sym (c.loop-export.invariant.held key) ∙ not-false _ (sym c.in-Ok-false.ensures.added ∙ c.in-Ok-false.field-0-test) in
    λ _. whole-false es (i + 1) (ap are_distinct (more es i c.export-item.result key.now c.loop-export-test.true name) ∙ distinct-old _ key.now known)

pub loop-export-preserved : goal.loop-export-preserved
loop-export-preserved c =
    let i = c.loop-export.export-index in
    let es = c.args.exports.now in
    let key = c.as_str.result in
    let name : key.now ≡ (get_or es i c.export-item.result).name = grind (arith, common_steps) in
    let names = more es i c.export-item.result key.now c.loop-export-test.true name in
    let absent : list_any (bytes_eq key.now) (names_of (take i es)) ≡ false =
    sym (c.loop-export.invariant.held key) ∙ not-true _ (sym c.in-Ok-true.ensures.added ∙ c.in-Ok-true.field-0-test) in
    record {
      distinct = ap are_distinct names ∙ distinct-new _ key.now c.loop-export.invariant.distinct absent;
      held = λ q. holds-push c.loop-export.names c.insert.new.self key _ c.loop-export.invariant.held c.in-Ok-true.ensures.updates q
          ∙ sym (ap (list_any (bytes_eq q.now)) names);
    }
