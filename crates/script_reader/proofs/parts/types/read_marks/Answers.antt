use Rattle.std.proofs.Common.{rules, tests, ◌≡◌, ◌+◌, ℕ, List, codes, length, map, refl, sym, ap₂, ◌∙◌}
use Rattle.std.proofs.lemmas.Iterator.{YieldsList-from_slice}
use Rattle.std.proofs.lemmas.Iterator.Search.{any_from_yields_List}
use Rattle.script_reader.specs.Access.{text_after, one_if_some}
use Rattle.script_reader.specs.Types.{AreMarks, other_marks}
use Rattle.script_reader.proofs.Marks.{text_of, index_is_given, is_shared, is_other, others_of, is_marked}
use Rattle.std.proofs.lemmas.Iterator.Consumers.{count_from_yields_List, YieldsList-from_filter}
use Rattle.script_reader.proofs.parts.types.read_marks.Goals as goal

pub returns-clause-shared : goal.returns-clause-shared
returns-clause-shared c = is_marked c.args.marks.now c.any.result (any_from_yields_List is_shared _ _ c.any.result c.any.ensures.ran (YieldsList-from_slice c.args.marks.now cc) (λ x b q k. search (rules, tests)))

-- how many marks give an index
abbrev given : List (List ℕ) → ℕ
given marks =
    one_if_some (text_after (codes "sub=") marks) + one_if_some (text_after (codes "desc=") marks)
    + one_if_some (text_after (codes "describes=") marks)

pub returns-then-others-given-clause-known : goal.returns-then-others-given-clause-known
returns-then-others-given-clause-known c =
    let marks = c.args.marks.now in
    let counted = count_from_yields_List _ c.count-others.result c.count-others.ensures.ran (YieldsList-from_filter _ is_other (YieldsList-from_slice marks cc) c.filter.ensures.closure (λ x b q k. search (rules, tests))) in
    let sub = index_is_given (codes "sub=") (map text_of marks) _ _ _ c.in_ok-supertype_idx.ensures.index c.is_some.ensures c.from.ensures in
    let desc = index_is_given (codes "desc=") (map text_of marks) _ _ _ c.in_ok-descriptor_idx.ensures.index c.is_some-2.ensures c.from-2.ensures in
    let describes = index_is_given (codes "describes=") (map text_of marks) _ _ _ c.in_ok-describes_idx.ensures.index c.is_some-3.ensures c.from-3.ensures in
    let said : given (map text_of marks) ≡ c.from.result + c.from-2.result + c.from-3.result = ap₂ (λ a b. a + b) (ap₂ (λ a b. a + b) sub desc) describes in
    ((λ never. absurd cc), (λ (are : AreMarks (map text_of marks)). absurd (c.if-others-given.true (counted ∙ others_of marks ∙ are.known ∙ said))))

pub returns-clause-known : goal.returns-clause-known
returns-clause-known c =
    let marks = c.args.marks.now in
    let counted = count_from_yields_List _ c.count-others.result c.count-others.ensures.ran (YieldsList-from_filter _ is_other (YieldsList-from_slice marks cc) c.filter.ensures.closure (λ x b q k. search (rules, tests))) in
    let sub = index_is_given (codes "sub=") (map text_of marks) _ _ _ c.in_ok-supertype_idx.ensures.index c.is_some.ensures c.from.ensures in
    let desc = index_is_given (codes "desc=") (map text_of marks) _ _ _ c.in_ok-descriptor_idx.ensures.index c.is_some-2.ensures c.from-2.ensures in
    let describes = index_is_given (codes "describes=") (map text_of marks) _ _ _ c.in_ok-describes_idx.ensures.index c.is_some-3.ensures c.from-3.ensures in
    let said : given (map text_of marks) ≡ c.from.result + c.from-2.result + c.from-3.result = ap₂ (λ a b. a + b) (ap₂ (λ a b. a + b) sub desc) describes in
    let known : length (other_marks (map text_of marks)) ≡ given (map text_of marks) = sym (counted ∙ others_of marks) ∙ c.if-others-given.false ∙ sym said in (
      (λ e. record {
        known = known;
        supertype = c.in_ok-supertype_idx.ensures.known.0 refl;
        descriptor = c.in_ok-descriptor_idx.ensures.known.0 refl;
        described = c.in_ok-describes_idx.ensures.known.0 refl;
      }),
      (λ are. refl),
    )
