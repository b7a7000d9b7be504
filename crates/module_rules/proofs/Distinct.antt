-- Names that differ, one more at a time, and a set that holds them.
use Rattle.std.proofs.Common.{◌≡◌, ◌∙◌, ℕ, Bool, true, false, ◌&&◌, ◌||◌, not, cond, List, [], ◌∷◌, ◌++◌}
use Rattle.std.proofs.Common.{map, take, drop, Bor, refl, ap, sym, arith, nat_eq, ◌<◌}
use Rattle.std.specs.BTreeSet.{BTreeSet, contains, Updates}
use Rattle.std.specs.Cmp.Lexicographic.{slice_cmp}
use Rattle.std.specs.List.{list_any, AllByRecursion, IsDistinct}
use Rattle.std.specs.List.Sorted.{IsPermutation, IsStrictlyIncreasing}
use Rattle.std.specs.Cmp.{nat_eq_equiv}
use Rattle.std.specs.Ordering.{nat_cmp}
use Rattle.std.specs.Str.{bytes_eq}
use Rattle.std.specs.declared.cmp.Ordering.{Ordering}
use Rattle.std.proofs.lemmas.Bool.{eq-eqb, eqb-true, and_parts, and_from, not_from_false, false_from_ne_true}
use Rattle.std.proofs.lemmas.Cmp.{nat_list_eq_equiv}
use Rattle.std.proofs.lemmas.List.{map-append, take-append-drop}
use Rattle.std.proofs.lemmas.List.Folds.{list_any-append}
use Rattle.std.proofs.lemmas.List.Kept.{AllPairs-from_increasing}
use Rattle.std.proofs.lemmas.List.Sorted.{IsPermutation-sym}
use Rattle.std.proofs.lemmas.Map.Keys.{IsDistinct-IsPermutation, IsDistinct-from_apart, IsDistinct-head, IsDistinct-tail}
use Rattle.std.proofs.lemmas.Map.Text.{is_eq-slice_cmp}
use Rattle.std.proofs.lemmas.Slice.Eq.{bytes_eq-Decides}
use Rattle.module_rules.specs.Exported.{Exported}
use Rattle.module_rules.specs.Exports.{are_distinct, names_of}
use Rattle.module_rules.specs.Names.{mix_name}

-- the order of names, by their texts
abbrev pub name_order : Bor (List ℕ) → Bor (List ℕ) → Ordering
name_order x y = slice_cmp nat_cmp x.now y.now

-- the set holds these names, and no others
abbrev pub Holds : BTreeSet (Bor (List ℕ)) → List (List ℕ) → Type 0
Holds s names = (q : Bor (List ℕ)) → contains name_order s q ≡ list_any (bytes_eq q.now) names

flips : (x y : List ℕ) → bytes_eq x y ≡ bytes_eq y x
flips x y = nat_list_eq_equiv.symm x y

-- ---- the set

chosen : (r b : Bool) → cond b true r ≡ (r || (b || false))
chosen true true = refl
chosen true false = refl
chosen false true = refl
chosen false false = refl

any-push : (q name : List ℕ) (names : List (List ℕ)) → cond (bytes_eq name q) true (list_any (bytes_eq q) names) ≡ list_any (bytes_eq q) (names ++ name ∷ [])
any-push q name names =
    ap (λ b. cond b true (list_any (bytes_eq q) names)) (flips name q)
    ∙ chosen (list_any (bytes_eq q) names) (bytes_eq q name)
    ∙ sym (list_any-append (bytes_eq q) names (name ∷ []))

-- a name is put into the set
pub holds-push : (s n : BTreeSet (Bor (List ℕ))) (name : Bor (List ℕ)) (names : List (List ℕ)) → Holds s names → Updates name_order s n name true → Holds n (names ++ name.now ∷ [])
holds-push s n name names h u = λ q.
    u.0 q
    ∙ ap (λ b. cond b true (contains name_order s q)) (is_eq-slice_cmp name.now q.now)
    ∙ ap (cond (bytes_eq name.now q.now) true) (h q)
    ∙ any-push q.now name.now names

-- ---- names that differ

moved : (a e d b : Bool) → (not (a || (e || false)) && (d && not b)) ≡ ((not a && d) && not (e || b))
moved true e d b = refl
moved false true true b = refl
moved false true false b = refl
moved false false d b = refl

pub distinct-push : (xs : List (List ℕ)) (y : List ℕ) → are_distinct (xs ++ y ∷ []) ≡ (are_distinct xs && not (list_any (bytes_eq y) xs))
distinct-push [] y = refl
distinct-push (x ∷ xs) y =
    ap (λ b. not b && are_distinct (xs ++ y ∷ [])) (list_any-append (bytes_eq x) xs (y ∷ []))
    ∙ ap (λ b. not (list_any (bytes_eq x) xs || (bytes_eq x y || false)) && b) (distinct-push xs y)
    ∙ moved (list_any (bytes_eq x) xs) (bytes_eq x y) (are_distinct xs) (list_any (bytes_eq y) xs)
    ∙ ap (λ b. (not (list_any (bytes_eq x) xs) && are_distinct xs) && not (b || list_any (bytes_eq y) xs)) (flips x y)

none_in_front : (a c : Bool) → not (a || c) ≡ true → not a ≡ true
none_in_front true c h = h
none_in_front false c h = refl

distinct-front : (xs ys : List (List ℕ)) → are_distinct (xs ++ ys) ≡ true → are_distinct xs ≡ true
distinct-front [] ys h = refl
distinct-front (x ∷ xs) ys h =
    let p = and_parts (not (list_any (bytes_eq x) (xs ++ ys))) _ h in
    and_from _ _ (none_in_front (list_any (bytes_eq x) xs) (list_any (bytes_eq x) ys)
    (sym (ap not (list_any-append (bytes_eq x) xs ys)) ∙ p.0)) (distinct-front xs ys p.1)

-- where the names of the first exports don't differ, those of all don't
pub whole-false : (es : List Exported) (n : ℕ) → are_distinct (names_of (take n es)) ≡ false → are_distinct (names_of es) ≡ false
whole-false es n h = false_from_ne_true (are_distinct (names_of es)) (λ t.
    let all : names_of es ≡ names_of (take n es) ++ names_of (drop n es) =
    ap names_of (sym (take-append-drop n es)) ∙ map-append (λ (e : Exported). e.name) (take n es) (drop n es) in
    let front = distinct-front (names_of (take n es)) (names_of (drop n es)) (sym (ap are_distinct all) ∙ t) in
    let both : true ≡ false = sym front ∙ h in
    cc)

-- one more name, which is none of those before
pub distinct-new : (xs : List (List ℕ)) (y : List ℕ) → are_distinct xs ≡ true → list_any (bytes_eq y) xs ≡ false → are_distinct (xs ++ y ∷ []) ≡ true
distinct-new xs y d n = distinct-push xs y ∙ and_from _ _ d (not_from_false _ n)

-- one more name, which is one of those before
pub distinct-old : (xs : List (List ℕ)) (y : List ℕ) → list_any (bytes_eq y) xs ≡ true → are_distinct (xs ++ y ∷ []) ≡ false
distinct-old xs y n = distinct-push xs y ∙ ap (λ b. are_distinct xs && not b) n ∙ none (are_distinct xs)
  where
    none : (b : Bool) → (b && false) ≡ false
    none true = refl
    none false = refl

-- ---- numbers that differ

unequal : (x y : ℕ) → x < y → nat_eq x y ≡ false
unequal x y less = false_from_ne_true (nat_eq x y) (λ e. let same : x ≡ y = eqb-true x y e in omega (arith, less, same))

pub unlike-increasing : (ns : List ℕ) → IsStrictlyIncreasing ns → IsDistinct nat_eq ns
unlike-increasing ns h = IsDistinct-from_apart nat_eq ns (λ i j d p q. unequal _ _ (AllPairs-from_increasing ns h i j d p q))

flipped : (x y : ℕ) → nat_eq x y ≡ nat_eq y x
flipped x y = nat_eq_equiv.symm x y

pub unlike-before : (ns ms : List ℕ) → IsPermutation ns ms → IsStrictlyIncreasing ms → IsDistinct nat_eq ns
unlike-before ns ms p h = IsDistinct-IsPermutation nat_eq flipped ms ns (IsPermutation-sym ns ms p) (unlike-increasing ms h)

-- the number that is mixed from its name
abbrev mixed : Exported → ℕ
mixed e = mix_name e.name

unlike_names : (x y : List ℕ) → nat_eq (mix_name x) (mix_name y) ≡ false → bytes_eq x y ≡ false
unlike_names x y h = false_from_ne_true (bytes_eq x y) (λ e. let one : nat_eq (mix_name x) (mix_name y) ≡ true = eq-eqb _ _ (ap mix_name ((bytes_eq-Decides x y).0 e)) in
    let both : true ≡ false = sym one ∙ h in
    cc)

neither : (a b : Bool) → a ≡ false → b ≡ false → (a || b) ≡ false
neither a b h k = ap (λ x. x || b) h ∙ k

absent : (name : List ℕ) (es : List Exported) → AllByRecursion (λ n. nat_eq (mix_name name) n ≡ false) (map mixed es) → list_any (bytes_eq name) (names_of es) ≡ false
absent name [] h = refl
absent name (e ∷ es) h = neither _ _ (unlike_names name e.name h.0) (absent name es h.1)

pub distinct-mixed : (es : List Exported) → IsDistinct nat_eq (map mixed es) → are_distinct (names_of es) ≡ true
distinct-mixed [] d = refl
distinct-mixed (e ∷ es) d = and_from _ _ (not_from_false _ (absent e.name es (IsDistinct-head nat_eq (mixed e) (map mixed es) d))) (distinct-mixed es (IsDistinct-tail nat_eq (mixed e) (map mixed es) d))
