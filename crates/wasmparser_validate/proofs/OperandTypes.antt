-- The types of all operands, one after the other from the lowest up.
use Rattle.std.proofs.Common.{◌≡◌, ℕ, zero, suc, ◌+◌, ◌<◌, ◌≤◌, List, [], ◌∷◌, ◌++◌, map, reverse, drop, length, slice_get, Option, Some, None, sym, ap, ◌∙◌, subst, arith, length-append}
use Rattle.std.specs.List.{flat_map}
use Rattle.std.specs.Option.{option_map}
use Rattle.std.proofs.lemmas.List.{reverse-append, map-append, drop_all}
use Rattle.std.proofs.lemmas.Option.{slice_get-get_or}
use Rattle.validation_rules.specs.Context.{ValType}
use Rattle.validation_rules.specs.Fits.{MaybeType, Bottom}
use Rattle.validation_rules.specs.Static.{Frame, operand_count_in}
use Rattle.validate_stacks.specs.Steps.{all_operands, known_type}

pub length-all : (fs : List Frame) (left : List MaybeType) → length (all_operands fs left) ≡ operand_count_in fs + length left
length-all [] left = omega arith
length-all (f ∷ fs) left =
    let rest : List MaybeType = flat_map (λ (h : Frame). h.operands) fs in
    omega (arith, length-append (f.operands ++ rest) left, length-append f.operands rest, length-append rest left, length-all fs left)

-- one operand further from the top
types_further : (all : List MaybeType) (i : ℕ) (ty : Option ValType) → option_map known_type (slice_get all i) ≡ Some ty → map known_type (reverse (drop i all)) ≡ map known_type (reverse (drop (suc i) all)) ++ ty ∷ []
types_further [] i ty h = absurd cc
types_further (x ∷ all) zero ty h =
    let same : known_type x ≡ ty = cc in
    ap (map known_type) (reverse-append (x ∷ []) all) ∙ (map-append known_type (reverse all) (x ∷ []) ∙ ap (λ t. map known_type (reverse all) ++ t ∷ []) same)
types_further (x ∷ all) (suc i) ty h = types_further all i ty h

pub types_more : (all : List MaybeType) (i j : ℕ) (ty : Option ValType) → j ≡ suc i → option_map known_type (slice_get all i) ≡ Some ty → map known_type (reverse (drop i all)) ≡ map known_type (reverse (drop j all)) ++ ty ∷ []
types_more all i j ty e h = subst (λ n. map known_type (reverse (drop i all)) ≡ map known_type (reverse (drop n all)) ++ ty ∷ []) (sym e) (types_further all i ty h)

-- from the top on there is none
pub types_none : (all : List MaybeType) (n : ℕ) → length all ≤ n → map known_type (reverse (drop n all)) ≡ []
types_none all n h = ap (λ (l : List MaybeType). map known_type (reverse l)) (drop_all n all h)

-- below it there is one
pub type_there : (all : List MaybeType) (i : ℕ) → i < length all → option_map known_type (slice_get all i) ≡ None → ⊥
type_there all i h none =
    let there = slice_get-get_or all i Bottom h in
    let clash = sym (ap (option_map known_type) there) ∙ none in
    absurd cc
