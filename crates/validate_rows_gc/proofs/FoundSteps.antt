-- The steps of operators that look for references below an abstract type, by their pops.
use Rattle.std.proofs.Common.{◌≡◌, ◌≢◌, ℕ, min, length, Bool, true, false, ◌&&◌, [], ◌∷◌, Option, Some, None, Result, MatchResult, IfErr, refl, sym, ap, ◌∙◌, subst}
use Rattle.std.specs.Option.{option_map, option_and_then}
use Rattle.validate_resources.specs.Context.{ModuleContext}
use Rattle.validate_types.specs.declared.heap.AbstractHeapType.{AbstractHeapType}
use Rattle.validate_types.specs.declared.heap.AbstractHeapType.TheVariants.{Eq}
use Rattle.validation_rules.specs.Context.{I32, Context}
use Rattle.validation_rules.specs.Fits.{MaybeType, Known}
use Rattle.validation_rules.specs.Found.{is_found_below, found_pushes, is_same_sharedness, ref_eq_pushes, ref_eq_row}
use Rattle.validate_rows_gc.specs.Found.{operand_found_below}
use Rattle.validation_rules.specs.Operators.{looking_row, row_operator}
use Rattle.validation_rules.specs.Rows.{Operator, guard}
use Rattle.validation_rules.specs.Valid.{IsValidOperand}
use Rattle.validate_stacks.specs.AtOnce.{body_dropped}
use Rattle.validate_stacks.specs.Attempts.{Stacked}
use Rattle.validate_stacks.specs.Moves.{Moves}
use Rattle.validate_stacks.specs.Pops.{IsKept}
use Rattle.validate_stacks.specs.State.{BodyState, IsValidBody}
use Rattle.validate_stacks.specs.Steps.{found_in_body, found_after_pops_in_body, innermost_operands, body_popped, body_pushed}
use Rattle.validate_stacks.specs.Visits.{step_body}
use Rattle.validate_stacks.proofs.AtOnce.{dropped_next, dropped_within}
use Rattle.validate_stacks.proofs.PopRuns.{found_first}
use Rattle.validate_stacks.proofs.Validity.{kept_on, pushed_valid, pushed_kept}
use Rattle.validate_shapes.proofs.Moves.{made_moves}
use Rattle.validate_shapes.proofs.ReferenceSteps.{with_two, one_is, two_is}
use Rattle.validate_rows_gc.proofs.Below.{dropped_once}

-- x alone, where the test holds
alone : (b : Bool) (x : MaybeType) → guard b (Some (x ∷ [])) ≡ option_map (λ (y : MaybeType). y ∷ []) (guard b (Some x))
alone true x = refl
alone false x = refl

guard_of_none : {A : Type 0} (b : Bool) (x : A) → guard b (Some x) ≡ None → b ≡ false
guard_of_none true x h = absurd cc
guard_of_none false x h = refl

-- so many operands are dropped, as far as the frame has them
pub one_dropped : (k : ℕ) (v : BodyState) → k ≡ min 1 (length (innermost_operands v.present.frames)) → body_dropped k v ≡ body_popped v
one_dropped k v e = sym (dropped_within 1 k v e) ∙ dropped_once v

pub two_dropped : (k : ℕ) (v : BodyState) → k ≡ min 2 (length (innermost_operands v.present.frames)) → body_dropped k v ≡ body_popped (body_popped v)
two_dropped k v e = sym (dropped_within 2 k v e) ∙ (sym (dropped_next 1 v) ∙ ap body_popped (dropped_once v))

-- and another is put in their place
pub replaced_moves : {E : Type 0} (md : ModuleContext) (tells : E → Type 0) (op : Context → Operator) (s w : Stacked) (k : ℕ) (u : BodyState) (t : MaybeType) → body_dropped k s.body ≡ u → step_body md op s.body ≡ Some (body_pushed t u) → IsValidOperand md t → IsValidBody md u → IsKept s.body u → (a : Result (Unit {0}) E) → IfErr a (λ e. tells e → ⊥) → MatchResult a (λ _. w.body ≡ body_pushed t (body_dropped k s.body)) (λ _. w ≡ s) → Moves md tells op s a w
replaced_moves md tells op s w k u t whole step operand valid kept a told moved =
    made_moves md tells op s w (body_pushed t u) step (pushed_valid md t u operand valid) (kept_on s.body u (body_pushed t u) kept (pushed_kept t u)) a told (subst (λ (x : BodyState). MatchResult a (λ _. w.body ≡ body_pushed t x) (λ _. w ≡ s)) whole moved)

module _ (md : ModuleContext) (v : BodyState) (o : v.present.frames ≢ []) where
  -- one operand, found below, and what is pushed for it
  pub found_is : (a : AbstractHeapType) (gives : ModuleContext → MaybeType → MaybeType) → step_body md (λ c. row_operator (looking_row 1 (found_pushes c.of_module a (gives c.of_module)))) v ≡ option_map (λ x. body_pushed (gives md x) (body_popped v)) (option_and_then (operand_found_below md a) (found_in_body v))
  found_is a gives =
      one_is md v o (λ c. found_pushes c.of_module a (gives c.of_module)) one (λ x. alone (is_found_below md a x) (gives md x)) refl ∙ by (found_in_body v)
    where
      one : MaybeType → Option MaybeType
      one x = guard (is_found_below md a x) (Some (gives md x))

      tested : (b : Bool) (x : MaybeType) → option_map (λ (y : MaybeType). body_pushed y (body_popped v)) (guard b (Some (gives md x))) ≡ option_map (λ x. body_pushed (gives md x) (body_popped v)) (guard b (Some x))
      tested true x = refl
      tested false x = refl

      by : (f : Option MaybeType) → option_map (λ (y : MaybeType). body_pushed y (body_popped v)) (option_and_then one f) ≡ option_map (λ x. body_pushed (gives md x) (body_popped v)) (option_and_then (operand_found_below md a) f)
      by None = refl
      by (Some x) = tested (is_found_below md a x) x

  -- the same, by the operand that a look finds
  pub found_none : (a : AbstractHeapType) (gives : ModuleContext → MaybeType → MaybeType) → option_and_then (operand_found_below md a) (found_after_pops_in_body 0 v) ≡ None → step_body md (λ c. row_operator (looking_row 1 (found_pushes c.of_module a (gives c.of_module)))) v ≡ None
  found_none a gives n = found_is a gives ∙ ap (option_map (λ (x : MaybeType). body_pushed (gives md x) (body_popped v))) (ap (option_and_then (operand_found_below md a)) (sym (found_first v)) ∙ n)

  pub found_some : (a : AbstractHeapType) (gives : ModuleContext → MaybeType → MaybeType) (x : MaybeType) → found_after_pops_in_body 0 v ≡ Some x → is_found_below md a x ≡ true → step_body md (λ c. row_operator (looking_row 1 (found_pushes c.of_module a (gives c.of_module)))) v ≡ Some (body_pushed (gives md x) (body_popped v))
  found_some a gives x there passed =
      found_is a gives
      ∙ ap (option_map (λ (x : MaybeType). body_pushed (gives md x) (body_popped v))) (ap (option_and_then (operand_found_below md a)) (sym (found_first v) ∙ there) ∙ ap (λ b. guard b (Some x)) passed)

  -- two operands that are compared
  abbrev are_comparable : MaybeType → MaybeType → Bool
  are_comparable x y = is_found_below md Eq x && is_found_below md Eq y && is_same_sharedness md x y

  abbrev compared : MaybeType → MaybeType → Option MaybeType
  compared x y = guard (are_comparable x y) (Some (Known I32))

  ref_eq_is : step_body md (λ c. row_operator (ref_eq_row c)) v ≡ with_two md compared v
  ref_eq_is = two_is md v o (λ c. ref_eq_pushes c.of_module) compared (λ x y. alone (are_comparable x y) (Known I32)) (λ x. refl) refl

  abbrev after_two : MaybeType → Option BodyState
  after_two y = option_and_then (λ x. option_map (λ (z : MaybeType). body_pushed z (body_popped (body_popped v))) (compared x y)) (found_in_body (body_popped v))

  not_second : (y : MaybeType) → is_found_below md Eq y ≡ false → (f : Option MaybeType) → option_and_then (λ x. option_map (λ (z : MaybeType). body_pushed z (body_popped (body_popped v))) (compared x y)) f ≡ None
  not_second y n None = refl
  not_second y n (Some x) =
      ap (λ b. option_map (λ (z : MaybeType). body_pushed z (body_popped (body_popped v))) (guard (is_found_below md Eq x && b && is_same_sharedness md x y) (Some (Known I32)))) n
      ∙ ap (λ b. option_map (λ (z : MaybeType). body_pushed z (body_popped (body_popped v))) (guard (b && is_same_sharedness md x y) (Some (Known I32)))) (never (is_found_below md Eq x))
    where
      never : (b : Bool) → b && false ≡ false
      never true = refl
      never false = refl

  -- the operand on top is none of them
  pub first_missing : option_and_then (operand_found_below md Eq) (found_in_body v) ≡ None → step_body md (λ c. row_operator (ref_eq_row c)) v ≡ None
  first_missing n = ref_eq_is ∙ by (found_in_body v) n
    where
      by : (f : Option MaybeType) → option_and_then (operand_found_below md Eq) f ≡ None → option_and_then after_two f ≡ None
      by None n = refl
      by (Some y) n = not_second y (guard_of_none (is_found_below md Eq y) y n) (found_in_body (body_popped v))

  module _ (u : BodyState) (y : MaybeType) (there : found_in_body v ≡ Some y) (e : u ≡ body_popped v) where
    second_is : step_body md (λ c. row_operator (ref_eq_row c)) v ≡ option_and_then (λ x. option_map (λ (z : MaybeType). body_pushed z (body_popped u)) (compared x y)) (found_in_body u)
    second_is =
        ref_eq_is
        ∙ (ap (λ f. option_and_then after_two f) there
        ∙ ap (λ (q : BodyState). option_and_then (λ x. option_map (λ (z : MaybeType). body_pushed z (body_popped q)) (compared x y)) (found_in_body q)) (sym e))

    -- the one below it is none of them
    pub second_missing : option_and_then (operand_found_below md Eq) (found_in_body u) ≡ None → step_body md (λ c. row_operator (ref_eq_row c)) v ≡ None
    second_missing n = second_is ∙ by (found_in_body u) n
      where
        by : (f : Option MaybeType) → option_and_then (operand_found_below md Eq) f ≡ None → option_and_then (λ x. option_map (λ (z : MaybeType). body_pushed z (body_popped u)) (compared x y)) f ≡ None
        by None n = refl
        by (Some x) n = ap (λ b. option_map (λ (z : MaybeType). body_pushed z (body_popped u)) (guard (b && is_found_below md Eq y && is_same_sharedness md x y) (Some (Known I32)))) (guard_of_none (is_found_below md Eq x) x n)

    module _ (x : MaybeType) (below : found_in_body u ≡ Some x) (p : is_found_below md Eq x ≡ true) (q : is_found_below md Eq y ≡ true) where
      both_are : step_body md (λ c. row_operator (ref_eq_row c)) v ≡ option_map (λ (z : MaybeType). body_pushed z (body_popped u)) (guard (is_same_sharedness md x y) (Some (Known I32)))
      both_are =
          second_is
          ∙ (ap (option_and_then (λ x. option_map (λ (z : MaybeType). body_pushed z (body_popped u)) (compared x y))) below
          ∙ (ap (λ b. option_map (λ (z : MaybeType). body_pushed z (body_popped u)) (guard (b && is_found_below md Eq y && is_same_sharedness md x y) (Some (Known I32)))) p
          ∙ ap (λ b. option_map (λ (z : MaybeType). body_pushed z (body_popped u)) (guard (b && is_same_sharedness md x y) (Some (Known I32)))) q))

      -- they are of different sharedness
      pub not_alike : is_same_sharedness md x y ≡ false → step_body md (λ c. row_operator (ref_eq_row c)) v ≡ None
      not_alike n = both_are ∙ ap (λ b. option_map (λ (z : MaybeType). body_pushed z (body_popped u)) (guard b (Some (Known I32)))) n

      pub alike : is_same_sharedness md x y ≡ true → (w : BodyState) → w ≡ body_popped u → step_body md (λ c. row_operator (ref_eq_row c)) v ≡ Some (body_pushed (Known I32) w)
      alike h w f = both_are ∙ (ap (λ b. option_map (λ (z : MaybeType). body_pushed z (body_popped u)) (guard b (Some (Known I32)))) h ∙ ap (λ (q : BodyState). Some (body_pushed (Known I32) q)) (sym f))
