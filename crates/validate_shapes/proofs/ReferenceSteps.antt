-- The steps of operators that look at a reference.
use Rattle.std.proofs.Common.{◌≡◌, ◌≢◌, ℕ, zero, suc, Bool, true, false, ◌&&◌, ◌||◌, List, [], ◌∷◌, ◌++◌, map, drop, length, reverse, slice_get, Option, Some, None, refl, sym, ap, ap₂, ◌∙◌}
use Rattle.std.specs.Option.{option_map}
use Rattle.std.specs.Option.{option_and_then}
use Rattle.validate_resources.specs.Context.{ModuleContext}
use Rattle.validate_types.specs.declared.features.WasmFeatures.{WasmFeatures}
use Rattle.validate_types.specs.Refs.{with_null}
use Rattle.validate_types.specs.declared.refs.RefType.{RefType}
use Rattle.validate_types.specs.declared.types.ValType.{ValType}
use Rattle.validation_rules.specs.Branches.{has_label, label_types_at, target}
use Rattle.validation_rules.specs.Context.{I32, Ref, Context}
use Rattle.validation_rules.specs.Descriptors.{fit_under, tested_pushes, tested_row_if}
use Rattle.validation_rules.specs.Fits.{MaybeType, Bottom, Known, fits, all_fit}
use Rattle.validation_rules.specs.References.{operand_without_null, null_test_pushes, non_null_pushes, br_on_null_row, last_reference, last_without_null, br_on_non_null_row_for, br_on_non_null_row}
use Rattle.validation_rules.specs.Rows.{Head, Stays, Target, guard}
use Rattle.validation_rules.specs.Static.{Frame, State, heads, stack_with, operands_on_top, state_after, open_frames}
use Rattle.validation_rules.specs.Operators.{lookup_row, looking_row, looking_row_if, row_operator, staying_operator}
use Rattle.std.proofs.lemmas.List.{append_assoc, reverse-append}
use Rattle.validation_rules.proofs.Rows.{row_with}
use Rattle.validation_rules.proofs.Steps.{onto-next}
use Rattle.validate_stacks.specs.Pops.{body_popped_each, body_pushed_each}
use Rattle.validate_stacks.specs.State.{BodyState, body_context}
use Rattle.validate_stacks.specs.Steps.{body_popped, body_pushed, label_at, type_and_kind}
use Rattle.validate_stacks.specs.Steps as steps
use Rattle.validate_stacks.specs.Visits.{step_body}
use Rattle.validate_stacks.proofs.Whole.{popped_whole, pushed_whole}
use Rattle.validate_shapes.proofs.BranchSteps.{popped_heads, pushes_is}
use Rattle.validate_shapes.proofs.Rows.{same_row}
use Rattle.validate_shapes.proofs.LookupRows.{at_labels}

-- ---- lists

onto_above : {A : Type 0} (xs below : List A) (x : A) → stack_with xs (below ++ x ∷ []) ≡ stack_with xs below ++ x ∷ []
onto_above xs below x = sym (append_assoc (reverse xs) below (x ∷ []))

onto_last : {A : Type 0} (xs below : List A) (x : A) → stack_with (xs ++ x ∷ []) below ≡ x ∷ stack_with xs below
onto_last xs below x = ap (λ l. l ++ below) (reverse-append xs (x ∷ []))

drop_none : {A : Type 0} (n : ℕ) → drop {A = A} n [] ≡ []
drop_none zero = refl
drop_none (suc n) = refl

none_either : {A : Type 0} (b : Bool) → guard {A = A} b None ≡ None
none_either true = refl
none_either false = refl

or_false : (b : Bool) → b || false ≡ b
or_false true = refl
or_false false = refl

-- ---- what is given for operands with one more on top

module _ (cx : Context) where
  nothing_above : (ts : List ValType) → non_null_pushes cx ts [] ≡ None
  nothing_above [] = refl
  nothing_above (t ∷ ts) = refl

  regroup : {A B C : Type 0} (p q : Bool) (f : B → C) (g : A → B) (o : Option A) → guard p (option_map f (guard q (option_map g o))) ≡ guard (p && q) (option_map (λ x. f (g x)) o)
  regroup true true f g (Some x) = refl
  regroup true true f g None = refl
  regroup true false f g o = refl
  regroup false q f g o = refl

  one_above : (ts : List ValType) (front : List MaybeType) (x : MaybeType) → non_null_pushes cx ts (front ++ x ∷ []) ≡ guard (all_fit cx front ts) (option_map (λ y. map Known ts ++ y ∷ []) (operand_without_null x))
  one_above [] [] x = refl
  one_above [] (a ∷ []) x = refl
  one_above [] (a ∷ b ∷ front) x = refl
  one_above (t ∷ ts) [] x = ap (λ o. guard (fits cx x t) (option_map (λ ys. Known t ∷ ys) o)) (nothing_above ts) ∙ none_either (fits cx x t)
  one_above (t ∷ ts) (a ∷ front) x =
      ap (λ o. guard (fits cx a t) (option_map (λ ys. Known t ∷ ys) o)) (one_above ts front x)
      ∙ regroup (fits cx a t) (all_fit cx front ts) (λ ys. Known t ∷ ys) (λ y. map Known ts ++ y ∷ []) (operand_without_null x)

  -- what passes for operands with one more on top, which is tested
  nothing_under : (test : MaybeType → Bool) (ts : List ValType) → fit_under cx test ts [] ≡ false
  nothing_under test [] = refl
  nothing_under test (t ∷ ts) = refl

  one_under : (test : MaybeType → Bool) (ts : List ValType) (front : List MaybeType) (x : MaybeType) → fit_under cx test ts (front ++ x ∷ []) ≡ (all_fit cx front ts && test x)
  one_under test [] [] x = refl
  one_under test [] (a ∷ []) x = refl
  one_under test [] (a ∷ b ∷ front) x = refl
  one_under test (t ∷ ts) [] x = ap (λ b. fits cx x t && b) (nothing_under test ts) ∙ never (fits cx x t)
    where
      never : (b : Bool) → b && false ≡ false
      never true = refl
      never false = refl
  one_under test (t ∷ ts) (a ∷ front) x = ap (λ b. fits cx a t && b) (one_under test ts front x) ∙ grouped (fits cx a t)
    where
      grouped : (b : Bool) → (b && (all_fit cx front ts && test x)) ≡ ((b && all_fit cx front ts) && test x)
      grouped true = refl
      grouped false = refl

-- ---- the steps

module _ (md : ModuleContext) where
  abbrev at : Head → List MaybeType → Bool → List ℕ → List Frame → List MaybeType → Bool → WasmFeatures → List ValType → List Bool → Option State → BodyState
  at h own dead set fs left s n ls en un =
      record { present = record { frames = record { head = h; operands = own; dead = dead; first_set = set } ∷ fs; left = left }; shared = s; features = n; locals = ls; set_at_entry = en; undone = un }

  -- what they leave of a reference on top: below it a list of types
  abbrev pub above_types : List ValType → BodyState → Option BodyState
  above_types ts v = option_and_then (λ y. option_map (λ u. body_pushed y (body_pushed_each ts u)) (body_popped_each md (reverse ts) (body_popped v))) (option_and_then operand_without_null (steps.found_in_body v))

  -- what they leave where the operand on top passes a test: below it types that give way to others
  abbrev pub tested_types : (MaybeType → Bool) → List ValType → List ValType → BodyState → Option BodyState
  tested_types test ts ps v = option_and_then (λ x. guard (test x) (option_map (λ u. body_pushed_each ps u) (body_popped_each md (reverse ts) (body_popped v)))) (steps.found_in_body v)

  -- what is given for the operand on top takes its place
  abbrev pub with_one : (MaybeType → Option MaybeType) → BodyState → Option BodyState
  with_one one v = option_map (λ (y : MaybeType). body_pushed y (body_popped v)) (option_and_then one (steps.found_in_body v))

  -- the same of the two on top, of which the second lies above
  abbrev pub with_two : (MaybeType → MaybeType → Option MaybeType) → BodyState → Option BodyState
  with_two two v =
      option_and_then
      (λ y. option_and_then (λ x. option_map (λ z. body_pushed z (body_popped (body_popped v))) (two x y)) (steps.found_in_body (body_popped v)))
      (steps.found_in_body v)

  abbrev pub null_tested : BodyState → Option BodyState
  null_tested v = option_map (λ y. body_pushed (Known I32) (body_popped v)) (option_and_then operand_without_null (steps.found_in_body v))

  module _ (h : Head) (set : List ℕ) (fs : List Frame) (left : List MaybeType) (s : Bool) (n : WasmFeatures) (ls : List ValType) (en : List Bool) (un : Option State) where
    abbrev cx_of : Context
    cx_of = record { of_module = md; features = n; shared = s; locals = ls; set_at_entry = en }

    abbrev state_of : List MaybeType → Bool → BodyState
    state_of own dead = at h own dead set fs left s n ls en un

    abbrev frame_of : List MaybeType → Bool → Frame
    frame_of own dead = record { head = h; operands = own; dead = dead; first_set = set }

    -- a row that looks, by what it gives
    looked : (b : Bool) (k : ℕ) (gives : Context → List MaybeType → Option (List MaybeType)) (targets : List Target) (own : List MaybeType) (dead : Bool) → step_body md (λ c. row_operator (record (looking_row_if b k (gives c)) { targets = targets })) (state_of own dead) ≡ guard b (option_map (λ ps. state_of (stack_with ps (drop k own)) dead) (gives cx_of (stack_with (operands_on_top k dead own) [])))
    looked b k gives targets own dead = by b (gives cx_of (stack_with (operands_on_top k dead own) []))
      where
        by : (b : Bool) (o : Option (List MaybeType)) → option_map (λ (u : State). record (state_of own dead) { present = u }) (option_map (state_after cx_of (record (looking_row_if b k (gives cx_of)) { targets = targets }) (open_frames (frame_of own dead) fs left) Stays) (guard (b && true) o)) ≡ guard b (option_map (λ ps. state_of (stack_with ps (drop k own)) dead) o)
        by true (Some ps) = ap (λ d. Some (at h (stack_with ps (drop k own)) d set fs left s n ls en un)) (or_false dead)
        by true None = refl
        by false o = refl

    -- with this operand on top of the rest
    by_rest : (ts : List ValType) (x : MaybeType) (own : List MaybeType) (dead : Bool) → option_map (λ ps. state_of (stack_with ps (drop (length ts) own)) dead) (non_null_pushes cx_of ts (stack_with (x ∷ operands_on_top (length ts) dead own) [])) ≡ option_and_then (λ y. option_map (λ u. body_pushed y (body_pushed_each ts u)) (body_popped_each md (reverse ts) (state_of own dead))) (operand_without_null x)
    by_rest ts x own dead =
        let k = length ts in
        let front = stack_with (operands_on_top k dead own) [] in
        let below = state_of (drop k own) dead in
        ap (option_map (λ ps. state_of (stack_with ps (drop k own)) dead)) (ap (non_null_pushes cx_of ts) (onto-next x (operands_on_top k dead own) [] ∙ onto_above (operands_on_top k dead own) [] x) ∙ one_above cx_of ts front x)
        ∙ (by (all_fit cx_of front ts) (operand_without_null x)
        ∙ ap (λ o. option_and_then (λ y. option_map (λ u. body_pushed y (body_pushed_each ts u)) o) (operand_without_null x)) (sym (popped_whole md (state_of own dead) (frame_of own dead) fs ts refl)))
      where
        then_pushed : (y : MaybeType) → state_of (stack_with (map Known ts ++ y ∷ []) (drop (length ts) own)) dead ≡ body_pushed y (body_pushed_each ts (state_of (drop (length ts) own) dead))
        then_pushed y =
            ap (λ q. state_of q dead) (onto_last (map Known ts) (drop (length ts) own) y)
            ∙ sym (ap (body_pushed y) (pushed_whole ts (state_of (drop (length ts) own) dead) (frame_of (drop (length ts) own) dead) fs refl))

        by : (b : Bool) (o : Option MaybeType) → option_map (λ ps. state_of (stack_with ps (drop (length ts) own)) dead) (guard b (option_map (λ y. map Known ts ++ y ∷ []) o)) ≡ option_and_then (λ y. option_map (λ u. body_pushed y (body_pushed_each ts u)) (guard b (Some (state_of (drop (length ts) own) dead)))) o
        by true (Some y) = ap Some (then_pushed y)
        by true None = refl
        by false (Some y) = refl
        by false None = refl

    above_in : (b : Bool) (ts : List ValType) (targets : List Target) (own : List MaybeType) (dead : Bool) → step_body md (λ c. row_operator (record (looking_row_if b (suc (length ts)) (non_null_pushes c ts)) { targets = targets })) (state_of own dead) ≡ guard b (above_types ts (state_of own dead))
    above_in b ts targets (x ∷ own) dead =
        looked b (suc (length ts)) (λ c. non_null_pushes c ts) targets (x ∷ own) dead ∙ ap (guard b) (by_rest ts x own dead)
    above_in b ts targets [] true =
        looked b (suc (length ts)) (λ c. non_null_pushes c ts) targets [] true
        ∙ ap (guard b)
        (ap (λ q. option_map (λ ps. state_of (stack_with ps q) true) (non_null_pushes cx_of ts (stack_with (Bottom ∷ operands_on_top (length ts) true []) []))) (sym (drop_none (length ts)))
        ∙ by_rest ts Bottom [] true)
    above_in b ts targets [] false =
        looked b (suc (length ts)) (λ c. non_null_pushes c ts) targets [] false
        ∙ ap (λ o. guard b (option_map (λ ps. state_of (stack_with ps []) false) o)) (nothing_above cx_of ts)

    tested_rest : (test : Context → MaybeType → Bool) (ts ps : List ValType) (x : MaybeType) (own : List MaybeType) (dead : Bool) → option_map (λ qs. state_of (stack_with qs (drop (length ts) own)) dead) (tested_pushes cx_of (test cx_of) ts ps (stack_with (x ∷ operands_on_top (length ts) dead own) [])) ≡ guard (test cx_of x) (option_map (λ u. body_pushed_each ps u) (body_popped_each md (reverse ts) (state_of own dead)))
    tested_rest test ts ps x own dead =
        let k = length ts in
        let front = stack_with (operands_on_top k dead own) [] in
        ap (λ b. option_map (λ qs. state_of (stack_with qs (drop k own)) dead) (guard b (Some (map Known ps)))) (ap (fit_under cx_of (test cx_of) ts) (onto-next x (operands_on_top k dead own) [] ∙ onto_above (operands_on_top k dead own) [] x) ∙ one_under cx_of (test cx_of) ts front x)
        ∙ (by (all_fit cx_of front ts) (test cx_of x)
        ∙ ap (λ o. guard (test cx_of x) (option_map (λ u. body_pushed_each ps u) o)) (sym (popped_whole md (state_of own dead) (frame_of own dead) fs ts refl)))
      where
        by : (b t : Bool) → option_map (λ qs. state_of (stack_with qs (drop (length ts) own)) dead) (guard (b && t) (Some (map Known ps))) ≡ guard t (option_map (λ u. body_pushed_each ps u) (guard b (Some (state_of (drop (length ts) own) dead))))
        by true true = ap Some (sym (pushed_whole ps (state_of (drop (length ts) own) dead) (frame_of (drop (length ts) own) dead) fs refl))
        by true false = refl
        by false true = refl
        by false false = refl

    tested_in : (b : Bool) (test : Context → MaybeType → Bool) (ts ps : List ValType) (targets : List Target) (own : List MaybeType) (dead : Bool) → step_body md (λ c. row_operator (record (tested_row_if b c (test c) ts ps) { targets = targets })) (state_of own dead) ≡ guard b (tested_types (test cx_of) ts ps (state_of own dead))
    tested_in b test ts ps targets (x ∷ own) dead =
        looked b (suc (length ts)) (λ c. tested_pushes c (test c) ts ps) targets (x ∷ own) dead ∙ ap (guard b) (tested_rest test ts ps x own dead)
    tested_in b test ts ps targets [] true =
        looked b (suc (length ts)) (λ c. tested_pushes c (test c) ts ps) targets [] true
        ∙ ap (guard b)
        (ap (λ q. option_map (λ qs. state_of (stack_with qs q) true) (tested_pushes cx_of (test cx_of) ts ps (stack_with (Bottom ∷ operands_on_top (length ts) true []) []))) (sym (drop_none (length ts)))
        ∙ tested_rest test ts ps Bottom [] true)
    tested_in b test ts ps targets [] false =
        looked b (suc (length ts)) (λ c. tested_pushes c (test c) ts ps) targets [] false
        ∙ ap (λ t. guard b (option_map (λ qs. state_of (stack_with qs []) false) (guard t (Some (map Known ps))))) (nothing_under cx_of (test cx_of) ts)

    null_in : (own : List MaybeType) (dead : Bool) → step_body md (λ c. row_operator (looking_row 1 null_test_pushes)) (state_of own dead) ≡ null_tested (state_of own dead)
    null_in (x ∷ own) dead = looked true 1 (λ c. null_test_pushes) [] (x ∷ own) dead ∙ by (operand_without_null x)
      where
        by : (o : Option MaybeType) → option_map (λ ps. state_of (stack_with ps own) dead) (option_map (λ (y : MaybeType). Known I32 ∷ []) o) ≡ option_map (λ (y : MaybeType). state_of (Known I32 ∷ own) dead) o
        by None = refl
        by (Some y) = refl
    null_in [] true = looked true 1 (λ c. null_test_pushes) [] [] true
    null_in [] false = looked true 1 (λ c. null_test_pushes) [] [] false

    -- one operand, by what is given for it
    one_in : (gives : Context → List MaybeType → Option (List MaybeType)) (one : MaybeType → Option MaybeType) → ((x : MaybeType) → gives cx_of (x ∷ []) ≡ option_map (λ (y : MaybeType). y ∷ []) (one x)) → gives cx_of [] ≡ None → (own : List MaybeType) (dead : Bool) → step_body md (λ c. row_operator (looking_row 1 (gives c))) (state_of own dead) ≡ with_one one (state_of own dead)
    one_in gives one some none own dead = by own dead
      where
        pushed : (own : List MaybeType) (dead : Bool) (o : Option MaybeType) → option_map (λ ps. state_of (stack_with ps own) dead) (option_map (λ (y : MaybeType). y ∷ []) o) ≡ option_map (λ (y : MaybeType). state_of (y ∷ own) dead) o
        pushed own dead None = refl
        pushed own dead (Some y) = refl

        by : (own : List MaybeType) (dead : Bool) → step_body md (λ c. row_operator (looking_row 1 (gives c))) (state_of own dead) ≡ with_one one (state_of own dead)
        by (x ∷ own) dead = looked true 1 gives [] (x ∷ own) dead ∙ (ap (option_map (λ ps. state_of (stack_with ps own) dead)) (some x) ∙ pushed own dead (one x))
        by [] true = looked true 1 gives [] [] true ∙ (ap (option_map (λ ps. state_of (stack_with ps []) true)) (some Bottom) ∙ pushed [] true (one Bottom))
        by [] false = looked true 1 gives [] [] false ∙ ap (option_map (λ ps. state_of (stack_with ps []) false)) none

    -- two operands, by what is given for them
    two_in : (gives : Context → List MaybeType → Option (List MaybeType)) (two : MaybeType → MaybeType → Option MaybeType) → ((x y : MaybeType) → gives cx_of (x ∷ y ∷ []) ≡ option_map (λ (z : MaybeType). z ∷ []) (two x y)) → ((x : MaybeType) → gives cx_of (x ∷ []) ≡ None) → gives cx_of [] ≡ None → (own : List MaybeType) (dead : Bool) → step_body md (λ c. row_operator (looking_row 2 (gives c))) (state_of own dead) ≡ with_two two (state_of own dead)
    two_in gives two some one none own dead = by own dead
      where
        pushed : (own : List MaybeType) (dead : Bool) (o : Option MaybeType) → option_map (λ ps. state_of (stack_with ps own) dead) (option_map (λ (y : MaybeType). y ∷ []) o) ≡ option_map (λ (y : MaybeType). state_of (y ∷ own) dead) o
        pushed own dead None = refl
        pushed own dead (Some y) = refl

        by : (own : List MaybeType) (dead : Bool) → step_body md (λ c. row_operator (looking_row 2 (gives c))) (state_of own dead) ≡ with_two two (state_of own dead)
        by (y ∷ x ∷ own) dead = looked true 2 gives [] (y ∷ x ∷ own) dead ∙ (ap (option_map (λ ps. state_of (stack_with ps own) dead)) (some x y) ∙ pushed own dead (two x y))
        by (y ∷ []) true = looked true 2 gives [] (y ∷ []) true ∙ (ap (option_map (λ ps. state_of (stack_with ps []) true)) (some Bottom y) ∙ pushed [] true (two Bottom y))
        by (y ∷ []) false = looked true 2 gives [] (y ∷ []) false ∙ ap (option_map (λ ps. state_of (stack_with ps []) false)) (one y)
        by [] true = looked true 2 gives [] [] true ∙ (ap (option_map (λ ps. state_of (stack_with ps []) true)) (some Bottom Bottom) ∙ pushed [] true (two Bottom Bottom))
        by [] false = looked true 2 gives [] [] false ∙ ap (option_map (λ ps. state_of (stack_with ps []) false)) none

  module _ (v : BodyState) (o : v.present.frames ≢ []) where
    -- an operator that looks at one operand
    pub one_is : (gives : Context → List MaybeType → Option (List MaybeType)) (one : MaybeType → Option MaybeType) → ((x : MaybeType) → gives (body_context md v) (x ∷ []) ≡ option_map (λ (y : MaybeType). y ∷ []) (one x)) → gives (body_context md v) [] ≡ None → step_body md (λ c. row_operator (looking_row 1 (gives c))) v ≡ with_one one v
    one_is gives one some none = by v.present.frames refl
      where
        by : (fs : List Frame) → v.present.frames ≡ fs → step_body md (λ c. row_operator (looking_row 1 (gives c))) v ≡ with_one one v
        by [] e = absurd (o e)
        by (f ∷ fs) e =
            ap (λ gs. step_body md (λ c. row_operator (looking_row 1 (gives c))) (record v { present = record { frames = gs; left = v.present.left } })) e
            ∙ (one_in f.head f.first_set fs v.present.left v.shared v.features v.locals v.set_at_entry v.undone gives one some none f.operands f.dead
            ∙ ap (λ gs. with_one one (record v { present = record { frames = gs; left = v.present.left } })) (sym e))

    -- one that looks at two
    pub two_is : (gives : Context → List MaybeType → Option (List MaybeType)) (two : MaybeType → MaybeType → Option MaybeType) → ((x y : MaybeType) → gives (body_context md v) (x ∷ y ∷ []) ≡ option_map (λ (z : MaybeType). z ∷ []) (two x y)) → ((x : MaybeType) → gives (body_context md v) (x ∷ []) ≡ None) → gives (body_context md v) [] ≡ None → step_body md (λ c. row_operator (looking_row 2 (gives c))) v ≡ with_two two v
    two_is gives two some one none = by v.present.frames refl
      where
        by : (fs : List Frame) → v.present.frames ≡ fs → step_body md (λ c. row_operator (looking_row 2 (gives c))) v ≡ with_two two v
        by [] e = absurd (o e)
        by (f ∷ fs) e =
            ap (λ gs. step_body md (λ c. row_operator (looking_row 2 (gives c))) (record v { present = record { frames = gs; left = v.present.left } })) e
            ∙ (two_in f.head f.first_set fs v.present.left v.shared v.features v.locals v.set_at_entry v.undone gives two some one none f.operands f.dead
            ∙ ap (λ gs. with_two two (record v { present = record { frames = gs; left = v.present.left } })) (sym e))

    pub above_is : (b : Bool) (ts : List ValType) (targets : List Target) → step_body md (λ c. row_operator (record (looking_row_if b (suc (length ts)) (non_null_pushes c ts)) { targets = targets })) v ≡ guard b (above_types ts v)
    above_is b ts targets = by v.present.frames refl
      where
        by : (fs : List Frame) → v.present.frames ≡ fs → step_body md (λ c. row_operator (record (looking_row_if b (suc (length ts)) (non_null_pushes c ts)) { targets = targets })) v ≡ guard b (above_types ts v)
        by [] e = absurd (o e)
        by (f ∷ fs) e =
            ap (λ gs. step_body md (λ c. row_operator (record (looking_row_if b (suc (length ts)) (non_null_pushes c ts)) { targets = targets })) (record v { present = record { frames = gs; left = v.present.left } })) e
            ∙ (above_in f.head f.first_set fs v.present.left v.shared v.features v.locals v.set_at_entry v.undone b ts targets f.operands f.dead
            ∙ ap (λ gs. guard b (above_types ts (record v { present = record { frames = gs; left = v.present.left } }))) (sym e))

    pub tested_is : (b : Bool) (test : Context → MaybeType → Bool) (ts ps : List ValType) (targets : List Target) → step_body md (λ c. row_operator (record (tested_row_if b c (test c) ts ps) { targets = targets })) v ≡ guard b (tested_types (test (body_context md v)) ts ps v)
    tested_is b test ts ps targets = by v.present.frames refl
      where
        by : (fs : List Frame) → v.present.frames ≡ fs → step_body md (λ c. row_operator (record (tested_row_if b c (test c) ts ps) { targets = targets })) v ≡ guard b (tested_types (test (body_context md v)) ts ps v)
        by [] e = absurd (o e)
        by (f ∷ fs) e =
            ap (λ gs. step_body md (λ c. row_operator (record (tested_row_if b c (test c) ts ps) { targets = targets })) (record v { present = record { frames = gs; left = v.present.left } })) e
            ∙ (tested_in f.head f.first_set fs v.present.left v.shared v.features v.locals v.set_at_entry v.undone b test ts ps targets f.operands f.dead
            ∙ ap (λ gs. guard b (tested_types (test (body_context md v)) ts ps (record v { present = record { frames = gs; left = v.present.left } }))) (sym e))

    pub null_is : step_body md (λ c. row_operator (looking_row 1 null_test_pushes)) v ≡ null_tested v
    null_is = by v.present.frames refl
      where
        by : (fs : List Frame) → v.present.frames ≡ fs → step_body md (λ c. row_operator (looking_row 1 null_test_pushes)) v ≡ null_tested v
        by [] e = absurd (o e)
        by (f ∷ fs) e =
            ap (λ gs. step_body md (λ c. row_operator (looking_row 1 null_test_pushes)) (record v { present = record { frames = gs; left = v.present.left } })) e
            ∙ (null_in f.head f.first_set fs v.present.left v.shared v.features v.locals v.set_at_entry v.undone f.operands f.dead
            ∙ ap (λ gs. null_tested (record v { present = record { frames = gs; left = v.present.left } })) (sym e))

    -- a branch on null
    pub on_null_is : (d : ℕ) (b : Bool) (ts : List ValType) → has_label (heads v.present.frames) d ≡ b → label_types_at (body_context md v) (heads v.present.frames) d ≡ ts → step_body md (λ c. staying_operator (λ hs. br_on_null_row c hs d)) v ≡ guard b (above_types ts v)
    on_null_is d b ts hb ht =
        let cx = body_context md v in
        let targets = target cx (heads v.present.frames) d ∷ [] in
        at_labels md v (λ c hs. br_on_null_row c hs d)
        ∙ (same_row md v (λ c. row_operator (br_on_null_row c (heads v.present.frames) d)) (row_operator (record (looking_row_if b (suc (length ts)) (non_null_pushes cx ts)) { targets = targets }))
        (ap₂ (λ p ws. row_operator (record (looking_row_if p (suc (length ws)) (non_null_pushes cx ws)) { targets = targets })) hb ht)
        ∙ above_is b ts targets)

  -- ---- by their pops

  -- the operand on top is no reference
  pub unreferenced : (b : Bool) (ts : List ValType) (v : BodyState) → option_and_then operand_without_null (steps.found_in_body v) ≡ None → guard b (above_types ts v) ≡ None
  unreferenced b ts v n = ap (λ o. guard b (option_and_then (λ y. option_map (λ u. body_pushed y (body_pushed_each ts u)) (body_popped_each md (reverse ts) (body_popped v))) o)) n ∙ none_either b

  module _ (ts : List ValType) (v u : BodyState) (y : MaybeType) (pushed : option_and_then operand_without_null (steps.found_in_body v) ≡ Some y) (e : u ≡ body_popped v) where
    above_of : above_types ts v ≡ option_map (λ w. body_pushed y (body_pushed_each ts w)) (body_popped_each md (reverse ts) u)
    above_of =
        ap (λ o. option_and_then (λ y. option_map (λ w. body_pushed y (body_pushed_each ts w)) (body_popped_each md (reverse ts) (body_popped v))) o) pushed
        ∙ ap (λ (q : BodyState). option_map (λ w. body_pushed y (body_pushed_each ts w)) (body_popped_each md (reverse ts) q)) (sym e)

    pub above_missing : body_popped_each md (reverse ts) u ≡ None → above_types ts v ≡ None
    above_missing n = above_of ∙ ap (option_map (λ w. body_pushed y (body_pushed_each ts w))) n

    pub above_there : (w : BodyState) → body_popped_each md (reverse ts) u ≡ Some w → above_types ts v ≡ Some (body_pushed y (body_pushed_each ts w))
    above_there w p = above_of ∙ ap (option_map (λ w. body_pushed y (body_pushed_each ts w))) p

    -- a pop leaves the labels
    pub label_below : (d : ℕ) → label_at u d ≡ label_at v d
    label_below d = ap (λ hs. option_map type_and_kind (slice_get hs d)) (ap (λ (q : BodyState). heads q.present.frames) e ∙ popped_heads v)

-- ---- a branch where a reference isn't null: the reference is expected, above types that stay

module _ (md : ModuleContext) (v : BodyState) (o : v.present.frames ≢ []) (d : ℕ) (others : List ValType) (last with : RefType) (there : has_label (heads v.present.frames) d ≡ true) (ends : last_reference (label_types_at (body_context md v) (heads v.present.frames) d) ≡ Some (others, last)) (null : with ≡ with_null last) where
  abbrev targets_of : List Target
  targets_of = record { depth = d; carried = last_without_null } ∷ []

  pub on_non_null_is : step_body md (λ c. staying_operator (λ hs. br_on_non_null_row c hs d)) v ≡ option_map (λ u. body_pushed_each others u) (body_popped_each md (reverse (others ++ Ref with ∷ [])) v)
  on_non_null_is =
      let cx = body_context md v in
      let hs = heads v.present.frames in
      pushes_is md v o (λ c hs. br_on_non_null_row c hs d) true (others ++ Ref with ∷ []) others targets_of
      (ap (λ q. lookup_row q (br_on_non_null_row_for cx hs d)) ends
      ∙ (ap (λ b. row_with b None (others ++ Ref (with_null last) ∷ []) [] others None targets_of [] false) there
      ∙ ap (λ r. row_with true None (others ++ Ref r ∷ []) [] others None targets_of [] false) (sym null)))
