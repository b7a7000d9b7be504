-- The steps of operators whose rows depend on the open frames: branches, and what ends the live part.
use Rattle.std.proofs.Common.{◌≡◌, ◌≢◌, ◌-◌, ◌<◌, ℕ, zero, suc, pred, arith, Bool, true, false, ◌&&◌, ◌||◌, List, [], ◌∷◌, ◌++◌, map, reverse, length, slice_get, Some, None, refl, sym, ap, ap₂, ◌∙◌, subst}
use Rattle.std.specs.List.{AllByRecursion}
use Rattle.std.specs.Option.{option_map}
use Rattle.validate_resources.specs.Context.{ModuleContext, IsLawful, Valid}
use Rattle.validate_types.specs.declared.types.ValType.{ValType}
use Rattle.validate_visit.specs.declared.frame.BlockType.{BlockType}
use Rattle.validate_visit.specs.declared.frame.Frame.{Frame as FlatFrame}
use Rattle.validation_rules.specs.Branches.{has_label, label_types_at, target, br_row, br_if_row}
use Rattle.validation_rules.specs.Context.{I32, Context}
use Rattle.validation_rules.specs.Fits.{MaybeType, Known, all_fit}
use Rattle.validation_rules.specs.Rows.{FrameKind, Head, label_types, Stays, Target, Row, guard, all_fit_each}
use Rattle.validation_rules.specs.Static.{Frame, State, frame_count, heads, stack_with, operands_found, operands_under, operands_after, state_after, open_frames, step_in}
use Rattle.validation_rules.specs.Operators.{ending_row, staying_operator}
use Rattle.validation_rules.proofs.Rows.{row_with}
use Rattle.validation_rules.proofs.Steps.{some_injective, guard_some}
use Rattle.validation_rules.proofs.Valid.{label_at_valid, heads_valid}
use Rattle.validate_stacks.specs.AtOnce.{body_dropped, frames_dropped}
use Rattle.validate_stacks.specs.Steps.{head_of}
use Rattle.validate_stacks.specs.Pops.{body_popped_each, body_pushed_each}
use Rattle.validate_stacks.specs.State.{BodyState, IsValidBody, body_context}
use Rattle.validate_stacks.specs.Steps.{frame_at, type_and_kind, label_at, body_unreachable}
use Rattle.validate_stacks.specs.Steps as steps
use Rattle.validate_stacks.specs.Visits.{step_body}
use Rattle.validate_stacks.specs.Flat.{with_heights}
use Rattle.validate_stacks.proofs.Looks.{label_found}
use Rattle.validate_stacks.proofs.Whole.{with_frame, none_above, some_above, popped_whole, pushed_whole, popped_none, popped_next}

or_false : (b : Bool) → b || false ≡ b
or_false true = refl
or_false false = refl

or_true : (b : Bool) → b || true ≡ true
or_true true = refl
or_true false = refl

-- ---- labels

-- the label that was found at this depth
pub label_there : (cx : Context) (hs : List Head) (d : ℕ) (bt : BlockType) (kind : FrameKind) → option_map type_and_kind (slice_get hs d) ≡ Some (bt, kind) → (has_label hs d ≡ true) × (label_types_at cx hs d ≡ label_types cx (head_of kind bt))
label_there cx [] zero bt kind e = absurd cc
label_there cx [] (suc d) bt kind e = absurd cc
label_there cx (h ∷ hs) zero bt kind e =
    let both : (h.block_type, h.kind) ≡ (bt, kind) = some_injective _ _ e in
    let k : h.kind ≡ kind = ap (λ (p : BlockType × FrameKind). p.1) both in
    let b : h.block_type ≡ bt = ap (λ (p : BlockType × FrameKind). p.0) both in
    (refl, ap₂ (λ k b. label_types cx (head_of k b)) k b)
label_there cx (h ∷ hs) (suc d) bt kind e = label_there cx hs d bt kind e

pub no_label : (hs : List Head) (d : ℕ) → option_map type_and_kind (slice_get hs d) ≡ None → has_label hs d ≡ false
no_label [] zero e = refl
no_label [] (suc d) e = refl
no_label (h ∷ hs) zero e = absurd cc
no_label (h ∷ hs) (suc d) e = no_label hs d e

pub no_types : (cx : Context) (hs : List Head) (d : ℕ) → has_label hs d ≡ false → label_types_at cx hs d ≡ []
no_types cx [] zero h = refl
no_types cx [] (suc d) h = refl
no_types cx (h ∷ hs) zero e = absurd cc
no_types cx (h ∷ hs) (suc d) e = no_types cx hs d e

-- ---- the step of an operator with a plain row

module _ (md : ModuleContext) (v : BodyState) (f : Frame) (fs : List Frame) (e : v.present.frames ≡ f ∷ fs) where
  abbrev cx : Context
  cx = body_context md v

  abbrev frame_then : List ValType → List ValType → Bool → Frame
  frame_then expected push dead = record f { operands = operands_after dead (operands_under (length expected) f) (map Known push); dead = f.dead || dead }

  flat_in : (row : Context → List Head → Row) (p : Bool) (expected : List ValType) (also : List (List ValType)) (push : List ValType) (targets : List Target) (dead : Bool) → row cx (heads v.present.frames) ≡ row_with p None expected also push None targets [] dead → step_body md (λ c. staying_operator (row c)) v ≡ guard p (guard (all_fit cx (operands_found (length expected) f) expected && all_fit_each cx (operands_found (length expected) f) also) (Some (with_frame v (frame_then expected push dead) fs)))
  flat_in row p expected also push targets dead h =
      ap (λ gs. option_map (λ (s : State). record v { present = s }) (step_in cx (staying_operator (row cx)) gs v.present.left)) e
      ∙ ap (λ (r : Row). option_map (λ (s : State). record v { present = s }) (step_in cx (staying_operator (λ _. r)) (f ∷ fs) v.present.left)) (ap (λ gs. row cx (heads gs)) (sym e) ∙ h)
      ∙ guarded p (all_fit cx (operands_found (length expected) f) expected && all_fit_each cx (operands_found (length expected) f) also)
    where
      guarded : (p q : Bool) → option_map (λ (s : State). record v { present = s }) (option_map (state_after cx (row_with p None expected also push None targets [] dead) (open_frames f fs v.present.left) Stays) (guard (p && true) (guard q (Some (map Known push))))) ≡ guard p (guard q (Some (with_frame v (frame_then expected push dead) fs)))
      guarded true true = refl
      guarded true false = refl
      guarded false q = refl

through : {A : Type 0} (p q r : Bool) (g : A → A) (x y : A) → g x ≡ y → guard p (guard (q && r) (Some y)) ≡ guard p (guard r (option_map g (guard q (Some x))))
through true true r g x y h = ap (λ z. guard r (Some z)) (sym h)
through true false true g x y h = refl
through true false false g x y h = refl
through false q r g x y h = refl

-- the further lists that the operands have to fit
abbrev pub each_fits : Context → ℕ → List Frame → List (List ValType) → Bool
each_fits c n [] also = false
each_fits c n (f ∷ fs) also = all_fit_each c (operands_found n f) also

module _ (md : ModuleContext) (v : BodyState) (o : v.present.frames ≢ []) (row : Context → List Head → Row) (p : Bool) (expected : List ValType) where
  -- a row that ends the live part: pops, and then the frame is dead
  pub ends_is : (also : List (List ValType)) (targets : List Target) → row (body_context md v) (heads v.present.frames) ≡ row_with p None expected also [] None targets [] true → step_body md (λ c. staying_operator (row c)) v ≡ guard p (guard (each_fits (body_context md v) (length expected) v.present.frames also) (option_map body_unreachable (body_popped_each md (reverse expected) v)))
  ends_is also targets h = by v.present.frames refl
    where
      by : (fs : List Frame) → v.present.frames ≡ fs → step_body md (λ c. staying_operator (row c)) v ≡ guard p (guard (each_fits (body_context md v) (length expected) v.present.frames also) (option_map body_unreachable (body_popped_each md (reverse expected) v)))
      by [] e = absurd (o e)
      by (f ∷ fs) e =
          let n = length expected in
          let cx = body_context md v in
          flat_in md v f fs e row p expected also [] targets true h
          ∙ ap (λ b. guard p (guard (all_fit cx (operands_found n f) expected && all_fit_each cx (operands_found n f) also) (Some (with_frame v (record f { operands = []; dead = b }) fs)))) (or_true f.dead)
          ∙ through p (all_fit cx (operands_found n f) expected) (all_fit_each cx (operands_found n f) also) body_unreachable (with_frame v (record f { operands = operands_under n f }) fs) (with_frame v (record f { operands = []; dead = true }) fs) refl
          ∙ ap (λ q. guard p (guard (all_fit_each cx (operands_found n f) also) (option_map body_unreachable q))) (sym (popped_whole md v f fs expected e))
          ∙ ap (λ gs. guard p (guard (each_fits cx n gs also) (option_map body_unreachable (body_popped_each md (reverse expected) v)))) (sym e)

  -- a row that doesn't: pops, and then pushes
  pub pushes_is : (push : List ValType) (targets : List Target) → row (body_context md v) (heads v.present.frames) ≡ row_with p None expected [] push None targets [] false → step_body md (λ c. staying_operator (row c)) v ≡ guard p (option_map (λ u. body_pushed_each push u) (body_popped_each md (reverse expected) v))
  pushes_is push targets h = by v.present.frames refl
    where
      by : (fs : List Frame) → v.present.frames ≡ fs → step_body md (λ c. staying_operator (row c)) v ≡ guard p (option_map (λ u. body_pushed_each push u) (body_popped_each md (reverse expected) v))
      by [] e = absurd (o e)
      by (f ∷ fs) e =
          let n = length expected in
          let cx = body_context md v in
          let below : Frame = record f { operands = operands_under n f } in
          flat_in md v f fs e row p expected [] push targets false h
          ∙ ap (λ b. guard p (guard (all_fit cx (operands_found n f) expected && true) (Some (with_frame v (record below { operands = stack_with (map Known push) below.operands; dead = b }) fs)))) (or_false f.dead)
          ∙ through p (all_fit cx (operands_found n f) expected) true (λ u. body_pushed_each push u) (with_frame v below fs) (with_frame v (record below { operands = stack_with (map Known push) below.operands }) fs) (pushed_whole push (with_frame v below fs) below fs refl)
          ∙ ap (λ q. guard p (option_map (λ u. body_pushed_each push u) q)) (sym (popped_whole md v f fs expected e))

-- ---- the types of a label

-- they are valid
pub label_valid : (md : ModuleContext) (v : BodyState) (d : ℕ) (ts : List ValType) → IsLawful md → IsValidBody md v → ts ≡ label_types_at (body_context md v) (heads v.present.frames) d → AllByRecursion (Valid md) ts
label_valid md v d ts laws valid e =
    subst (AllByRecursion (Valid md)) (sym e) (label_at_valid (body_context md v) laws (heads v.present.frames) d (heads_valid (body_context md v) laws v.present.frames valid.frames))

-- ---- `br` and `return`

-- a branch to label d, whose row may be written otherwise
module _ (md : ModuleContext) (v : BodyState) (o : v.present.frames ≢ []) (row : Context → List Head → Row) (d : ℕ) (same : row (body_context md v) (heads v.present.frames) ≡ br_row (body_context md v) (heads v.present.frames) d) where
  abbrev hs_now : List Head
  hs_now = heads v.present.frames

  br_with : (b : Bool) (ts : List ValType) → has_label hs_now d ≡ b → label_types_at (body_context md v) hs_now d ≡ ts → step_body md (λ c. staying_operator (row c)) v ≡ guard b (option_map body_unreachable (body_popped_each md (reverse ts) v))
  br_with b ts hb ht =
      ends_is md v o row b ts [] (target (body_context md v) hs_now d ∷ []) (same ∙ ap₂ (λ p ws. row_with p None ws [] [] None (target (body_context md v) hs_now d ∷ []) [] true) hb ht)
      ∙ ap (guard b) (only v.present.frames refl)
    where
      only : (fs : List Frame) → v.present.frames ≡ fs → guard (each_fits (body_context md v) (length ts) v.present.frames []) (option_map body_unreachable (body_popped_each md (reverse ts) v)) ≡ option_map body_unreachable (body_popped_each md (reverse ts) v)
      only [] e = absurd (o e)
      only (f ∷ fs) e = ap (λ gs. guard (each_fits (body_context md v) (length ts) gs []) (option_map body_unreachable (body_popped_each md (reverse ts) v))) e

  pub br_none : label_at v d ≡ None → step_body md (λ c. staying_operator (row c)) v ≡ None
  br_none n = br_with false (label_types_at (body_context md v) hs_now d) (no_label hs_now d n) refl

  module _ (bt : BlockType) (kind : FrameKind) (ts : List ValType) (there : label_at v d ≡ Some (bt, kind)) (types : ts ≡ label_types (body_context md v) (head_of kind bt)) where
    pub types_there : ts ≡ label_types_at (body_context md v) hs_now d
    types_there = types ∙ sym (label_there (body_context md v) hs_now d bt kind there).1

    pub br_is : step_body md (λ c. staying_operator (row c)) v ≡ option_map body_unreachable (body_popped_each md (reverse ts) v)
    br_is = br_with true ts (label_there (body_context md v) hs_now d bt kind there).0 (sym types_there)

    pub br_refused : body_popped_each md (reverse ts) v ≡ None → step_body md (λ c. staying_operator (row c)) v ≡ None
    br_refused n = br_is ∙ ap (option_map body_unreachable) n

    pub br_passes : (u w : BodyState) → body_popped_each md (reverse ts) v ≡ Some u → w ≡ body_unreachable u → step_body md (λ c. staying_operator (row c)) v ≡ Some w
    br_passes u w p q = br_is ∙ (ap (option_map body_unreachable) p ∙ ap Some (sym q))

-- ---- operators that take what they want, and end the live part

module _ (md : ModuleContext) (v : BodyState) (o : v.present.frames ≢ []) (expected : List ValType) where
  pub ending_is : step_body md (λ c. staying_operator (λ hs. ending_row expected)) v ≡ option_map body_unreachable (body_popped_each md (reverse expected) v)
  ending_is = ends_is md v o (λ c hs. ending_row expected) true expected [] [] refl ∙ only v.present.frames refl
    where
      only : (fs : List Frame) → v.present.frames ≡ fs → guard (each_fits (body_context md v) (length expected) v.present.frames []) (option_map body_unreachable (body_popped_each md (reverse expected) v)) ≡ option_map body_unreachable (body_popped_each md (reverse expected) v)
      only [] e = absurd (o e)
      only (f ∷ fs) e = ap (λ gs. guard (each_fits (body_context md v) (length expected) gs []) (option_map body_unreachable (body_popped_each md (reverse expected) v))) e

  pub ending_refused : body_popped_each md (reverse expected) v ≡ None → step_body md (λ c. staying_operator (λ hs. ending_row expected)) v ≡ None
  ending_refused n = ending_is ∙ ap (option_map body_unreachable) n

  pub ending_passes : (u w : BodyState) → body_popped_each md (reverse expected) v ≡ Some u → w ≡ body_unreachable u → step_body md (λ c. staying_operator (λ hs. ending_row expected)) v ≡ Some w
  ending_passes u w p q = ending_is ∙ (ap (option_map body_unreachable) p ∙ ap Some (sym q))

pub unreachable_is : (md : ModuleContext) (v w : BodyState) → v.present.frames ≢ [] → w ≡ body_unreachable v → step_body md (λ c. staying_operator (λ hs. ending_row [])) v ≡ Some w
unreachable_is md v w o e = ending_passes md v o [] v w (popped_none md v) e

-- ---- pops leave the labels

pub popped_heads : (v : BodyState) → heads (steps.body_popped v).present.frames ≡ heads v.present.frames
popped_heads v = by v.present.frames refl
  where
    inner : (own : List MaybeType) (f : Frame) (fs : List Frame) → v.present.frames ≡ f ∷ fs → heads (steps.body_without_first own v).present.frames ≡ heads v.present.frames
    inner [] f fs e = refl
    inner (x ∷ own) f fs e = ap (λ gs. heads (steps.frames_owning own gs)) e ∙ sym (ap heads e)

    by : (fs : List Frame) → v.present.frames ≡ fs → heads (steps.body_popped v).present.frames ≡ heads v.present.frames
    by [] e = ap (λ gs. heads (steps.body_without_first (steps.innermost_operands gs) v).present.frames) e
    by (f ∷ fs) e = inner (steps.innermost_operands v.present.frames) f fs e

pub same_heads : (md : ModuleContext) (ws : List ValType) (v u : BodyState) → body_popped_each md ws v ≡ Some u → heads u.present.frames ≡ heads v.present.frames
same_heads md [] v u h = ap (λ (w : BodyState). heads w.present.frames) (sym (some_injective v u (sym (popped_none md v) ∙ h)))
same_heads md (w ∷ ws) v u h = same_heads md ws (steps.body_popped v) u (guard_some _ _ _ (sym (popped_next md w ws v) ∙ h)).1 ∙ popped_heads v

-- a pop leaves a frame open
pub still_open : (md : ModuleContext) (ws : List ValType) (v u : BodyState) → body_popped_each md ws v ≡ Some u → v.present.frames ≢ [] → u.present.frames ≢ []
still_open md ws v u h o e = by v.present.frames refl (sym (same_heads md ws v u h) ∙ ap heads e)
  where
    by : (fs : List Frame) → v.present.frames ≡ fs → heads fs ≡ [] → ⊥
    by [] k q = o k
    by (f ∷ fs) k q = absurd cc

-- operands dropped leave the labels
dropped_heads : (n : ℕ) (v : BodyState) → heads (body_dropped n v).present.frames ≡ heads v.present.frames
dropped_heads n v = by v.present.frames
  where
    by : (fs : List Frame) → heads (frames_dropped n fs) ≡ heads fs
    by [] = refl
    by (f ∷ fs) = refl

pub dropped_label : (n d : ℕ) (v : BodyState) → label_at (body_dropped n v) d ≡ label_at v d
dropped_label n d v = ap (λ hs. option_map type_and_kind (slice_get hs d)) (dropped_heads n v)

-- ---- `br_if`

module _ (md : ModuleContext) (v : BodyState) (o : v.present.frames ≢ []) (d : ℕ) where
  abbrev if_row : Context → List Head → Row
  if_row c hs = br_if_row c hs d

  br_if_with : (b : Bool) (ts : List ValType) → has_label (heads v.present.frames) d ≡ b → label_types_at (body_context md v) (heads v.present.frames) d ≡ ts → step_body md (λ c. staying_operator (λ hs. br_if_row c hs d)) v ≡ guard b (option_map (λ u. body_pushed_each ts u) (body_popped_each md (reverse (ts ++ I32 ∷ [])) v))
  br_if_with b ts hb ht =
      pushes_is md v o if_row b (ts ++ I32 ∷ []) ts (target (body_context md v) (heads v.present.frames) d ∷ []) (ap₂ (λ p ws. row_with p None (ws ++ I32 ∷ []) [] ws None (target (body_context md v) (heads v.present.frames) d ∷ []) [] false) hb ht)

  -- the types of the label, and the test above them
  module _ (bt : BlockType) (kind : FrameKind) (ts : List ValType) (there : label_at v d ≡ Some (bt, kind)) (types : ts ≡ label_types (body_context md v) (head_of kind bt)) where
    pub br_if_types : ts ≡ label_types_at (body_context md v) (heads v.present.frames) d
    br_if_types = types ∙ sym (label_there (body_context md v) (heads v.present.frames) d bt kind there).1

    pub br_if_whole : step_body md (λ c. staying_operator (λ hs. br_if_row c hs d)) v ≡ option_map (λ u. body_pushed_each ts u) (body_popped_each md (reverse (ts ++ I32 ∷ [])) v)
    br_if_whole = br_if_with true ts (label_there (body_context md v) (heads v.present.frames) d bt kind there).0 (sym br_if_types)

  -- the test was not there
  pub br_if_untested : body_popped_each md (reverse (I32 ∷ [])) v ≡ None → step_body md (λ c. staying_operator (λ hs. br_if_row c hs d)) v ≡ None
  br_if_untested n =
      let ts = label_types_at (body_context md v) (heads v.present.frames) d in
      br_if_with (has_label (heads v.present.frames) d) ts refl refl
      ∙ ap (λ q. guard (has_label (heads v.present.frames) d) (option_map (λ u. body_pushed_each ts u) q)) (none_above md ts (I32 ∷ []) v n)
      ∙ none_either (has_label (heads v.present.frames) d)
    where
      none_either : (b : Bool) → guard {A = BodyState} b None ≡ None
      none_either true = refl
      none_either false = refl

  module _ (u : BodyState) (test : body_popped_each md (reverse (I32 ∷ [])) v ≡ Some u) where
    label_same : label_at u d ≡ label_at v d
    label_same = ap (λ hs. option_map type_and_kind (slice_get hs d)) (same_heads md (reverse (I32 ∷ [])) v u test)

    pub br_if_none : label_at u d ≡ None → step_body md (λ c. staying_operator (λ hs. br_if_row c hs d)) v ≡ None
    br_if_none n = br_if_with false (label_types_at (body_context md v) (heads v.present.frames) d) (no_label (heads v.present.frames) d (sym label_same ∙ n)) refl

    module _ (bt : BlockType) (kind : FrameKind) (ts : List ValType) (there : label_at u d ≡ Some (bt, kind)) (types : ts ≡ label_types (body_context md v) (head_of kind bt)) where
      pub types_if : ts ≡ label_types_at (body_context md v) (heads v.present.frames) d
      types_if = types ∙ sym (label_there (body_context md v) (heads v.present.frames) d bt kind (sym label_same ∙ there)).1

      br_if_is : step_body md (λ c. staying_operator (λ hs. br_if_row c hs d)) v ≡ option_map (λ w. body_pushed_each ts w) (body_popped_each md (reverse ts) u)
      br_if_is =
          br_if_with true ts (label_there (body_context md v) (heads v.present.frames) d bt kind (sym label_same ∙ there)).0 (sym types_if)
          ∙ ap (option_map (λ w. body_pushed_each ts w)) (some_above md ts (I32 ∷ []) v u test)

      pub br_if_refused : body_popped_each md (reverse ts) u ≡ None → step_body md (λ c. staying_operator (λ hs. br_if_row c hs d)) v ≡ None
      br_if_refused n = br_if_is ∙ ap (option_map (λ w. body_pushed_each ts w)) n

      pub br_if_passes : (w : BodyState) → body_popped_each md (reverse ts) u ≡ Some w → step_body md (λ c. staying_operator (λ hs. br_if_row c hs d)) v ≡ Some (body_pushed_each ts w)
      br_if_passes w p = br_if_is ∙ ap (option_map (λ w. body_pushed_each ts w)) p

-- ---- the outermost label

pub outermost_is : (fs : List Frame) (n m : ℕ) → n ≡ length fs → m ≡ n - 1 → m ≡ pred (length (heads fs))
outermost_is [] n m h k = omega (arith, h, k)
outermost_is (f ∷ fs) n m h k = omega (arith, h, k, length-heads fs)
  where
    length-heads : (fs : List Frame) → length (heads fs) ≡ length fs
    length-heads [] = refl
    length-heads (f ∷ fs) = ap suc (length-heads fs)

pub label_at_frame : (v : BodyState) (n d : ℕ) (r : FlatFrame) → n ≡ d → frame_at v n ≡ Some r → label_at v d ≡ Some (r.block_type, r.kind)
label_at_frame v n d r e h =
    sym (label_found v.present.frames (length v.present.left) d)
    ∙ (ap (λ k. option_map (λ (r : FlatFrame). (r.block_type, r.kind)) (frame_at v k)) (sym e) ∙ ap (option_map (λ (r : FlatFrame). (r.block_type, r.kind))) h)

get_some : {X : Type 0} (xs : List X) (n : ℕ) → n < length xs → slice_get xs n ≡ None → ⊥
get_some [] n h e = omega (arith, h)
get_some (x ∷ xs) zero h e = absurd cc
get_some (x ∷ xs) (suc n) h e = get_some xs n (omega (arith, h)) e

length-heights : (fs : List Frame) (n : ℕ) → length (with_heights fs n) ≡ length fs
length-heights [] n = refl
length-heights (f ∷ fs) n = ap suc (length-heights fs n)

length-some : (fs : List Frame) → fs ≢ [] → 0 < length fs
length-some [] o = absurd (o refl)
length-some (f ∷ fs) o = omega arith

pub some_outermost : (v : BodyState) (n m : ℕ) → v.present.frames ≢ [] → n ≡ frame_count v.present → m ≡ n - 1 → frame_at v m ≡ None → ⊥
some_outermost v n m o e k h =
    get_some (with_heights v.present.frames (length v.present.left)) m (omega (arith, e, k, length-some v.present.frames o, length-heights v.present.frames (length v.present.left))) h

pub outermost_label : (v : BodyState) (n : ℕ) (r : FlatFrame) → n ≡ frame_count v.present → frame_at v (n - 1) ≡ Some r → label_at v (pred (length (heads v.present.frames))) ≡ Some (r.block_type, r.kind)
outermost_label v n r e h = label_at_frame v (n - 1) (pred (length (heads v.present.frames))) r (outermost_is v.present.frames n (n - 1) e refl) h
