-- Runs of pops of one type: their list turned, a pop of an own operand, and the pop below all of them.
use Rattle.std.proofs.Common.{Result, Ok, Err, OnErr, get_or, ◌≡◌, ◌⊎◌, inl, inr, min, ◌&&◌, Bool, false, ap₂, drop, take, ℕ, zero, suc, ◌+◌, ◌-◌, ◌<◌, ◌≤◌, List, [], ◌∷◌, ◌++◌, true, Some, length, reverse, replicate, refl, sym, ◌∙◌, ap, arith}
use Rattle.std.proofs.lemmas.Bool.{cases_lt}
use Rattle.std.proofs.lemmas.List.{drop_all, get_or-reverse, get_or-take, length-take-le, length-replicate, replicate_more, reverse-append}
use Rattle.validate_resources.specs.Context.{ModuleContext}
use Rattle.validate_types.specs.declared.types.ValType.{ValType}
use Rattle.validation_rules.specs.Context.{Context}
use Rattle.validation_rules.proofs.Pops.{fit_turned}
use Rattle.validation_rules.specs.Fits.{MaybeType, Bottom, all_fit, fits}
use Rattle.validation_rules.specs.Pops.{found_by_pop}
use Rattle.validation_rules.specs.Rows.{guard}
use Rattle.validation_rules.specs.Static.{Frame, operands_on_top}
use Rattle.validate_stacks.specs.Pops.{may_pop, body_popped_each, has_operands_fitting, operands_found_in}
use Rattle.validate_stacks.specs.State.{BodyState, body_context}
use Rattle.validate_stacks.specs.Steps.{innermost_operands, found_in_frames, found_in_body, found_after_pops_in_frames, found_after_pops_in_body, body_popped, body_without_first}
use Rattle.validate_stacks.proofs.MatchedOperands.{after_in}
use Rattle.validate_stacks.proofs.Whole.{popped_none, popped_next}

-- what holds in any case holds where there is an error
pub on_err : {T E P : Type 0} (answer : Result T E) → P → OnErr answer P
on_err (Ok x) holds = tt
on_err (Err e) holds = holds

-- n times the same is its own reverse
pub reverse-replicate : {A : Type 0} (n : ℕ) (x : A) → reverse (replicate n x) ≡ replicate n x
reverse-replicate zero x = refl
reverse-replicate (suc n) x =
    let next : suc n ≡ n + 1 = omega arith in
    reverse-append (x ∷ []) (replicate n x) ∙ ap (λ xs. xs ++ x ∷ []) (reverse-replicate n x) ∙ replicate_more n x ∙ ap (λ k. replicate k x) (sym next)

-- a pop where there is no own operand takes none
pub unmoved : (v : BodyState) → length (innermost_operands v.present.frames) ≤ 0 → body_popped v ≡ v
unmoved v h = by (innermost_operands v.present.frames) h
  where
    by : (own : List MaybeType) → length own ≤ 0 → body_without_first own v ≡ v
    by [] k = refl
    by (x ∷ own) k = absurd (omega (arith, k))

-- what the first pop finds
pub found_first : (v : BodyState) → found_after_pops_in_body 0 v ≡ found_in_body v
found_first v = by v.present.frames
  where
    by : (fs : List Frame) → found_after_pops_in_frames 0 fs ≡ found_in_frames fs
    by [] = refl
    by (f ∷ fs) = refl

-- a pop finds an own operand where it lies
own_found_at : (d : ℕ) (own : List MaybeType) (dead : Bool) (x : MaybeType) → d < length own → found_by_pop dead (drop d own) ≡ Some (get_or own d x)
own_found_at d [] dead x h = absurd (omega (arith, h))
own_found_at zero (y ∷ own) dead x h = refl
own_found_at (suc d) (y ∷ own) dead x h = own_found_at d own dead x (omega (arith, h))

-- the top own operands, as they lie, the last on top, are what pops find
pub run_operand_found : (v : BodyState) (count i : ℕ) (x d : MaybeType) → count ≤ length (innermost_operands v.present.frames) → i < count → get_or (reverse (take count (innermost_operands v.present.frames))) i d ≡ x → found_after_pops_in_body (count - 1 - i) v ≡ Some x
run_operand_found v count i x d within here there = by v.present.frames within there
  where
    by : (fs : List Frame) → count ≤ length (innermost_operands fs) → get_or (reverse (take count (innermost_operands fs))) i d ≡ x → found_after_pops_in_frames (count - 1 - i) fs ≡ Some x
    by [] w t = absurd (omega (arith, w, here))
    by (f ∷ fs) w t =
        let own = f.operands in
        let top = take count own in
        let long : length top ≡ count = length-take-le count own w in
        let at : length top - 1 - i ≡ count - 1 - i = omega (arith, long) in
        own_found_at (count - 1 - i) own f.dead d (omega (arith, w, here))
        ∙ ap Some (sym (get_or-take count own (count - 1 - i) d (omega (arith, here))))
        ∙ ap (λ k. Some (get_or top k d)) (sym at)
        ∙ ap Some (sym (get_or-reverse top i d (omega (arith, here, long))))
        ∙ ap Some t

-- where a pop finds an unknown operand below all own ones, pops of any types pass and leave what there is
pub dead_stays : (md : ModuleContext) (v : BodyState) → innermost_operands v.present.frames ≡ [] → found_in_body v ≡ Some Bottom → (ts : List ValType) → body_popped_each md ts v ≡ Some v
dead_stays md v bare dead [] = popped_none md v
dead_stays md v bare dead (t ∷ ts) =
    popped_next md t ts v
    ∙ ap (λ q. guard (may_pop (body_context md v) q (Some t)) (body_popped_each md ts (body_popped v))) dead
    ∙ ap (body_popped_each md ts) (unmoved v (omega (arith, ap length bare)))
    ∙ dead_stays md v bare dead ts

-- ---- a run that goes past the own operands

module _ (cx : Context) (t : ValType) where
  and_assoc : (a b c : Bool) → a && (b && c) ≡ (a && b) && c
  and_assoc true b c = refl
  and_assoc false b c = refl

  run_split : (k m n : ℕ) (dead : Bool) (own : List MaybeType) → n ≡ k + m → k ≤ length own → all_fit cx (operands_on_top n dead own) (replicate n t) ≡ all_fit cx (operands_on_top k dead own) (replicate k t) && all_fit cx (operands_on_top m dead (drop k own)) (replicate m t)
  run_split zero m n dead own e h =
      let same : n ≡ m = omega (arith, e) in
      ap (λ j. all_fit cx (operands_on_top j dead own) (replicate j t)) same
  run_split (suc k) m n dead [] e h = absurd (omega (arith, h))
  run_split (suc k) m zero dead (x ∷ own) e h = absurd (omega (arith, e))
  run_split (suc k) m (suc n) dead (x ∷ own) e h = ap (λ b. fits cx x t && b) (run_split k m n dead own (omega (arith, e)) (omega (arith, h))) ∙ and_assoc (fits cx x t) _ _

  run_in_dead_code : (m : ℕ) → all_fit cx (operands_on_top m true []) (replicate m t) ≡ true
  run_in_dead_code zero = refl
  run_in_dead_code (suc m) = run_in_dead_code m

  run_below : (m : ℕ) (dead : Bool) → 0 < m → all_fit cx (operands_on_top m dead []) (replicate m t) ≡ may_pop cx (found_by_pop dead []) (Some t)
  run_below zero dead h = absurd (omega (arith, h))
  run_below (suc m) false h = refl
  run_below (suc m) true h = run_in_dead_code m

  and_false : (b : Bool) → b && false ≡ false
  and_false true = refl
  and_false false = refl

  run_on_top : (n : ℕ) (fs : List Frame) → all_fit cx (operands_found_in (length (replicate n t)) fs) (replicate n t) ≡ all_fit cx (after_in n 0 fs) (replicate n t)
  run_on_top n [] = refl
  run_on_top n (f ∷ fs) =
      fit_turned cx (operands_on_top (length (replicate n t)) f.dead f.operands) (replicate n t)
      ∙ ap₂ (λ k ws. all_fit cx (operands_on_top k f.dead f.operands) ws) (length-replicate n t) (reverse-replicate n t)

  -- it fits where its own part does, and what is found below that
  pub run_beyond : (v : BodyState) (k n : ℕ) → length (innermost_operands v.present.frames) ≡ k → k < n → has_operands_fitting cx (replicate n t) v ≡ has_operands_fitting cx (replicate k t) v && may_pop cx (found_after_pops_in_body k v) (Some t)
  run_beyond v k n own h = by v.present.frames own
    where
      nothing_fits : (n : ℕ) → 0 < n → all_fit cx [] (replicate n t) ≡ false
      nothing_fits zero s = absurd (omega (arith, s))
      nothing_fits (suc n) s = refl

      by : (fs : List Frame) → length (innermost_operands fs) ≡ k → all_fit cx (operands_found_in (length (replicate n t)) fs) (replicate n t) ≡ all_fit cx (operands_found_in (length (replicate k t)) fs) (replicate k t) && may_pop cx (found_after_pops_in_frames k fs) (Some t)
      by [] e = nothing_fits n (omega (arith, h)) ∙ sym (and_false _)
      by (f ∷ fs) e =
          let whole : n ≡ k + (n - k) = omega (arith, h) in
          let bare : drop k f.operands ≡ [] = ap (λ j. drop j f.operands) (sym e) ∙ drop_all (length f.operands) f.operands (omega arith) in
          run_on_top n (f ∷ fs)
          ∙ run_split k (n - k) n f.dead f.operands whole (omega (arith, e))
          ∙ ap₂ (λ p q. p && q) (sym (run_on_top k (f ∷ fs))) (ap (λ xs. all_fit cx (operands_on_top (n - k) f.dead xs) (replicate (n - k) t)) bare ∙ run_below (n - k) f.dead (omega (arith, h)) ∙ ap (λ xs. may_pop cx (found_by_pop f.dead xs) (Some t)) (sym bare))

  -- it doesn't fit where its own part doesn't
  pub run_cut : (v : BodyState) (k n j : ℕ) → length (innermost_operands v.present.frames) ≡ k → j ≡ min n k → has_operands_fitting cx (replicate j t) v ≡ false → has_operands_fitting cx (replicate n t) v ≡ false
  run_cut v k n j own least unfit = by (cases_lt k n)
    where
      cut : (i : ℕ) → j ≡ i → has_operands_fitting cx (replicate i t) v ≡ false
      cut i e = ap (λ m. has_operands_fitting cx (replicate m t) v) (sym e) ∙ unfit

      by : (k < n) ⊎ (n ≤ k) → has_operands_fitting cx (replicate n t) v ≡ false
      by (inl h) = run_beyond v k n own h ∙ ap (λ b. b && may_pop cx (found_after_pops_in_body k v) (Some t)) (cut k (omega (arith, least, h)))
      by (inr h) = cut n (omega (arith, least, h))
