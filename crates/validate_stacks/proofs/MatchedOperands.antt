-- Operands matched in place, from the top, are the expected list taken whole.
use Rattle.std.proofs.Common.{◌≡◌, ℕ, zero, suc, ◌+◌, ◌-◌, ◌<◌, List, [], ◌∷◌, ◌++◌, Bool, true, false, ◌&&◌, Option, Some, length, subst, take, drop, reverse, get_or, refl, sym, ◌∙◌, ap, ap₂, arith}
use Rattle.std.proofs.lemmas.List.{take_more, reverse-append, length-append, take_all}
use Rattle.validate_resources.specs.Context.{ModuleContext}
use Rattle.validate_types.specs.declared.types.ValType.{ValType}
use Rattle.validation_rules.specs.Context.{Context}
use Rattle.validation_rules.specs.Fits.{MaybeType, all_fit}
use Rattle.validation_rules.specs.Static.{Frame, operands_on_top}
use Rattle.validation_rules.proofs.Pops.{fit_turned}
use Rattle.validate_stacks.specs.AtOnce.{frames_dropped, body_dropped}
use Rattle.validate_stacks.specs.Pops.{may_pop, operands_found_in, has_operands_fitting}
use Rattle.validate_stacks.specs.State.{BodyState, body_context}
use Rattle.validation_rules.specs.Pops.{found_by_pop}
use Rattle.validate_stacks.specs.Steps.{found_after_pops_in_frames, found_after_pops_in_body}

-- n more operands that pops find, after k others, the top first
abbrev pub after_in : ℕ → ℕ → List Frame → List MaybeType
after_in n k [] = []
after_in n k (f ∷ fs) = operands_on_top n f.dead (drop k f.operands)

pub drop_next : {X : Type 0} (k : ℕ) (xs : List X) → drop (suc k) xs ≡ drop 1 (drop k xs)
drop_next zero xs = refl
drop_next (suc k) [] = refl
drop_next (suc k) (x ∷ xs) = drop_next k xs

module _ (cx : Context) where
  -- all of the list is left to match
  pub all_left : (expected : List ValType) (v : BodyState) → all_fit cx (after_in (length expected) 0 v.present.frames) (reverse expected) ≡ has_operands_fitting cx expected v
  all_left expected v = by v.present.frames
    where
      by : (fs : List Frame) → all_fit cx (after_in (length expected) 0 fs) (reverse expected) ≡ all_fit cx (operands_found_in (length expected) fs) expected
      by [] = sym (fit_turned cx [] expected)
      by (f ∷ fs) = sym (fit_turned cx (operands_on_top (length expected) f.dead f.operands) expected)

  pub next_in : (n : ℕ) (own : List MaybeType) (dead : Bool) (w : ValType) (ws : List ValType) → all_fit cx (operands_on_top (suc n) dead own) (w ∷ ws) ≡ may_pop cx (found_by_pop dead own) (Some w) && all_fit cx (operands_on_top n dead (drop 1 own)) ws
  next_in n (x ∷ own) dead w ws = refl
  next_in n [] true w ws = refl
  next_in n [] false w ws = refl

  -- one of them matched
  next_left : (n k : ℕ) (fs : List Frame) (w : ValType) (ws : List ValType) → all_fit cx (after_in (suc n) k fs) (w ∷ ws) ≡ may_pop cx (found_after_pops_in_frames k fs) (Some w) && all_fit cx (after_in n (suc k) fs) ws
  next_left n k [] w ws = refl
  next_left n k (f ∷ fs) w ws =
      next_in n (drop k f.operands) f.dead w ws
      ∙ ap (λ l. may_pop cx (found_by_pop f.dead (drop k f.operands)) (Some w) && all_fit cx (operands_on_top n f.dead l) ws) (sym (drop_next k f.operands))

  -- one expected on top of others
  pub under_next : (under : List ValType) (above : ValType) (v : BodyState) → has_operands_fitting cx (under ++ above ∷ []) v ≡ has_operands_fitting cx (above ∷ []) v && has_operands_fitting cx under (body_dropped 1 v)
  under_next under above v =
      sym (all_left (under ++ above ∷ []) v)
      ∙ ap₂ (λ n ws. all_fit cx (after_in n 0 v.present.frames) ws) longer (reverse-append under (above ∷ []))
      ∙ next_left (length under) 0 v.present.frames above (reverse under)
      ∙ ap₂ (λ p q. p && q) (alone v.present.frames) (below v.present.frames)
    where
      longer : length (under ++ above ∷ []) ≡ suc (length under)
      longer = length-append under (above ∷ []) ∙ omega arith

      and_true : (b : Bool) → b ≡ b && true
      and_true true = refl
      and_true false = refl

      on_top : (dead : Bool) (own : List MaybeType) → may_pop cx (found_by_pop dead own) (Some above) ≡ all_fit cx (operands_on_top 1 dead own) (above ∷ [])
      on_top dead (x ∷ own) = and_true (may_pop cx (Some x) (Some above))
      on_top true [] = refl
      on_top false [] = refl

      alone : (fs : List Frame) → may_pop cx (found_after_pops_in_frames 0 fs) (Some above) ≡ all_fit cx (operands_found_in 1 fs) (above ∷ [])
      alone [] = refl
      alone (f ∷ fs) = on_top f.dead f.operands ∙ sym (fit_turned cx (operands_on_top 1 f.dead f.operands) (above ∷ []))

      below : (fs : List Frame) → all_fit cx (after_in (length under) 1 fs) (reverse under) ≡ all_fit cx (operands_found_in (length under) (frames_dropped 1 fs)) under
      below [] = sym (fit_turned cx [] under)
      below (f ∷ fs) = sym (fit_turned cx (operands_on_top (length under) f.dead (drop 1 f.operands)) under)

  pub last_next : (expected : List ValType) (i : ℕ) (d : ValType) → i < length expected → reverse (take (suc i) expected) ≡ get_or expected i d ∷ reverse (take i expected)
  last_next expected i d h = ap reverse (ap (λ k. take k expected) plus ∙ take_more expected i d h) ∙ reverse-append (take i expected) (get_or expected i d ∷ [])
    where
      plus : suc i ≡ i + 1
      plus = omega arith

  -- with the place i of the list still to match, and those below it
  pub one_matched : (expected : List ValType) (v : BodyState) (i : ℕ) (d : ValType) → i < length expected → all_fit cx (after_in (suc i) (length expected - suc i) v.present.frames) (reverse (take (suc i) expected)) ≡ may_pop cx (found_after_pops_in_body (length expected - 1 - i) v) (Some (get_or expected i d)) && all_fit cx (after_in i (length expected - i) v.present.frames) (reverse (take i expected))
  one_matched expected v i d h =
      let place : length expected - suc i ≡ length expected - 1 - i = omega arith in
      let next : suc (length expected - suc i) ≡ length expected - i = omega (arith, h) in
      ap (all_fit cx (after_in (suc i) (length expected - suc i) v.present.frames)) (last_next expected i d h)
      ∙ next_left i (length expected - suc i) v.present.frames (get_or expected i d) (reverse (take i expected))
      ∙ ap₂ (λ p q. may_pop cx (found_after_pops_in_body p v) (Some (get_or expected i d)) && all_fit cx (after_in i q v.present.frames) (reverse (take i expected))) place next

  -- at the start
  pub matching_starts : (expected : List ValType) (v : BodyState) → all_fit cx (after_in (length expected) (length expected - length expected) v.present.frames) (reverse (take (length expected) expected)) ≡ has_operands_fitting cx expected v
  matching_starts expected v =
      let none : length expected - length expected ≡ 0 = omega arith in
      ap₂ (λ k ws. all_fit cx (after_in (length expected) k v.present.frames) (reverse ws)) none (take_all (length expected) expected (omega arith)) ∙ all_left expected v

  -- with n of the list still to match
  matched : (expected : List ValType) (v : BodyState) (n : ℕ) (d : ValType) → 0 < n → n - 1 < length expected → all_fit cx (after_in n (length expected - n) v.present.frames) (reverse (take n expected)) ≡ may_pop cx (found_after_pops_in_body (length expected - 1 - (n - 1)) v) (Some (get_or expected (n - 1) d)) && all_fit cx (after_in (n - 1) (length expected - (n - 1)) v.present.frames) (reverse (take (n - 1) expected))
  matched expected v zero d s h = absurd (omega (arith, s))
  matched expected v (suc i) d s h =
      let less : suc i - 1 ≡ i = omega arith in
      rw less (one_matched expected v i d (omega (arith, h)))

  pub matching_goes_on : (expected : List ValType) (v : BodyState) (n : ℕ) (d : ValType) → 0 < n → n - 1 < length expected → (found : Option MaybeType) → found ≡ found_after_pops_in_body (length expected - 1 - (n - 1)) v → may_pop cx found (Some (get_or expected (n - 1) d)) ≡ true → all_fit cx (after_in n (length expected - n) v.present.frames) (reverse (take n expected)) ≡ has_operands_fitting cx expected v → all_fit cx (after_in (n - 1) (length expected - (n - 1)) v.present.frames) (reverse (take (n - 1) expected)) ≡ has_operands_fitting cx expected v
  matching_goes_on expected v n d s h found f p e =
      sym (matched expected v n d s h ∙ ap (λ o. may_pop cx o (Some (get_or expected (n - 1) d)) && all_fit cx (after_in (n - 1) (length expected - (n - 1)) v.present.frames) (reverse (take (n - 1) expected))) (sym f) ∙ ap (λ b. b && all_fit cx (after_in (n - 1) (length expected - (n - 1)) v.present.frames) (reverse (take (n - 1) expected))) p) ∙ e

  pub matching_stops : (expected : List ValType) (v : BodyState) (n : ℕ) (d : ValType) → 0 < n → n - 1 < length expected → (found : Option MaybeType) → found ≡ found_after_pops_in_body (length expected - 1 - (n - 1)) v → may_pop cx found (Some (get_or expected (n - 1) d)) ≡ false → all_fit cx (after_in n (length expected - n) v.present.frames) (reverse (take n expected)) ≡ has_operands_fitting cx expected v → has_operands_fitting cx expected v ≡ false
  matching_stops expected v n d s h found f p e =
      sym e ∙ (matched expected v n d s h ∙ ap (λ o. may_pop cx o (Some (get_or expected (n - 1) d)) && all_fit cx (after_in (n - 1) (length expected - (n - 1)) v.present.frames) (reverse (take (n - 1) expected))) (sym f) ∙ ap (λ b. b && all_fit cx (after_in (n - 1) (length expected - (n - 1)) v.present.frames) (reverse (take (n - 1) expected))) p)

-- the same of a state u that is the state v
module _ (md : ModuleContext) (expected : List ValType) (u v : BodyState) (same : u ≡ v) (n : ℕ) (d : ValType) (some : 0 < n) (within : n - 1 < length expected) (found : Option MaybeType) (is_found : found ≡ found_after_pops_in_body (length expected - 1 - (n - 1)) u) where
  there : found ≡ found_after_pops_in_body (length expected - 1 - (n - 1)) v
  there = is_found ∙ ap (found_after_pops_in_body (length expected - 1 - (n - 1))) same

  test_same : may_pop (body_context md u) found (Some (get_or expected (n - 1) d)) ≡ may_pop (body_context md v) found (Some (get_or expected (n - 1) d))
  test_same = ap (λ s. may_pop (body_context md s) found (Some (get_or expected (n - 1) d))) same

  pub goes_on_there : may_pop (body_context md u) found (Some (get_or expected (n - 1) d)) ≡ true → all_fit (body_context md v) (after_in n (length expected - n) v.present.frames) (reverse (take n expected)) ≡ has_operands_fitting (body_context md v) expected v → all_fit (body_context md v) (after_in (n - 1) (length expected - (n - 1)) v.present.frames) (reverse (take (n - 1) expected)) ≡ has_operands_fitting (body_context md v) expected v
  goes_on_there p e = matching_goes_on (body_context md v) expected v n d some within found there (sym test_same ∙ p) e

  pub stops_there : may_pop (body_context md u) found (Some (get_or expected (n - 1) d)) ≡ false → all_fit (body_context md v) (after_in n (length expected - n) v.present.frames) (reverse (take n expected)) ≡ has_operands_fitting (body_context md v) expected v → has_operands_fitting (body_context md v) expected v ≡ false
  stops_there p e = matching_stops (body_context md v) expected v n d some within found there (sym test_same ∙ p) e

-- a list of so many types, whose type at n - 1 is t
module _ (md : ModuleContext) (expected : List ValType) (v : BodyState) (n : ℕ) (d t : ValType) (some : 0 < n) (is : get_or expected (n - 1) d ≡ t) where
  abbrev Rest : ℕ → ℕ → Type 0
  Rest c k = all_fit (body_context md v) (after_in k (c - k) v.present.frames) (reverse (take k expected)) ≡ has_operands_fitting (body_context md v) expected v

  pub counted_goes_on : (c : ℕ) → length expected ≡ c → n - 1 < c → may_pop (body_context md v) (found_after_pops_in_body (c - 1 - (n - 1)) v) (Some t) ≡ true → Rest c n → Rest c (n - 1)
  counted_goes_on c long =
      subst (λ k. n - 1 < k → may_pop (body_context md v) (found_after_pops_in_body (k - 1 - (n - 1)) v) (Some t) ≡ true → Rest k n → Rest k (n - 1)) long
      (λ h p e. goes_on_there md expected v v refl n d some h _ refl (ap (λ w. may_pop (body_context md v) (found_after_pops_in_body (length expected - 1 - (n - 1)) v) (Some w)) is ∙ p) e)

  pub counted_stops : (c : ℕ) → length expected ≡ c → n - 1 < c → may_pop (body_context md v) (found_after_pops_in_body (c - 1 - (n - 1)) v) (Some t) ≡ false → Rest c n → has_operands_fitting (body_context md v) expected v ≡ false
  counted_stops c long =
      subst (λ k. n - 1 < k → may_pop (body_context md v) (found_after_pops_in_body (k - 1 - (n - 1)) v) (Some t) ≡ false → Rest k n → has_operands_fitting (body_context md v) expected v ≡ false) long
      (λ h p e. stops_there md expected v v refl n d some h _ refl (ap (λ w. may_pop (body_context md v) (found_after_pops_in_body (length expected - 1 - (n - 1)) v) (Some w)) is ∙ p) e)

pub counted_starts : (cx : Context) (expected : List ValType) (v : BodyState) (c : ℕ) → length expected ≡ c → all_fit cx (after_in c (c - c) v.present.frames) (reverse (take c expected)) ≡ has_operands_fitting cx expected v
counted_starts cx expected v c long = subst (λ k. all_fit cx (after_in k (k - k) v.present.frames) (reverse (take k expected)) ≡ has_operands_fitting cx expected v) long (matching_starts cx expected v)
