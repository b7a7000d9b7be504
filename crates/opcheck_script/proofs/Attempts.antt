-- One answer further, and what the answers up to the end come to.
use Rattle.std.proofs.Common.{◌≡◌, ◌≢◌, ◌<◌, drop, ℕ, zero, suc, Bool, true, false, not, ◌&&◌, ◌||◌, List, [], ◌∷◌, ◌++◌, map, length, slice_get, Some, None, Result, Ok, Err, IfOk, IfErr, refl, sym, ap, ◌∙◌, subst, arith}
use Rattle.std.specs.Option.{option_and_then}
use Rattle.std.specs.Result.{is_ok, OnOk}
use Rattle.validate_types.specs.ErrorValue.{ErrorValue}
use Rattle.validate_visit.specs.Order.{Nesting, nesting, Stays, may_stand, parts_after, is_ordered_from}
use Rattle.validate_visit.specs.declared.op.Op.{Op}
use Rattle.validation_rules.specs.Context.{Context}
use Rattle.validation_rules.specs.Static.{Frame, State, step, state_before}
use Rattle.validation_rules.specs.Operators.{operator, operators}
use Rattle.validate_operators.specs.Runs.{without_offsets}
use Rattle.validate_operators.proofs.Listed.{kinds, IsOrderedBelow, some_open, ordered_next}
use Rattle.opcheck_script.specs.Attempts.{Answer, IsAnswer, AreAnswers, EndsRun, RunEnds, accepted_of, accepted_at}
use Rattle.script_reader.specs.Written.{is_staying, may_be_attempted, may_all_be_attempted}

module _ (cx : Context) (shows : Bool) where
  -- the answers with one more
  pub answered_more : (s : State) (ops : List (Op × ℕ)) (bs : List Bool) (rs : List Answer) (a : Answer) (t u : State) (p : Op × ℕ) (b : Bool) → AreAnswers cx shows s ops bs rs t → slice_get ops (length rs) ≡ Some p → slice_get bs (length rs) ≡ Some b → IsAnswer cx shows p b a t u → AreAnswers cx shows s ops bs (rs ++ a ∷ []) u
  answered_more s [] bs [] a t u p b h g k i = absurd cc
  answered_more s (q ∷ ops) [] [] a t u p b h g k i = absurd cc
  answered_more s (q ∷ ops) (c ∷ bs) [] a t u p b h g k i =
      let same_op : p ≡ q = cc in
      let same_mark : b ≡ c = cc in
      (u, subst (λ x. IsAnswer cx shows q c a x u) (sym h) (subst (λ x. IsAnswer cx shows q x a t u) same_mark (subst (λ x. IsAnswer cx shows x b a t u) same_op i)), refl)
  answered_more s [] bs (x ∷ rs) a t u p b h g k i = absurd h
  answered_more s (q ∷ ops) [] (x ∷ rs) a t u p b h g k i = absurd h
  answered_more s (q ∷ ops) (c ∷ bs) (x ∷ rs) a t u p b h g k i = (h.0, h.1, answered_more h.0 ops bs rs a t u p b h.2 g k i)

  -- the last state is that of the accepted operators alone
  pub accepted_rows : (s : State) (ops : List (Op × ℕ)) (bs : List Bool) (rs : List Answer) (t : State) → AreAnswers cx shows s ops bs rs t → state_before cx (operators cx (without_offsets (accepted_of ops rs))) s (length (accepted_of ops rs)) ≡ Some t
  accepted_rows s [] bs [] t h = ap Some h
  accepted_rows s (p ∷ ops) bs [] t h = ap Some h
  accepted_rows s [] bs (a ∷ rs) t h = absurd h
  accepted_rows s (p ∷ ops) [] (a ∷ rs) t h = absurd h
  accepted_rows s (p ∷ ops) (b ∷ bs) (Ok after ∷ rs) t h =
      ap (λ o. option_and_then (λ x. state_before cx (operators cx (without_offsets (accepted_of ops rs))) x (length (accepted_of ops rs))) o) h.1.0 ∙ accepted_rows h.0 ops bs rs t h.2
  accepted_rows s (p ∷ ops) (b ∷ bs) (Err e ∷ rs) t h =
      subst (λ x. state_before cx (operators cx (without_offsets (accepted_of ops rs))) x (length (accepted_of ops rs)) ≡ Some t) (sym h.1.4) (accepted_rows h.0 ops bs rs t h.2)

  -- the same at a place
  pub next_answered : (s : State) (ops : List (Op × ℕ)) (bs : List Bool) (rs : List Answer) (a : Answer) (t u : State) (i : ℕ) (p : Op × ℕ) (b : Bool) → length rs ≡ i → AreAnswers cx shows s ops bs rs t → slice_get ops i ≡ Some p → slice_get bs i ≡ Some b → IsAnswer cx shows p b a t u → AreAnswers cx shows s ops bs (rs ++ a ∷ []) u
  next_answered s ops bs rs a t u i p b n h g k x = answered_more s ops bs rs a t u p b h (ap (slice_get ops) n ∙ g) (ap (slice_get bs) n ∙ k) x

  -- ---- the order of the rest

  flat_next : (fs : List Frame) (p : Op × ℕ) (ops : List (Op × ℕ)) → nesting p.0 ≡ Stays → IsOrderedBelow fs (p ∷ ops) → IsOrderedBelow fs ops
  flat_next [] p ops e h = absurd (some_open [] p ops h refl)
  flat_next (f ∷ fs) p ops e h = subst (λ n. (may_stand (f.head.kind ∷ (kinds fs)) n && is_ordered_from (parts_after (f.head.kind ∷ (kinds fs)) n) (map nesting (without_offsets ops))) ≡ true) e h

  pub still_ordered : (s t : State) (p : Op × ℕ) (b : Bool) (a : Answer) (ops : List (Op × ℕ)) → IsAnswer cx shows p b a s t → (b ≡ true → nesting p.0 ≡ Stays) → IsOrderedBelow s.frames (p ∷ ops) → IsOrderedBelow t.frames ops
  still_ordered s t p b (Ok after) ops i flat o = ordered_next cx s t p ops i.0 o
  still_ordered s t p b (Err e) ops i flat o = subst (λ (x : State). IsOrderedBelow x.frames ops) i.4 (flat_next s.frames p ops (flat i.0) o)

-- a frame is open before an operator of the list
pub open_at : (fs : List Frame) (ops : List (Op × ℕ)) (i : ℕ) → i < length ops → IsOrderedBelow fs (drop i ops) → fs ≢ []
open_at fs [] i h o = absurd (omega (arith, h))
open_at fs (p ∷ ops) zero h o = some_open fs p ops o
open_at fs (p ∷ ops) (suc i) h o = open_at fs ops i (omega (arith, h)) o

-- ---- those that are accepted

pub none_accepted : (ops : List (Op × ℕ)) → accepted_of ops [] ≡ []
none_accepted [] = refl
none_accepted (p ∷ ops) = refl

behind_first : (q p : Op × ℕ) (a : Answer) (l : List (Op × ℕ)) → q ∷ (accepted_at p a l) ≡ accepted_at p a (q ∷ l)
behind_first q p (Ok after) l = refl
behind_first q p (Err e) l = refl

-- with one more answer
pub accepted_more : (ops : List (Op × ℕ)) (rs : List Answer) (a : Answer) (p : Op × ℕ) → slice_get ops (length rs) ≡ Some p → accepted_of ops (rs ++ a ∷ []) ≡ accepted_at p a (accepted_of ops rs)
accepted_more [] [] a p g = absurd cc
accepted_more [] (x ∷ rs) a p g = absurd cc
accepted_more (q ∷ ops) [] (Ok after) p g =
    let there : q ≡ p = cc in
    ap (λ (l : List (Op × ℕ)). q ∷ l) (none_accepted ops) ∙ ap (λ (x : Op × ℕ). x ∷ []) there
accepted_more (q ∷ ops) [] (Err e) p g = none_accepted ops
accepted_more (q ∷ ops) (Ok after ∷ rs) a p g = ap (λ (l : List (Op × ℕ)). q ∷ l) (accepted_more ops rs a p g) ∙ behind_first q p a (accepted_of ops rs)
accepted_more (q ∷ ops) (Err e ∷ rs) a p g = accepted_more ops rs a p g

-- ---- what follows from an answer

pub ok_gives : {X Y : Type 0} (r : Result X Y) {P Q : X → Type 0} → ((x : X) → P x → Q x) → IfOk r P → IfOk r Q
ok_gives (Ok x) f p = f x p
ok_gives (Err e) f p = tt

pub err_gives : {X Y : Type 0} (r : Result X Y) {P Q : Y → Type 0} → ((y : Y) → P y → Q y) → IfErr r P → IfErr r Q
err_gives (Ok x) f p = tt
err_gives (Err e) f p = f e p

pub when_ok : {X Y P : Type 0} (r : Result X Y) → is_ok r ≡ true → OnOk r P → P
when_ok (Ok x) h p = p
when_ok (Err e) h p = absurd cc

-- ---- what is attempted

flat_is : (n : Nesting) → is_staying n ≡ true → n ≡ Stays
flat_is Stays h = refl
flat_is _ h = absurd cc

-- what is attempted nests nothing
pub attempted_flat : (ops : List (Op × ℕ)) (bs : List Bool) (i : ℕ) (p : Op × ℕ) (b : Bool) → may_all_be_attempted ops bs ≡ true → slice_get ops i ≡ Some p → slice_get bs i ≡ Some b → b ≡ true → nesting p.0 ≡ Stays
attempted_flat [] bs i p b h g k e = absurd cc
attempted_flat (q ∷ ops) [] i p b h g k e = absurd cc
attempted_flat (q ∷ ops) (c ∷ bs) zero p b h g k e =
    let there : q ≡ p = cc in
    let marked : c ≡ true = cc in
    flat_is (nesting p.0) (subst (λ (x : Op × ℕ). may_be_attempted x.0 ≡ true) there (first c (may_be_attempted q.0) (may_all_be_attempted ops bs) marked h))
  where
    first : (a m rest : Bool) → a ≡ true → (not a || m) && rest ≡ true → m ≡ true
    first true true rest e h = refl
    first true false rest e h = absurd cc
    first false m rest e h = absurd cc
attempted_flat (q ∷ ops) (c ∷ bs) (suc i) p b h g k e = attempted_flat ops bs i p b (later (not c || may_be_attempted q.0) (may_all_be_attempted ops bs) h) g k e
  where
    later : (a rest : Bool) → a && rest ≡ true → rest ≡ true
    later true rest h = h
    later false rest h = absurd cc

-- ---- the end

-- the run ends at a place
pub ends_at : (cx : Context) (ops : List (Op × ℕ)) (bs : List Bool) (rs : List Answer) (i : ℕ) (p : Op × ℕ) (b : Bool) (e : ErrorValue) (s : State) → length rs ≡ i → slice_get ops i ≡ Some p → slice_get bs i ≡ Some b → EndsRun cx p b e s → RunEnds cx (record { ops = ops; attempts = bs }) rs s (Err e)
ends_at cx ops bs rs i p b e s n g k x = (p, b, ap (slice_get ops) n ∙ g, ap (slice_get bs) n ∙ k, x)

pub short_of_memory : (cx : Context) (p : Op × ℕ) (b : Bool) (e : ErrorValue) (s : State) → e.offset ≡ p.1 → e.wants_memory ≡ true → EndsRun cx p b e s
short_of_memory cx p b e s o m =
    let never : (X : Type 0) → e.wants_memory ≡ false → X = λ X f. (let clash : true ≡ false = sym m ∙ f in absurd cc) in
    record { at_offset = o; is_plain = never (b ≡ false); row = never (step cx (operator cx p.0) s ≡ None) }
