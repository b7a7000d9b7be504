-- The marks that are kept, where the first so many locals have none.
use Rattle.std.proofs.Common.{◌≡◌, ℕ, zero, suc, ◌<◌, ◌≤◌, ◌+◌, ◌-◌, List, [], ◌∷◌, ◌++◌, Bool, true, false, Some, length, replicate, slice_get, slice_set, slice_index_or, nat_eq, not, ◌||◌, refl, sym, ◌∙◌, ap, arith, append_assoc, append-nil, length-append}
use Rattle.std.specs.List.{list_any}
use Rattle.std.proofs.lemmas.List.{length-replicate, replicate-append-replicate}
use Rattle.validate_locals.specs.Inits.{marks_without, all_marks, AreFrom, IsMarkedFrom}
use Rattle.validate_locals.proofs.Marks.{marked_more, marked_less, declared_more, base_is, renewed, length-cleared, last_within, unset_at}

-- ---- one mark

pub length-all_marks : (n : ℕ) (ms : List Bool) → length (all_marks n ms) ≡ n + length ms
length-all_marks n ms = let r = length-replicate n true in omega (arith, length-append (replicate n true) ms, r)

pub length-set_at_entry : (n : ℕ) (is : List ℕ) (ms : List Bool) → length (marks_without is (all_marks n ms)) ≡ n + length ms
length-set_at_entry n is ms = length-cleared is (all_marks n ms) ∙ length-all_marks n ms

pub get-below : (n i : ℕ) (ms : List Bool) → i < n → slice_get (all_marks n ms) i ≡ Some true
get-below zero i ms h = absurd (omega (arith, h))
get-below (suc n) zero ms h = refl
get-below (suc n) (suc i) ms h = get-below n i ms (omega (arith, h))

pub get-above : (n i : ℕ) (ms : List Bool) → n ≤ i → slice_get (all_marks n ms) i ≡ slice_get ms (i - n)
get-above zero i ms h = ap (slice_get ms) (sym (omega arith))
get-above (suc n) zero ms h = absurd (omega (arith, h))
get-above (suc n) (suc i) ms h = get-above n i ms (omega (arith, h)) ∙ ap (slice_get ms) (omega arith)

set-above : (n i : ℕ) (ms : List Bool) (v : Bool) → n ≤ i → slice_set (all_marks n ms) i v ≡ all_marks n (slice_set ms (i - n) v)
set-above zero i ms v h = ap (λ j. slice_set ms j v) (sym (omega arith))
set-above (suc n) zero ms v h = absurd (omega (arith, h))
set-above (suc n) (suc i) ms v h = ap (λ r. true ∷ r) (set-above n i ms v (omega (arith, h)) ∙ ap (λ j. all_marks n (slice_set ms j v)) (omega arith))

get-within : (s : List Bool) (i : ℕ) (v : Bool) → slice_get s i ≡ Some v → i < length s
get-within [] i v h = cc
get-within (x ∷ s) zero v h = omega arith
get-within (x ∷ s) (suc i) v h = let k = get-within s i v h in omega (arith, k)

-- a local that isn't set has a mark
pub has_mark : (n i : ℕ) (ms : List Bool) → slice_get (all_marks n ms) i ≡ Some false → n ≤ i
has_mark zero i ms h = omega arith
has_mark (suc n) zero ms h = cc
has_mark (suc n) (suc i) ms h = let k = has_mark n i ms h in omega (arith, k)

not_true : (x : Bool) → true ≡ not x → x ≡ false
not_true true h = absurd cc
not_true false h = refl

-- the mark of a declared local that isn't set
pub unset_mark : (n : ℕ) (order : List ℕ) (marks : List Bool) (i : ℕ) → IsMarkedFrom n order marks → i < length (marks_without order (all_marks n marks)) → true ≡ not (list_any (nat_eq i) order || slice_index_or (marks_without order (all_marks n marks)) i false) → slice_get (all_marks n marks) i ≡ Some false
unset_mark n order marks i m h e =
    let b = marks_without order (all_marks n marks) in
    unset_at b order (all_marks n marks) i m.marked (omega (arith, h, length-cleared order (all_marks n marks))) (not_true _ e)

-- ---- the order

from-append : (n : ℕ) (is : List ℕ) (i : ℕ) → AreFrom n is → n ≤ i → AreFrom n (is ++ i ∷ [])
from-append n [] i f h = (h, tt)
from-append n (j ∷ is) i f h = (f.0, from-append n is i f.1 h)

from_front : (n : ℕ) (is : List ℕ) (i : ℕ) → AreFrom n (is ++ i ∷ []) → AreFrom n is × (n ≤ i)
from_front n [] i f = (tt, f.0)
from_front n (j ∷ is) i f = let r = from_front n is i f.1 in ((f.0, r.0), r.1)

-- ---- the marks after a change, which stand for these declarations

pub record Stands (n : ℕ) (order : List ℕ) (marks : List Bool) (declared : List Bool) : Type 0 where
  pub all : IsMarkedFrom n order marks
  pub set_at_entry : marks_without order (all_marks n marks) ≡ declared

pub more_set : (n : ℕ) (order : List ℕ) (marks : List Bool) (i : ℕ) → slice_get (all_marks n marks) i ≡ Some false → IsMarkedFrom n order marks → Stands n (order ++ i ∷ []) (slice_set marks (i - n) true) (marks_without order (all_marks n marks))
more_set n order marks i h m =
    let above = has_mark n i marks h in
    let b = marks_without order (all_marks n marks) in
    let more = rw (set-above n i marks true above) at (marked_more b order (all_marks n marks) i h m.marked) in
    record {
      all = record { marked = renewed b _ _ more; from = from-append n order i m.from above };
      set_at_entry = base_is b _ _ more;
    }

pub less_set : (n : ℕ) (order : List ℕ) (marks : List Bool) (i : ℕ) → IsMarkedFrom n (order ++ i ∷ []) marks → Stands n order (slice_set marks (i - n) false) (marks_without (order ++ i ∷ []) (all_marks n marks))
less_set n order marks i m =
    let from = from_front n order i m.from in
    let b = marks_without (order ++ i ∷ []) (all_marks n marks) in
    let less = rw (set-above n i marks false from.1) at (marked_less b order (all_marks n marks) i m.marked) in
    record {
      all = record { marked = renewed b _ _ less; from = from.0 };
      set_at_entry = base_is b _ _ less;
    }

-- the mark of the local that was set last
pub last_mark : (n : ℕ) (order : List ℕ) (marks : List Bool) (i : ℕ) → IsMarkedFrom n (order ++ i ∷ []) marks → (n ≤ i) × (i - n < length marks)
last_mark n order marks i m =
    let from = from_front n order i m.from in
    let k = last_within _ order (all_marks n marks) i m.marked in
    (from.1, omega (arith, k, length-all_marks n marks, from.1))

pub more_declared : (n : ℕ) (order : List ℕ) (marks more : List Bool) → IsMarkedFrom n order marks → Stands n order (marks ++ more) (marks_without order (all_marks n marks) ++ more)
more_declared n order marks more m =
    let b = marks_without order (all_marks n marks) in
    let wider = rw append_assoc at (declared_more b more order (all_marks n marks) m.marked) in
    record {
      all = record { marked = renewed _ _ _ wider; from = m.from };
      set_at_entry = base_is _ _ _ wider;
    }

-- where no local has a mark, none was set since
pub more_unmarked : (n k : ℕ) (order : List ℕ) (marks : List Bool) → length marks ≡ 0 → IsMarkedFrom n order marks → Stands (n + k) order marks (marks_without order (all_marks n marks) ++ replicate k true)
more_unmarked n k order (x ∷ ms) e m = absurd (omega (arith, e))
more_unmarked n k [] [] e m = record {
  all = record { marked = record { fresh = tt; all = refl }; from = tt };
  set_at_entry = append-nil (replicate (n + k) true) ∙ sym (replicate-append-replicate n k true) ∙ ap (λ r. r ++ replicate k true) (sym (append-nil (replicate n true)));
}
more_unmarked n k (i ∷ is) [] e m =
    let w = get-within (marks_without (i ∷ is) (all_marks n [])) i false m.marked.fresh.0 in
    absurd (omega (arith, w, length-set_at_entry n (i ∷ is) [], m.from.0))
