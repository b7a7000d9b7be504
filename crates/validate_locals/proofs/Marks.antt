-- One list of marks stands for the declarations and the order.
use Rattle.std.proofs.Common.{◌≡◌, ℕ, zero, suc, ◌<◌, List, [], ◌∷◌, ◌++◌, Bool, true, false, Some, ◌||◌, nat_eq, length, slice_get, slice_index_or, slice_set, refl, sym, ◌∙◌, ap, arith, ◌+◌, take, drop, subst, append_assoc}
use Rattle.std.specs.List.{list_any}
use Rattle.std.proofs.lemmas.Grind.{common_steps}
use Rattle.std.proofs.lemmas.List.{length-set, take-append-drop, drop_more}
use Rattle.validate_locals.specs.Inits.{marks_without, marks_with, AreFresh, IsMarked}

-- ---- one more in the order, or one less

fresh-append : (b : List Bool) (is : List ℕ) (i : ℕ) → AreFresh b is → slice_get (marks_with is b) i ≡ Some false → AreFresh b (is ++ i ∷ [])
fresh-append b [] i f h = (h, tt)
fresh-append b (j ∷ is) i f h = (f.0, fresh-append (slice_set b j true) is i f.1 h)

fresh_front : (b : List Bool) (is : List ℕ) (i : ℕ) → AreFresh b (is ++ i ∷ []) → AreFresh b is × (slice_get (marks_with is b) i ≡ Some false)
fresh_front b [] i f = (tt, f.0)
fresh_front b (j ∷ is) i f = let r = fresh_front (slice_set b j true) is i f.1 in ((f.0, r.0), r.1)

marked-append : (b : List Bool) (is : List ℕ) (i : ℕ) → marks_with (is ++ i ∷ []) b ≡ slice_set (marks_with is b) i true
marked-append b [] i = refl
marked-append b (j ∷ is) i = marked-append (slice_set b j true) is i

set_back : (b : List Bool) (i : ℕ) → slice_get b i ≡ Some false → slice_set (slice_set b i true) i false ≡ b
set_back [] i h = cc
set_back (x ∷ b) zero h = let e : false ≡ x = cc in ap (λ y. y ∷ b) e
set_back (x ∷ b) (suc i) h = ap (λ r. x ∷ r) (set_back b i h)

pub marked_more : (b : List Bool) (order : List ℕ) (set : List Bool) (i : ℕ) → slice_get set i ≡ Some false → IsMarked b order set → IsMarked b (order ++ i ∷ []) (slice_set set i true)
marked_more b order set i h m = record {
  fresh = fresh-append b order i m.fresh (rw m.all h);
  all = marked-append b order i ∙ ap (λ s. slice_set s i true) m.all;
}

pub marked_less : (b : List Bool) (order : List ℕ) (set : List Bool) (i : ℕ) → IsMarked b (order ++ i ∷ []) set → IsMarked b order (slice_set set i false)
marked_less b order set i m =
    let front = fresh_front b order i m.fresh in
    record {
      fresh = front.0;
      all = sym (set_back (marks_with order b) i front.1) ∙ ap (λ s. slice_set s i false) (sym (marked-append b order i) ∙ m.all);
    }

-- ---- what clearing gives

cleared-marked : (b : List Bool) (is : List ℕ) → AreFresh b is → marks_without is (marks_with is b) ≡ b
cleared-marked b [] f = refl
cleared-marked b (i ∷ is) f = ap (λ s. slice_set s i false) (cleared-marked (slice_set b i true) is f.1) ∙ set_back b i f.0

-- it gives the marks at the declaration
pub base_is : (b : List Bool) (order : List ℕ) (set : List Bool) → IsMarked b order set → marks_without order set ≡ b
base_is b order set m = rw (← m.all) (cleared-marked b order m.fresh)

pub renewed : (b : List Bool) (order : List ℕ) (set : List Bool) → IsMarked b order set → IsMarked (marks_without order set) order set
renewed b order set m = rw (base_is b order set m) m

pub length-cleared : (is : List ℕ) (s : List Bool) → length (marks_without is s) ≡ length s
length-cleared [] s = refl
length-cleared (i ∷ is) s = length-set (marks_without is s) i false ∙ length-cleared is s

-- ---- more declarations

get-append : (b more : List Bool) (i : ℕ) → slice_get b i ≡ Some false → slice_get (b ++ more) i ≡ Some false
get-append [] more i h = cc
get-append (x ∷ b) more zero h = h
get-append (x ∷ b) more (suc i) h = get-append b more i h

set-append : (b more : List Bool) (i : ℕ) → slice_get b i ≡ Some false → slice_set (b ++ more) i true ≡ slice_set b i true ++ more
set-append [] more i h = cc
set-append (x ∷ b) more zero h = refl
set-append (x ∷ b) more (suc i) h = ap (λ r. x ∷ r) (set-append b more i h)

marked_wider : (b more : List Bool) (is : List ℕ) → AreFresh b is → IsMarked (b ++ more) is (marks_with is b ++ more)
marked_wider b more [] f = record { fresh = tt; all = refl }
marked_wider b more (i ∷ is) f =
    let rest = marked_wider (slice_set b i true) more is f.1 in
    record {
      fresh = (get-append b more i f.0, rw (set-append b more i f.0) rest.fresh);
      all = rw (set-append b more i f.0) rest.all;
    }

pub declared_more : (b more : List Bool) (order : List ℕ) (set : List Bool) → IsMarked b order set → IsMarked (b ++ more) order (set ++ more)
declared_more b more order set m = rw (← m.all) (marked_wider b more order m.fresh)

-- ---- what a mark says

get_set : (b : List Bool) (j i : ℕ) → slice_get b j ≡ Some false → slice_index_or (slice_set b j true) i false ≡ (nat_eq i j || slice_index_or b i false)
get_set [] j i h = cc
get_set (x ∷ b) zero zero h = refl
get_set (x ∷ b) zero (suc i) h = grind (arith, common_steps)
get_set (x ∷ b) (suc j) zero h = grind (arith, common_steps)
get_set (x ∷ b) (suc j) (suc i) h = let k = get_set b j i h in grind (arith, common_steps, k)

or_swap : (a c d : Bool) → (a || (c || d)) ≡ ((c || a) || d)
or_swap true true d = refl
or_swap true false d = refl
or_swap false true d = refl
or_swap false false d = refl

-- a local is set exactly where it has a mark
set-marked : (b : List Bool) (is : List ℕ) (i : ℕ) → AreFresh b is → slice_index_or (marks_with is b) i false ≡ (list_any (nat_eq i) is || slice_index_or b i false)
set-marked b [] i f = refl
set-marked b (j ∷ is) i f =
    set-marked (slice_set b j true) is i f.1
    ∙ (ap (λ r. list_any (nat_eq i) is || r) (get_set b j i f.0) ∙ or_swap (list_any (nat_eq i) is) (nat_eq i j) (slice_index_or b i false))

index_at : (s : List Bool) (i : ℕ) (v : Bool) → slice_get s i ≡ Some v → slice_index_or s i false ≡ v
index_at [] i v h = cc
index_at (x ∷ s) zero v h = cc
index_at (x ∷ s) (suc i) v h = index_at s i v h

pub read_at : (s : List Bool) (i : ℕ) (r : Bool) → i < length s → r ≡ slice_index_or s i r → slice_get s i ≡ Some r
read_at [] i r h e = absurd (omega (arith, h))
read_at (x ∷ s) zero r h e = ap Some (sym e)
read_at (x ∷ s) (suc i) r h e = read_at s i r (omega (arith, h)) e

-- a mark that was read says whether the local is set
pub mark_is : (b : List Bool) (order : List ℕ) (set : List Bool) (i : ℕ) (r : Bool) → IsMarked b order set → slice_get set i ≡ Some r → (list_any (nat_eq i) order || slice_index_or b i false) ≡ r
mark_is b order set i r m h = sym (set-marked b order i m.fresh) ∙ index_at (marks_with order b) i r (rw m.all h)

-- a local that isn't set has a mark that says so
pub unset_at : (b : List Bool) (order : List ℕ) (set : List Bool) (i : ℕ) → IsMarked b order set → i < length set → (list_any (nat_eq i) order || slice_index_or b i false) ≡ false → slice_get set i ≡ Some false
unset_at b order set i m h e = read_at set i false h (sym (ap (λ s. slice_index_or s i false) (sym m.all) ∙ set-marked b order i m.fresh ∙ e))

-- ---- indexes

within : (b : List Bool) (i : ℕ) → slice_get b i ≡ Some false → i < length b
within [] i h = cc
within (x ∷ b) zero h = omega arith
within (x ∷ b) (suc i) h = let k = within b i h in omega (arith, k)

length-marked : (is : List ℕ) (b : List Bool) → length (marks_with is b) ≡ length b
length-marked [] b = refl
length-marked (i ∷ is) b = length-marked is (slice_set b i true) ∙ length-set b i true

-- the local that was set last has a mark
pub last_within : (b : List Bool) (order : List ℕ) (set : List Bool) (i : ℕ) → IsMarked b (order ++ i ∷ []) set → i < length set
last_within b order set i m =
    let front = fresh_front b order i m.fresh in
    let k = within (marks_with order b) i front.1 in
    let all = ap length m.all in
    omega (arith, k, length-marked order b, length-marked (order ++ i ∷ []) b, all)

-- ---- setting again

fresh_prefix : (b : List Bool) (xs ys : List ℕ) → AreFresh b (xs ++ ys) → AreFresh b xs
fresh_prefix b [] ys f = tt
fresh_prefix b (x ∷ xs) ys f = (f.0, fresh_prefix (slice_set b x true) xs ys f.1)

-- the next of a fresh list is unset, and declared
fresh_next : (b : List Bool) (xs ys : List ℕ) (i : ℕ) → AreFresh b (xs ++ (i ∷ ys)) → ((list_any (nat_eq i) xs || slice_index_or b i false) ≡ false) × (i < length b)
fresh_next b xs ys i f =
    let front = fresh_front b xs i (fresh_prefix b (xs ++ i ∷ []) ys (rw (← append_assoc xs (i ∷ []) ys) at f)) in
    let unset = mark_is b xs (marks_with xs b) i false (record { fresh = front.0; all = refl }) front.1 in
    let k = within (marks_with xs b) i front.1 in
    (unset, omega (arith, k, length-marked xs b))

-- the next that is set again is unset
pub put_next : (b : List Bool) (order reset : List ℕ) (k : ℕ) → k < length reset → AreFresh b (order ++ reset) → ((list_any (nat_eq (slice_index_or reset k 0)) (order ++ take k reset) || slice_index_or b (slice_index_or reset k 0) false) ≡ false) × (slice_index_or reset k 0 < length b)
put_next b order reset k h f =
    let parts : reset ≡ take k reset ++ (slice_index_or reset k 0 ∷ drop (k + 1) reset) = sym (take-append-drop k reset) ∙ ap (λ r. take k reset ++ r) (drop_more reset k 0 h) in
    let whole : order ++ reset ≡ (order ++ take k reset) ++ (slice_index_or reset k 0 ∷ drop (k + 1) reset) = ap (λ r. order ++ r) parts ∙ sym (append_assoc order (take k reset) (slice_index_or reset k 0 ∷ drop (k + 1) reset)) in
    fresh_next b (order ++ take k reset) (drop (k + 1) reset) (slice_index_or reset k 0) (subst (AreFresh b) whole f)
