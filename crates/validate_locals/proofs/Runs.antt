-- Lists of locals in parts: more at the end, and the type at an index.
use Rattle.std.proofs.Common.{◌≡◌, ℕ, zero, suc, ◌<◌, ◌≤◌, ◌+◌, ◌-◌, List, [], ◌∷◌, ◌++◌, Option, None, Some, length, replicate, slice_get, get_or, refl, sym, ◌∙◌, ap, ap₂, subst, arith, take, inl, inr, append_assoc, append-nil, length-append}
use Rattle.std.specs.Option.{option_map, option_to_list}
use Rattle.std.proofs.Math.Seq.{take-append_seam}
use Rattle.std.proofs.lemmas.Bool.{cases_lt}
use Rattle.std.proofs.lemmas.List.{length-replicate, replicate-append-replicate, get_or_default, take_all}
use Rattle.validate_types.specs.declared.types.ValType.{ValType}
use Rattle.validate_locals.specs.Limit.{max_locals}
use Rattle.validate_locals.specs.Runs.{max_first, run_types, local_types, end_of, AreRuns, AreLongerRuns, AreLocals, EndBelow}

abbrev pub Run : Type 0
Run = ℕ × ValType

-- ---- more runs

end-cons : (n : ℕ) (r : Run) (rs : List Run) → n ≤ r.0 → end_of n (r ∷ rs) ≡ end_of (r.0 + 1) rs
end-cons n r rs h =
    let l = length-append (replicate (r.0 + 1 - n) r.1) (run_types (r.0 + 1) rs) in
    let k = length-replicate (r.0 + 1 - n) r.1 in
    omega (arith, l, k)

types-append : (n : ℕ) (rs more : List Run) → AreRuns n rs → run_types n (rs ++ more) ≡ run_types n rs ++ run_types (end_of n rs) more
types-append n [] more h = ap (λ m. run_types m more) (omega arith)
types-append n (r ∷ rs) more h =
    ap (λ ts. replicate (r.0 + 1 - n) r.1 ++ ts) (types-append (r.0 + 1) rs more h.1)
    ∙ sym (append_assoc (replicate (r.0 + 1 - n) r.1) (run_types (r.0 + 1) rs) (run_types (end_of (r.0 + 1) rs) more))
    ∙ ap (λ m. run_types n (r ∷ rs) ++ run_types m more) (sym (end-cons n r rs h.0))

runs-append : (n : ℕ) (rs more : List Run) → AreRuns n rs → AreRuns (end_of n rs) more → AreRuns n (rs ++ more)
runs-append n [] more h k = let e : n + 0 ≡ n = omega arith in subst (λ m. AreRuns m more) e k
runs-append n (r ∷ rs) more h k = (h.0, runs-append (r.0 + 1) rs more h.1 (subst (λ m. AreRuns m more) (end-cons n r rs h.0) k))

runs-front : (n : ℕ) (rs : List Run) (r : Run) → AreRuns n (rs ++ r ∷ []) → AreRuns n rs × (end_of n rs ≤ r.0)
runs-front n [] r h = (tt, omega (arith, h.0))
runs-front n (q ∷ rs) r h = let k = runs-front (q.0 + 1) rs r h.1 in ((h.0, k.0), omega (arith, k.1, end-cons n q rs h.0))

-- ---- one run more

-- one run, of so many locals
pub one_run : (n k last : ℕ) (t : ValType) → n + k ≡ last + 1 → run_types n ((last, t) ∷ []) ≡ replicate k t
one_run n k last t h =
    let e : last + 1 - n ≡ k = omega (arith, h) in
    append-nil (replicate (last + 1 - n) t) ∙ ap (λ m. replicate m t) e

end-append : (n : ℕ) (rs : List Run) (r : Run) → AreRuns n (rs ++ r ∷ []) → end_of n (rs ++ r ∷ []) ≡ r.0 + 1
end-append n [] r h =
    let l = length-append (replicate (r.0 + 1 - n) r.1) [] in
    omega (arith, l, length-replicate (r.0 + 1 - n) r.1, h.0)
end-append n (q ∷ rs) r h = end-cons n q (rs ++ r ∷ []) h.0 ∙ end-append (q.0 + 1) rs r h.1

-- a run of its own
pub longer_pushed : (n k last : ℕ) (rs : List Run) (t : ValType) → AreRuns n rs → 0 < k → end_of n rs + k ≡ last + 1 → AreLongerRuns n rs (rs ++ (last, t) ∷ []) (replicate k t)
longer_pushed n k last rs t h within_limit e = record {
  rising = runs-append n rs ((last, t) ∷ []) h (omega (arith, within_limit, e), tt);
  types = types-append n rs ((last, t) ∷ []) h ∙ ap (λ ts. run_types n rs ++ ts) (one_run (end_of n rs) k last t e);
}

-- the last run reaches further
longer_joined : (n k last m : ℕ) (rs : List Run) (t : ValType) → AreRuns n (rs ++ (m, t) ∷ []) → 0 < k → end_of n (rs ++ (m, t) ∷ []) + k ≡ last + 1 → AreLongerRuns n (rs ++ (m, t) ∷ []) (rs ++ (last, t) ∷ []) (replicate k t)
longer_joined n k last m rs t h within_limit e =
    let front = runs-front n rs (m, t) h in
    let from = end_of n rs in
    let ended = end-append n rs (m, t) h in
    let all : from + (m + 1 - from + k) ≡ last + 1 = omega (arith, front.1, ended, e) in
    let longer = longer_pushed n (m + 1 - from + k) last rs t front.0 (omega (arith, within_limit)) all in
    let was = types-append n rs ((m, t) ∷ []) front.0 ∙ ap (λ ts. run_types n rs ++ ts) (one_run from (m + 1 - from) m t (omega (arith, front.1))) in
    record {
      rising = longer.rising;
      types = longer.types ∙ ap (λ ts. run_types n rs ++ ts) (sym (replicate-append-replicate (m + 1 - from) k t)) ∙ sym (append_assoc (run_types n rs) (replicate (m + 1 - from) t) (replicate k t)) ∙ ap (λ ts. ts ++ replicate k t) (sym was);
    }

last-run : (rs : List Run) (r : Run) → slice_get (rs ++ r ∷ []) (length rs) ≡ Some r
last-run [] r = refl
last-run (q ∷ rs) r = last-run rs r

-- the run that is taken has the type that the last run has
type_of_last : (rs : List Run) (r : Run) (t : ValType) → option_map (λ (run : Run). run.1) (slice_get (rs ++ r ∷ []) (length (rs ++ r ∷ []) - 1)) ≡ Some t → r.1 ≡ t
type_of_last rs r t h =
    let l : length rs ≡ length (rs ++ r ∷ []) - 1 = omega (arith, length-append rs (r ∷ [])) in
    let e : Some r.1 ≡ Some t = sym (ap (option_map (λ (run : Run). run.1)) (last-run rs r)) ∙ ap (λ i. option_map (λ (run : Run). run.1) (slice_get (rs ++ r ∷ []) i)) l ∙ h in
    cc

-- the last run, if there is one, is taken and added again
pub longer_again : (n k last : ℕ) (rs front : List Run) (taken : Option Run) (t : ValType) → rs ≡ front ++ option_to_list taken → option_map (λ (run : Run). run.1) (slice_get rs (length rs - 1)) ≡ Some t → AreRuns n rs → 0 < k → end_of n rs + k ≡ last + 1 → AreLongerRuns n rs (front ++ (last, t) ∷ []) (replicate k t)
longer_again n k last rs front None t e h rising within_limit to =
    let same : front ≡ rs = sym (e ∙ append-nil front) in
    rw same (longer_pushed n k last rs t rising within_limit to)
longer_again n k last rs front (Some r) t e h rising within_limit to =
    let ty = type_of_last front r t (rw e at h) in
    let same : rs ≡ front ++ (r.0, t) ∷ [] = e ∙ ap (λ u. front ++ (r.0, u) ∷ []) ty in
    rw same (longer_joined n k last r.0 front t (rw same at rising) within_limit (rw same at to))

-- ---- more and more runs

pub longer_none : (n : ℕ) (rs : List Run) → AreRuns n rs → AreLongerRuns n rs rs []
longer_none n rs h = record { rising = h; types = sym (append-nil (run_types n rs)) }

pub longer_more : (n : ℕ) (a b c : List Run) (ts us : List ValType) → AreLongerRuns n a b ts → AreLongerRuns n b c us → AreLongerRuns n a c (ts ++ us)
longer_more n a b c ts us h k = record {
  rising = k.rising;
  types = k.types ∙ ap (λ vs. vs ++ us) h.types ∙ append_assoc (run_types n a) ts us;
}

-- ---- more locals: some plainly, and some in runs

pub record Grown (first : List ValType) (runs : List Run) (count : ℕ) (first' : List ValType) (runs' : List Run) (more : List ValType) : Type 0 where
  pub locals : AreLocals first' runs' (count + length more)
  pub types : local_types first' runs' ≡ local_types first runs ++ more

pub run-end : (first : List ValType) (rs : List Run) (count : ℕ) → AreLocals first rs count → end_of (length first) rs ≡ count
run-end first rs count was = omega (arith, was.counted, length-append first (run_types (length first) rs))

-- no runs, where there is room among the first
near-grown : (first near : List ValType) (count : ℕ) → AreLocals first [] count → length first + length near ≤ max_first → count + length near ≤ max_locals → Grown first [] count (first ++ near) [] near
near-grown first near count was room within =
    let types = append-nil (first ++ near) ∙ ap (λ f. f ++ near) (sym (append-nil first)) in
    let l = length-append first near in
    record {
      locals = record {
        rising = tt;
        counted = omega (arith, was.counted, ap length types, length-append (local_types first []) near);
        within_limit = omega (arith, l, room);
        full = λ _. refl;
        within = within;
      };
      types = types;
    }

-- locals that are held plainly
pub grown-near : (first : List ValType) (rs : List Run) (count : ℕ) (near : List ValType) → AreLocals first rs count → length first + length near ≤ max_first → count + length near ≤ max_locals → Grown first rs count (first ++ near) rs near
grown-near first rs count [] was room within =
    let all : count ≡ count + 0 = omega arith in
    rw (append-nil first) record { locals = subst (λ n. AreLocals first rs n) all was; types = sym (append-nil (local_types first rs)) }
grown-near first rs count (t ∷ ts) was room within =
    let none = was.full (omega (arith, room)) in
    rw none (near-grown first (t ∷ ts) count (rw none at was) room within)

pub empty_list : (ts : List ValType) → length ts ≡ 0 → ts ≡ []
empty_list [] e = refl
empty_list (t ∷ ts) e = absurd (omega (arith, e))

no-runs : (n : ℕ) (rs : List Run) → AreRuns n rs → run_types n rs ≡ [] → rs ≡ []
no-runs n [] h e = refl
no-runs n (r ∷ rs) h e =
    let l = length-append (replicate (r.0 + 1 - n) r.1) (run_types (r.0 + 1) rs) in
    absurd (omega (arith, l, length-replicate (r.0 + 1 - n) r.1, ap length e, h.0))

-- locals in runs
pub grown-far : (first : List ValType) (rs rs' : List Run) (count : ℕ) (far : List ValType) → AreLocals first rs count → (length first < max_first → far ≡ []) → AreLongerRuns (length first) rs rs' far → count + length far ≤ max_locals → Grown first rs count first rs' far
grown-far first rs rs' count far was order longer within =
    let types = ap (λ ts. first ++ ts) longer.types ∙ sym (append_assoc first (run_types (length first) rs) far) in
    record {
      locals = record {
        rising = longer.rising;
        counted = omega (arith, was.counted, ap length types, length-append (local_types first rs) far);
        within_limit = was.within_limit;
        full = λ h. no-runs (length first) rs' longer.rising (longer.types ∙ ap₂ (λ qs ts. run_types (length first) qs ++ ts) (was.full h) (order h));
        within = within;
      };
      types = types;
    }

grown-on : (first first' first'' : List ValType) (rs rs' rs'' : List Run) (count : ℕ) (near far : List ValType) → Grown first rs count first' rs' near → Grown first' rs' (count + length near) first'' rs'' far → Grown first rs count first'' rs'' (near ++ far)
grown-on first first' first'' rs rs' rs'' count near far g h =
    let all : count + length near + length far ≡ count + length (near ++ far) = omega (arith, length-append near far) in
    record {
      locals = subst (λ n. AreLocals first'' rs'' n) all h.locals;
      types = h.types ∙ ap (λ ts. ts ++ far) g.types ∙ append_assoc (local_types first rs) near far;
    }

-- the first are as many as they can be
pub full_first : (first : List ValType) (rs : List Run) (count : ℕ) → AreLocals first rs count → max_first ≤ count → length first ≡ max_first
full_first first rs count was h = elim (cases_lt (length first) max_first) [
  | inl l ↦
      let none = was.full l in
      let e = rw none at (run-end first rs count was) in
      absurd (omega (arith, h, l, e))
  | inr l ↦ omega (arith, was.within_limit, l)
]

-- all of them are, where there are fewer
pub near_count : (first : List ValType) (rs : List Run) (count : ℕ) → AreLocals first rs count → count < max_first → length first ≡ count
near_count first rs count was h =
    let some = run-end first rs count was in
    let none = was.full (omega (arith, h, some)) in
    omega (arith, rw none at some)

-- both, and only where the first are as many as they can be are there runs
pub grown : (first : List ValType) (rs rs' : List Run) (count : ℕ) (near far : List ValType) → AreLocals first rs count → length first + length near ≤ max_first → (length first + length near < max_first → far ≡ []) → (AreRuns (length (first ++ near)) rs → end_of (length (first ++ near)) rs ≡ count + length near → AreLongerRuns (length (first ++ near)) rs rs' far) → count + length near + length far ≤ max_locals → Grown first rs count (first ++ near) rs' (near ++ far)
grown first rs rs' count near far was room order longer within =
    let plainly = grown-near first rs count near was room (omega (arith, within)) in
    let l = length-append first near in
    let runs = longer plainly.locals.rising (run-end (first ++ near) rs (count + length near) plainly.locals) in
    grown-on first (first ++ near) (first ++ near) rs rs rs' count near far plainly (grown-far (first ++ near) rs rs' (count + length near) far plainly.locals (λ h. order (omega (arith, h, l))) runs within)

pub as_locals : (first first' : List ValType) (rs rs' : List Run) (count count' : ℕ) → first' ≡ first → rs' ≡ rs → count' ≡ count → AreLocals first rs count → AreLocals first' rs' count'
as_locals first first' rs rs' count count' e f g was = rw (e, f, g) was

-- ---- the type at an index

ends_above : (n : ℕ) (rs : List Run) → AreRuns n rs → (j : ℕ) (d : Run) → j < length rs → n ≤ (get_or rs j d).0
ends_above n [] h j d k = absurd (omega (arith, k))
ends_above n (r ∷ rs) h zero d k = h.0
ends_above n (r ∷ rs) h (suc j) d k = let m = ends_above (r.0 + 1) rs h.1 j d (omega (arith, k)) in omega (arith, m, h.0)

-- the runs rise
rising-ends : (n : ℕ) (rs : List Run) → AreRuns n rs → (i j : ℕ) (d : Run) → i ≤ j → j < length rs → (get_or rs i d).0 ≤ (get_or rs j d).0
rising-ends n [] h i j d le k = absurd (omega (arith, k))
rising-ends n (r ∷ rs) h zero zero d le k = omega arith
rising-ends n (r ∷ rs) h zero (suc j) d le k = let m = ends_above (r.0 + 1) rs h.1 j d (omega (arith, k)) in omega (arith, m)
rising-ends n (r ∷ rs) h (suc i) zero d le k = absurd (omega (arith, le))
rising-ends n (r ∷ rs) h (suc i) (suc j) d le k = rising-ends (r.0 + 1) rs h.1 i j d (omega (arith, le)) (omega (arith, k))

get-under : (xs ys : List ValType) (i : ℕ) → i < length xs → slice_get (xs ++ ys) i ≡ slice_get xs i
get-under [] ys i h = absurd (omega (arith, h))
get-under (x ∷ xs) ys zero h = refl
get-under (x ∷ xs) ys (suc i) h = get-under xs ys i (omega (arith, h))

get-past : (xs ys : List ValType) (i : ℕ) → length xs ≤ i → slice_get (xs ++ ys) i ≡ slice_get ys (i - length xs)
get-past [] ys i h = ap (slice_get ys) (sym (omega arith))
get-past (x ∷ xs) ys zero h = absurd (omega (arith, h))
get-past (x ∷ xs) ys (suc i) h = get-past xs ys i (omega (arith, h)) ∙ ap (slice_get ys) (omega arith)

get-replicate : (n i : ℕ) (t : ValType) → i < n → slice_get (replicate n t) i ≡ Some t
get-replicate zero i t h = absurd (omega (arith, h))
get-replicate (suc n) zero t h = refl
get-replicate (suc n) (suc i) t h = get-replicate n i t (omega (arith, h))

-- the runs before it end below the index, and it doesn't
type-at : (rs : List Run) (k i n : ℕ) → AreRuns n rs → n ≤ i → ((j : ℕ) (d : Run) → j < k → (get_or rs j d).0 < i) → ((j : ℕ) (d : Run) → k ≤ j → j < length rs → i ≤ (get_or rs j d).0) → option_map (λ (r : Run). r.1) (slice_get rs k) ≡ slice_get (run_types n rs) (i - n)
type-at [] k i n rising h below above = refl
type-at (r ∷ rs) zero i n rising h below above =
    let last : i ≤ r.0 = above 0 r (omega arith) (omega arith) in
    let len = length-replicate (r.0 + 1 - n) r.1 in
    sym (get-under (replicate (r.0 + 1 - n) r.1) (run_types (r.0 + 1) rs) (i - n) (omega (arith, len, last, h)) ∙ get-replicate (r.0 + 1 - n) (i - n) r.1 (omega (arith, last, h)))
type-at (r ∷ rs) (suc k) i n rising h below above =
    let last : r.0 < i = below 0 r (omega arith) in
    let len = length-replicate (r.0 + 1 - n) r.1 in
    let e : i - (r.0 + 1) ≡ i - n - length (replicate (r.0 + 1 - n) r.1) = omega (arith, len, last, h, rising.0) in
    type-at rs k i (r.0 + 1) rising.1 (omega (arith, last)) (λ j d l. below (suc j) d (omega (arith, l))) (λ j d l m. above (suc j) d (omega (arith, l)) (omega (arith, m)))
    ∙ ap (slice_get (run_types (r.0 + 1) rs)) e
    ∙ sym (get-past (replicate (r.0 + 1 - n) r.1) (run_types (r.0 + 1) rs) (i - n) (omega (arith, len, last, h)))

-- where those before a place end below the index of a local, there is a run at that place
pub place_within : (n : ℕ) (rs : List Run) (index place : ℕ) → AreRuns n rs → n ≤ index → index < end_of n rs → EndBelow rs place index → place < length rs
place_within n [] index place rising begun within below = absurd (omega (arith, begun, within))
place_within n (r ∷ rs) index zero rising begun within below = omega arith
place_within n (r ∷ rs) index (suc k) rising begun within below =
    let ended : r.0 < index = below 0 r (omega arith) in
    let rest = place_within (r.0 + 1) rs index k rising.1 (omega (arith, ended)) (omega (arith, within, end-cons n r rs rising.0)) (λ j d l. below (suc j) d (omega (arith, l))) in
    omega (arith, rest)

-- where a run ends below the index, those before it do too
pub ends_before : (n : ℕ) (runs : List Run) (index place : ℕ) (d : Run) → AreRuns n runs → place < length runs → (get_or runs place d).0 < index → EndBelow runs (place + 1) index
ends_before n runs index place d rising within h j e l =
    let same : get_or runs place e ≡ get_or runs place d = get_or_default runs place e d within in
    let le = rising-ends n runs rising j place e (omega (arith, l)) within in
    omega (arith, le, h, ap (λ (r : Run). r.0) same)

-- where the runs before a place end below the index, and the one there doesn't, its type is that at the index
pub type_found : (n : ℕ) (runs : List Run) (index place : ℕ) (d : Run) → AreRuns n runs → n ≤ index → EndBelow runs place index → (place < length runs → index ≤ (get_or runs place d).0) → option_map (λ (r : Run). r.1) (slice_get runs place) ≡ slice_get (run_types n runs) (index - n)
type_found n runs index place d rising h before reached =
    type-at runs place index n rising h before (λ j e l within.
    let here = reached (omega (arith, l, within)) in
    let same : get_or runs place e ≡ get_or runs place d = get_or_default runs place e d (omega (arith, l, within)) in
    let le = rising-ends n runs rising place j e l within in
    omega (arith, le, here, ap (λ (r : Run). r.0) same))

pub get-first : (first : List ValType) (rs : List Run) (i : ℕ) → i < length first → slice_get first i ≡ slice_get (local_types first rs) i
get-first first rs i h = sym (get-under first (run_types (length first) rs) i h)

pub get-further : (first : List ValType) (rs : List Run) (i : ℕ) → length first ≤ i → slice_get (run_types (length first) rs) (i - length first) ≡ slice_get (local_types first rs) i
get-further first rs i h = sym (get-past first (run_types (length first) rs) i h)

-- the first of all locals are those that are held plainly
pub first_types : (first : List ValType) (rs : List Run) (count : ℕ) → AreLocals first rs count → take max_first (local_types first rs) ≡ first
first_types first rs count was = elim (cases_lt (length first) max_first) [
  | inl h ↦
      let none = was.full h in
      rw none (ap (take max_first) (append-nil first) ∙ take_all max_first first (omega (arith, h)))
  | inr h ↦
      let all : max_first ≡ length first = omega (arith, was.within_limit, h) in
      ap (λ n. take n (local_types first rs)) all ∙ take-append_seam first (run_types (length first) rs)
]
