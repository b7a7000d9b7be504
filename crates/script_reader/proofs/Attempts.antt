-- One more operator, or another in the place of one, which may be attempted if it is.
use Rattle.std.proofs.Common.{◌≡◌, ℕ, Bool, true, false, ◌&&◌, ◌||◌, not, List, [], ◌∷◌, ◌++◌, zero, suc, length, slice_set, refl, ap, sym, subst, ◌∙◌}
use Rattle.validate_visit.specs.declared.op.Op.{Op}
use Rattle.script_reader.specs.Written.{may_be_attempted, may_all_be_attempted}

one_may : (p : Op × ℕ) (b : Bool) → (b ≡ true → may_be_attempted p.0 ≡ true) → (not b || may_be_attempted p.0) && true ≡ true
one_may p true may = ap (λ m. (false || m) && true) (may refl)
one_may p false may = refl

pub attempts_more : (ops : List (Op × ℕ)) (attempts : List Bool) (p : Op × ℕ) (b : Bool) → length attempts ≡ length ops → may_all_be_attempted ops attempts ≡ true → (b ≡ true → may_be_attempted p.0 ≡ true) → may_all_be_attempted (ops ++ p ∷ []) (attempts ++ b ∷ []) ≡ true
attempts_more [] [] p b n h may = one_may p b may
attempts_more [] (c ∷ attempts) p b n h may = absurd cc
attempts_more (q ∷ ops) [] p b n h may = absurd cc
attempts_more (q ∷ ops) (c ∷ attempts) p b n h may =
    let same : length attempts ≡ length ops = cc in
    at (not c || may_be_attempted q.0) (λ rest. attempts_more ops attempts p b same rest may) h
  where
    at : (first : Bool) → (may_all_be_attempted ops attempts ≡ true → may_all_be_attempted (ops ++ p ∷ []) (attempts ++ b ∷ []) ≡ true) → first && may_all_be_attempted ops attempts ≡ true → first && may_all_be_attempted (ops ++ p ∷ []) (attempts ++ b ∷ []) ≡ true
    at true more rest = more rest
    at false more never = absurd cc

-- the lists after the operator and its mark were put behind them
pub attempts_pushed : (ops with_room after : List (Op × ℕ)) (attempts marks_with_room marks_after : List Bool) (p : Op × ℕ) (b : Bool) → with_room ≡ ops → after ≡ with_room ++ p ∷ [] → marks_with_room ≡ attempts → marks_after ≡ marks_with_room ++ b ∷ [] → length attempts ≡ length ops → may_all_be_attempted ops attempts ≡ true → (b ≡ true → may_be_attempted p.0 ≡ true) → may_all_be_attempted after marks_after ≡ true
attempts_pushed ops with_room after attempts marks_with_room marks_after p b e pushed e' marked n h may =
    subst (λ l. may_all_be_attempted l marks_after ≡ true) (sym (pushed ∙ ap (λ (l : List (Op × ℕ)). l ++ p ∷ []) e))
    (subst (λ l. may_all_be_attempted (ops ++ p ∷ []) l ≡ true) (sym (marked ∙ ap (λ (l : List Bool). l ++ b ∷ []) e'))
    (attempts_more ops attempts p b n h may))

-- another operator in the place of one, which may be attempted if it is
pub attempts_set : (ops : List (Op × ℕ)) (attempts : List Bool) (place : ℕ) (p : Op × ℕ) (b : Bool) → may_all_be_attempted ops attempts ≡ true → (b ≡ true → may_be_attempted p.0 ≡ true) → may_all_be_attempted (slice_set ops place p) (slice_set attempts place b) ≡ true
attempts_set [] attempts place p b may h = refl
attempts_set (q ∷ ops) [] zero p b may h = refl
attempts_set (q ∷ ops) [] (suc place) p b may h = refl
attempts_set (q ∷ ops) (c ∷ attempts) zero p b may h = both b h (last (not c || may_be_attempted q.0) may)
  where
    last : (first : Bool) → first && may_all_be_attempted ops attempts ≡ true → may_all_be_attempted ops attempts ≡ true
    last true rest = rest
    last false never = absurd cc

    both : (b : Bool) → (b ≡ true → may_be_attempted p.0 ≡ true) → may_all_be_attempted ops attempts ≡ true → (not b || may_be_attempted p.0) && may_all_be_attempted ops attempts ≡ true
    both true one rest = ap (λ m. (false || m) && may_all_be_attempted ops attempts) (one refl) ∙ rest
    both false one rest = rest
attempts_set (q ∷ ops) (c ∷ attempts) (suc place) p b may h =
    at (not c || may_be_attempted q.0) (λ rest. attempts_set ops attempts place p b rest h) may
  where
    at : (first : Bool) → (may_all_be_attempted ops attempts ≡ true → may_all_be_attempted (slice_set ops place p) (slice_set attempts place b) ≡ true) → first && may_all_be_attempted ops attempts ≡ true → first && may_all_be_attempted (slice_set ops place p) (slice_set attempts place b) ≡ true
    at true more rest = more rest
    at false more never = absurd cc
