-- What a status says of an answer.
use Rattle.std.proofs.Common.{◌≡◌, ◌≢◌, ◌≤◌, ℕ, zero, suc, true, false, List, Result, Ok, Err, IfOk, IfErr, OnOk, OnErr, inl, inr, nat_eq, nat_le, eq-eqb, leb-true, ap, ◌∙◌, sym, refl, subst, arith}
use borrow.Author.Tests.{clash}
use Rattle.std.specs.Prelude.{◌⊎◌, MatchResult}
use Rattle.module_check.specs.Verdicts.{status_of, IsConsistent, IsCovered, SaysNo}
use Rattle.module_check.specs.declared.load_refusal.LoadRefusal.{LoadRefusal}
use Rattle.module_check.specs.declared.load_refusal.LoadRefusal.TheVariants.{Judged, TooLarge}
use Rattle.module_check.specs.declared.module_verdict.ModuleVerdict.{ModuleVerdict}
use Rattle.module_check.specs.declared.verdict.Verdict.{Verdict}
use Rattle.module_check.specs.declared.verdict.Verdict.TheVariants.{Accepted, Refused, Malformed, NotCovered, OutOfMemory}
use Rattle.validate_types.specs.declared.error.Error.{Error}
use Rattle.wasmparser_validate.specs.Functions.{Fails}
use Rattle.c_api.specs.FunctionCalls.{OpAnswer}
use Rattle.c_api.specs.Functions.{InProgress, Takes, CannotTake, IsUncoveredOperator}
use Rattle.c_api.specs.declared.on_refusal.OnRefusal.{OnRefusal}
use Rattle.c_api.specs.declared.on_refusal.OnRefusal.TheVariants.{Fail, LeaveNoTrace}

-- a number isn't two at once, and is at most what its own is
pub apart : {a b s : ℕ} → s ≡ a → s ≡ b → nat_eq a b ≡ false → ⊥
apart {a} {b} p q other = clash (sym other ∙ eq-eqb a b (sym p ∙ q))

at_most : {a s : ℕ} (most : ℕ) → s ≡ a → nat_le a most ≡ true → s ≤ most
at_most {a} most is few = subst (λ n. n ≤ most) (sym is) (leb-true a most few)

other : {a b : ℕ} → nat_eq a b ≡ false → a ≢ b
other unlike same = apart refl same unlike

-- a mark can't say both
pub not_both : true ≡ false → ⊥
not_both e = absurd cc

-- the status of a verdict that isn't acceptance, and of one at all
not_accepted : (v : Verdict) → v ≢ Accepted → status_of v ≡ 0 → ⊥
not_accepted Accepted h z = h refl
not_accepted (Refused e) h z = apart z refl refl
not_accepted (Malformed e) h z = apart z refl refl
not_accepted (NotCovered at) h z = apart z refl refl
not_accepted OutOfMemory h z = apart z refl refl

-- that of one that isn't of what isn't covered
pub covered : (v : Verdict) → IsCovered v → status_of v ≡ 4 → ⊥
covered (NotCovered at) h z = h at refl
covered Accepted h z = apart z refl refl
covered (Refused e) h z = apart z refl refl
covered (Malformed e) h z = apart z refl refl
covered OutOfMemory h z = apart z refl refl

at_most_four : (v : Verdict) → status_of v ≤ 4
at_most_four Accepted = at_most 4 refl refl
at_most_four (Refused e) = at_most 4 refl refl
at_most_four (Malformed e) = at_most 4 refl refl
at_most_four (NotCovered at) = at_most 4 refl refl
at_most_four OutOfMemory = at_most 4 refl refl

pub not_zero : (s : ℕ) → s ≡ 0 → (s ≡ 1) ⊎ (s ≡ 2) → ⊥
not_zero s z d = elim d [ inl a ↦ apart z a refl | inr b ↦ apart z b refl ]

pub not_three : (s : ℕ) → s ≡ 3 → (s ≡ 1) ⊎ (s ≡ 2) → ⊥
not_three s z d = elim d [ inl a ↦ apart z a refl | inr b ↦ apart z b refl ]

not_other : (s n : ℕ) → s ≡ n → n ≢ 1 → n ≢ 2 → n ≢ 3 → (s ≡ 1) ⊎ ((s ≡ 2) ⊎ (s ≡ 3)) → ⊥
not_other s n z a b c d = elim d [ inl e ↦ a (sym z ∙ e) | inr d ↦ elim d [ inl e ↦ b (sym z ∙ e) | inr e ↦ c (sym z ∙ e) ] ]

-- what was noted at first doesn't tell of something before
pub not_before : (s : ℕ) → s ≡ 0 → s ≡ 4 → ⊥
not_before s z four = apart z four refl

pub few_before : (s : ℕ) → s ≡ 0 → s ≤ 4
few_before s z = at_most 4 z refl

pub four_says_no : (s : ℕ) → s ≡ 4 → SaysNo s
four_says_no s four = (λ zero. apart zero four refl, λ three. apart three four refl)

pub not_one_before : (s : ℕ) → s ≡ 0 → s ≡ 1 → ⊥
not_one_before s z one = apart z one refl

pub not_two_before : (s : ℕ) → s ≡ 0 → s ≡ 2 → ⊥
not_two_before s z two = apart z two refl

-- what was kept, or found no memory, doesn't tell of a refusal
pub kept_not_one : (s : ℕ) → (s ≡ 0) ⊎ (s ≡ 3) → s ≡ 1 → ⊥
kept_not_one s k one = elim k [ inl a ↦ apart a one refl | inr b ↦ apart b one refl ]

pub kept_not_two : (s : ℕ) → (s ≡ 0) ⊎ (s ≡ 3) → s ≡ 2 → ⊥
kept_not_two s k two = elim k [ inl a ↦ apart a two refl | inr b ↦ apart b two refl ]

pub kept_not_four : (s : ℕ) → (s ≡ 0) ⊎ (s ≡ 3) → s ≡ 4 → ⊥
kept_not_four s k four = elim k [ inl a ↦ apart a four refl | inr b ↦ apart b four refl ]

pub kept_not_seven : (s : ℕ) → (s ≡ 0) ⊎ (s ≡ 3) → s ≡ 7 → ⊥
kept_not_seven s k seven = elim k [ inl a ↦ apart a seven refl | inr b ↦ apart b seven refl ]

pub no_more_than_four : (s t : ℕ) → s ≡ 0 → (s ≤ 4 → t ≤ 4) → t ≤ 4
no_more_than_four s t z known = known (few_before s z)

pub no_more_than_five : (s t : ℕ) → s ≡ 0 → (s ≤ 4 → t ≤ 4) → t ≤ 5
no_more_than_five s t z known = omega (arith, no_more_than_four s t z known)

pub not_five : (s t : ℕ) → s ≡ 0 → (s ≤ 4 → t ≤ 4) → t ≡ 5 → ⊥
not_five s t z known five = omega (arith, no_more_than_four s t z known, five)

-- what is reported of a missing body tells of nothing else
pub five_not_zero : (s : ℕ) → s ≡ 5 → s ≡ 0 → ⊥
five_not_zero s five z = apart five z refl

pub five_not_one : (s : ℕ) → s ≡ 5 → s ≡ 1 → ⊥
five_not_one s five one = apart five one refl

pub five_not_two : (s : ℕ) → s ≡ 5 → s ≡ 2 → ⊥
five_not_two s five two = apart five two refl

pub five_not_four : (s : ℕ) → s ≡ 5 → s ≡ 4 → ⊥
five_not_four s five four = apart five four refl

pub five_known : (s : ℕ) → s ≡ 5 → s ≤ 5
five_known s five = at_most 5 five refl

-- the status is that of the answer, with which goes how many bytes were taken
abbrev pub Tells : Result ℕ Verdict → ℕ → ℕ → ℕ → Type 0
Tells r s n k = MatchResult r (λ count. (s ≡ 0) × (n ≡ count)) (λ v. (s ≡ status_of v) × (n ≡ k))

refused : (r : Result ℕ Verdict) (s n k : ℕ) (P : Type 0) → Tells r s n k → IfErr r (λ v. v ≢ OutOfMemory → P) → (s ≡ 1) ⊎ (s ≡ 2) → P
refused (Ok c) s n k P t h d = absurd (not_zero s t.0 d)
refused (Err v) s n k P t h d = h (λ e. not_three s (t.0 ∙ ap status_of e) d)

failed : (r : Result ℕ Verdict) (s n k : ℕ) (P : Type 0) → Tells r s n k → IfErr r (λ v. ((at : ℕ) → v ≢ NotCovered at) → P) → (s ≡ 1) ⊎ ((s ≡ 2) ⊎ (s ≡ 3)) → P
failed (Ok c) s n k P t h d = absurd (not_other s 0 t.0 (other refl) (other refl) (other refl) d)
failed (Err v) s n k P t h d = h (λ at e. not_other s 4 (t.0 ∙ ap status_of e) (other refl) (other refl) (other refl) d)

uncovered : (r : Result ℕ Verdict) (s n k : ℕ) (P : Type 0) → Tells r s n k → IfErr r (λ v. (at : ℕ) → v ≡ NotCovered at → P) → s ≡ 4 → P
uncovered (Ok c) s n k P t h d = absurd (apart t.0 d refl)
uncovered (Err (NotCovered at)) s n k P t h d = h at refl
uncovered (Err Accepted) s n k P t h d = absurd (apart t.0 d refl)
uncovered (Err (Refused e)) s n k P t h d = absurd (apart t.0 d refl)
uncovered (Err (Malformed e)) s n k P t h d = absurd (apart t.0 d refl)
uncovered (Err OutOfMemory) s n k P t h d = absurd (apart t.0 d refl)

back : (r : Result ℕ Verdict) (s n k : ℕ) (P : Type 0) → Tells r s n k → OnErr r P → s ≢ 0 → P
back (Ok c) s n k P t h d = absurd (d t.0)
back (Err v) s n k P t h d = h

none_taken : (r : Result ℕ Verdict) (s n k : ℕ) → Tells r s n k → s ≢ 0 → n ≡ k
none_taken (Ok c) s n k t d = absurd (d t.0)
none_taken (Err v) s n k t d = t.1

accepted : (r : Result ℕ Verdict) (s n k : ℕ) (P : ℕ → Type 0) → Tells r s n k → IfOk r P → IfErr r (λ v. v ≢ Accepted) → s ≡ 0 → P n
accepted (Ok c) s n k P t p h z = subst P (sym t.1) p
accepted (Err v) s n k P t p h z = absurd (not_accepted v h (sym t.0 ∙ z))

known : (r : Result ℕ Verdict) (s n k : ℕ) → Tells r s n k → s ≤ 4
known (Ok c) s n k t = at_most 4 t.0 refl
known (Err v) s n k t = subst (λ n. n ≤ 4) (sym t.0) (at_most_four v)

module _ (on_refusal : OnRefusal) (bytes : List ℕ) (offset n s : ℕ) (f g : InProgress) where
  -- an operator that is taken
  pub took : s ≡ 0 → Takes bytes offset n f g → OpAnswer on_refusal bytes offset n s f g
  took z t = record {
    accepted = λ _. t;
    refused = λ d. absurd (not_zero s z d);
    failed = λ _ d. absurd (not_other s 0 z (other refl) (other refl) (other refl) d);
    uncovered = λ d. absurd (apart z d refl);
    unchanged = λ d. absurd (apart z d refl);
    back = λ _ d. absurd (d z);
    none_taken = λ d. absurd (d z);
    known = at_most 4 z refl;
  }

  module _ (r : Result ℕ Verdict) (t : Tells r s n 0) (taken : IfOk r (λ count. Takes bytes offset count f g)) (refuses : IfErr r (λ v. v ≢ Accepted)) (cannot : IfErr r (λ v. v ≢ OutOfMemory → CannotTake bytes f)) where
    -- what a call of `op` answers
    pub op_answer : (on_refusal ≡ Fail → IfErr r (λ v. ((at : ℕ) → v ≢ NotCovered at) → Fails f g)) → IfErr r (λ v. (at : ℕ) → v ≡ NotCovered at → IsUncoveredOperator bytes f) → IfErr r (λ v. (at : ℕ) → v ≡ NotCovered at → g ≡ f) → (on_refusal ≡ LeaveNoTrace → OnErr r (g ≡ f)) → OpAnswer on_refusal bytes offset n s f g
    op_answer fails vector same takes_back = record {
      accepted = accepted r s n 0 (λ count. Takes bytes offset count f g) t taken refuses;
      refused = refused r s n 0 (CannotTake bytes f) t cannot;
      failed = λ is. failed r s n 0 (Fails f g) t (fails is);
      uncovered = uncovered r s n 0 (IsUncoveredOperator bytes f) t vector;
      unchanged = uncovered r s n 0 (g ≡ f) t same;
      back = λ is. back r s n 0 (g ≡ f) t (takes_back is);
      none_taken = none_taken r s n 0 t;
      known = known r s n 0 t;
    }

-- the same where none was taken before
module _ (on_refusal : OnRefusal) (bytes : List ℕ) (offset n s k : ℕ) (f g : InProgress) (none : k ≡ 0) (r : Result ℕ Verdict) (t : Tells r s n k) where
  pub op_answered : IfOk r (λ count. Takes bytes offset count f g) → IfErr r (λ v. v ≢ Accepted) → IfErr r (λ v. v ≢ OutOfMemory → CannotTake bytes f) → (on_refusal ≡ Fail → IfErr r (λ v. ((at : ℕ) → v ≢ NotCovered at) → Fails f g)) → IfErr r (λ v. (at : ℕ) → v ≡ NotCovered at → IsUncoveredOperator bytes f) → IfErr r (λ v. (at : ℕ) → v ≡ NotCovered at → g ≡ f) → (on_refusal ≡ LeaveNoTrace → OnErr r (g ≡ f)) → OpAnswer on_refusal bytes offset n s f g
  op_answered taken refuses cannot fails vector same takes_back =
      op_answer on_refusal bytes offset n s f g r (subst (Tells r s n) none t) taken refuses cannot fails vector same takes_back

-- the same without bytes
pub done : (r : Result (Unit {0}) Verdict) (s : ℕ) (P : Type 0) → MatchResult r (λ _. s ≡ 0) (λ v. s ≡ status_of v) → OnOk r P → IfErr r (λ v. v ≢ Accepted) → s ≡ 0 → P
done (Ok x) s P t p h z = p
done (Err v) s P t p h z = absurd (not_accepted v h (sym t ∙ z))

pub undone : (r : Result (Unit {0}) Verdict) (s : ℕ) (P : Type 0) → MatchResult r (λ _. s ≡ 0) (λ v. s ≡ status_of v) → OnErr r P → s ≢ 0 → P
undone (Ok x) s P t h d = absurd (d t)
undone (Err v) s P t h d = h

other_load : (w v : LoadRefusal) → v ≡ Judged OutOfMemory → v ≡ w → w ≢ Judged OutOfMemory → ⊥
other_load w v is same other = other (sym same ∙ is)

-- a refusal for want of memory has its status
pub wanting : (s : ℕ) (v : LoadRefusal) → v ≡ Judged OutOfMemory → s ≢ 0 → (s ≡ 1 → (e : Error) × (v ≡ Judged (Refused e))) → (s ≡ 2 → (e : Error) × (v ≡ Judged (Malformed e))) → (s ≡ 4 → (offset : ℕ) × (v ≡ Judged (NotCovered offset))) → (s ≡ 7 → (e : Error) × (v ≡ TooLarge e)) → (s ≤ 4) ⊎ (s ≡ 7) → s ≡ 3
wanting s v is some invalid malformed uncovered large (inr seven) = absurd (other_load (TooLarge (large seven).0) v is (large seven).1 (λ e. cc))
wanting zero v is some invalid malformed uncovered large (inl few) = absurd (some refl)
wanting (suc zero) v is some invalid malformed uncovered large (inl few) = absurd (other_load (Judged (Refused (invalid refl).0)) v is (invalid refl).1 (λ e. cc))
wanting (suc (suc zero)) v is some invalid malformed uncovered large (inl few) = absurd (other_load (Judged (Malformed (malformed refl).0)) v is (malformed refl).1 (λ e. cc))
wanting (suc (suc (suc zero))) v is some invalid malformed uncovered large (inl few) = refl
wanting (suc (suc (suc (suc n)))) v is some invalid malformed uncovered large (inl few) =
    let four : suc (suc (suc (suc n))) ≡ 4 = omega (arith, few) in
    absurd (other_load (Judged (NotCovered (uncovered four).0)) v is (uncovered four).1 (λ e. cc))

-- want of memory is told consistently
pub out_of_memory_told : (room : ℕ) (v : ModuleVerdict) → v.status ≡ 3 → v.text_length ≤ room → IsConsistent room v
out_of_memory_told room v three fits = record {
  accepted = λ zero. absurd (apart zero three refl);
  refused = λ one. absurd (apart one three refl);
  malformed = λ two. absurd (apart two three refl);
  not_covered = λ four. absurd (apart four three refl);
  text_fits = fits;
}

-- what holds, holds where there is a refusal
pub on_refusal : {A E : Type 0} → (r : Result A E) (P : Type 0) → P → OnErr r P
on_refusal (Ok x) P p = tt
on_refusal (Err e) P p = p
