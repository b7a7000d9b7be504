-- A function in progress that takes no operator.
use Rattle.std.proofs.Common.{◌≡◌, ◌≢◌, ℕ, Bool, true, false, List, [], length, Some, Result, Ok, Err, OnOk, OnErr, IfErr, inl, inr, refl, sym, ap, ◌∙◌, subst}
use Rattle.std.specs.Prelude.{◌⊎◌}
use Rattle.module_check.proofs.Begun.{some_same}
use Rattle.module_check.specs.Refusals.{IsVector}
use Rattle.module_check.specs.Verdicts.{status_of}
use Rattle.module_check.specs.declared.verdict.CheckError.{CheckError}
use Rattle.module_check.specs.declared.verdict.CheckError.TheVariants.{Unread, Refused as Refusal}
use Rattle.module_check.specs.declared.verdict.Verdict.{Verdict}
use Rattle.module_check.specs.declared.verdict.Verdict.TheVariants.{Accepted, Refused, Malformed, NotCovered, OutOfMemory}
use Rattle.validate_operators.specs.Runs.{body_before}
use Rattle.validate_operators.specs.Start.{DefinesLocals}
use Rattle.wasmparser_validate.specs.Functions.{state_from, function_state, Fails, IsSound}
use Rattle.validate_resources.specs.Context.{ModuleContext}
use Rattle.validate_stacks.specs.Pops.{IsKept}
use Rattle.validate_stacks.specs.State.{BodyState, IsStarting, IsValidBody}
use Rattle.validate_stacks.specs.Steps.{frame_at}
use Rattle.validate_types.specs.ErrorValue.{ErrorValue}
use Rattle.validate_types.specs.declared.types.ValType.{ValType}
use Rattle.validate_visit.specs.declared.frame.Frame.{Frame as FlatFrame}
use Rattle.validate_visit.specs.declared.op.Op.{Op}
use Rattle.validation_rules.specs.Static.{start}
use Rattle.c_api.specs.VisitsMade.{IsUnread}
use Rattle.c_api.specs.declared.on_refusal.OnRefusal.{OnRefusal}
use Rattle.c_api.specs.declared.on_refusal.OnRefusal.TheVariants.{Fail, LeaveNoTrace}
use Rattle.c_api.specs.declared.shared.SharedModule.{SharedModule}
use Rattle.c_api.proofs.Answered.{apart}

-- a verdict isn't that of what isn't covered, or it is
covered_or_not : (verdict : Verdict) → ((at : ℕ) → verdict ≢ NotCovered at) ⊎ ((at : ℕ) × (verdict ≡ NotCovered at))
covered_or_not (NotCovered at) = inr (at, refl)
covered_or_not Accepted = inl (λ at e. apart (ap status_of e) refl refl)
covered_or_not (Refused x) = inl (λ at e. apart (ap status_of e) refl refl)
covered_or_not (Malformed x) = inl (λ at e. apart (ap status_of e) refl refl)
covered_or_not OutOfMemory = inl (λ at e. apart (ap status_of e) refl refl)

-- where a vector operator stands, none is read
pub vector_unread : (e : CheckError) → IsVector e → IsUnread e
vector_unread (Unread e) vector = tt
vector_unread (Refusal e) vector = vector

-- what is told of a refusal is told whether a frame is open or not, and what holds is told of each
pub whether_open : {A E : Type 0} → (r : Result A E) (P : E → Type 0) (Q R : Type 0) → IfErr r (λ e. P e → R) → IfErr r (λ e. P e → Q → R)
whether_open (Ok x) P Q R told = tt
whether_open (Err e) P Q R told = λ p _. told p

pub where_open : {A E : Type 0} → (r : Result A E) (P : E → Type 0) (Q : Type 0) → Q → IfErr r (λ e. P e → Q)
where_open (Ok x) P Q q = tt
where_open (Err e) P Q q = λ _. q

module _ (md : ModuleContext) (first : FlatFrame) (v w : BodyState) (ops more : List (Op × ℕ)) (b c : Bool) (s : IsSound md first v ops b) where
  -- it is sound as one that has failed
  sound_failed : IsKept v w → IsValidBody md w → more ≡ ops → c ≡ true → IsSound md first w more c
  sound_failed kept valid same is = let same_start : state_from first w ≡ state_from first v = ap (state_from first) kept in record {
    idle = ap (λ (x : BodyState). x.undone) kept ∙ s.idle;
    valid = valid;
    first_frame = subst (λ (x : BodyState). frame_at x 0 ≡ Some first) (sym same_start) s.first_frame;
    starts = subst (IsStarting md) (sym same_start) s.starts;
    run = λ z. let clash : true ≡ false = sym is ∙ z in absurd (not_both clash);
  }
    where
      not_both : true ≡ false → ⊥
      not_both e = absurd cc

  -- it is sound, whatever its mark, where nothing is changed
  pub sound_unchanged : b ≡ false → w ≡ v → more ≡ ops → IsSound md first w more c
  sound_unchanged none_failed same_state same_list =
      let marked : IsSound md first v ops c = record {
        idle = s.idle;
        valid = s.valid;
        first_frame = s.first_frame;
        starts = s.starts;
        run = λ _. s.run none_failed;
      } in
      subst (λ (x : BodyState). IsSound md first x more c) (sym same_state)
      (subst (λ (l : List (Op × ℕ)). IsSound md first v l c) (sym same_list) marked)

  -- and where an operator is refused
  pub sound_refused : (on_refusal : OnRefusal) → b ≡ false → IsKept v w → IsValidBody md w → more ≡ ops → (on_refusal ≡ Fail → c ≡ true) → (on_refusal ≡ LeaveNoTrace → w ≡ v) → IsSound md first w more c
  sound_refused Fail none_failed kept valid same fails back = sound_failed kept valid same (fails refl)
  sound_refused LeaveNoTrace none_failed kept valid same fails back = sound_unchanged none_failed (back refl) same

  -- or where that is told by a verdict: what isn't covered changes nothing
  pub sound_told : (verdict : Verdict) (on_refusal : OnRefusal) → b ≡ false → IsKept v w → IsValidBody md w → more ≡ ops → (on_refusal ≡ Fail → ((at : ℕ) → verdict ≢ NotCovered at) → c ≡ true) → ((at : ℕ) → verdict ≡ NotCovered at → w ≡ v) → (on_refusal ≡ LeaveNoTrace → w ≡ v) → IsSound md first w more c
  sound_told verdict on_refusal none_failed kept valid same fails uncovered back =
      elim (covered_or_not verdict) [
        | inl covered ↦ sound_refused on_refusal none_failed kept valid same (λ is. fails is covered) back
        | inr vector ↦ sound_unchanged none_failed (uncovered vector.0 vector.1) same
      ]

  -- before any operator it is where it started
  at_start : ops ≡ [] → b ≡ false → v.present ≡ start first.block_type
  at_start e z =
      sym (some_same (start first.block_type) v.present (subst (λ (l : List (Op × ℕ)). body_before md (state_from first v) l (length l) ≡ Some v.present) e (s.run z)))

  pub starting : ops ≡ [] → b ≡ false → IsStarting md v
  starting e z =
      let p = at_start e z in
      let back : state_from first v ≡ v = λ i. record v { present = sym p i; undone = sym s.idle i } in
      subst (IsStarting md) back s.starts

  -- and sound with more locals
  pub sound_defined : ops ≡ [] → b ≡ false → IsStarting md w → w.present ≡ v.present → IsSound md first w ops b
  sound_defined e z starts same =
      let p : w.present ≡ start first.block_type = same ∙ at_start e z in
      let back : state_from first w ≡ w = λ i. record w { present = sym p i; undone = sym starts.none_pending i } in
      record {
        idle = starts.none_pending;
        valid = starts.is_valid;
        first_frame = s.first_frame;
        starts = subst (IsStarting md) (sym back) starts;
        run = λ _. subst (λ (l : List (Op × ℕ)). body_before md (state_from first w) l (length l) ≡ Some w.present) (sym e) (ap Some (sym p));
      }

-- contracts see that it has failed, or that nothing is changed
module _ (r : SharedModule) (first : FlatFrame) (v w : BodyState) (ops more : List (Op × ℕ)) (b c : Bool) (same : more ≡ ops) where
  pub fails : IsKept v w → c ≡ true → Fails (function_state r first v ops b) (function_state r first w more c)
  fails kept is = λ i. record {
    resources = r;
    starting = state_from first (kept i);
    accepted = same i;
    present = w.present;
    failed = is i;
  }

  pub unchanged : w ≡ v → c ≡ b → function_state r first w more c ≡ function_state r first v ops b
  unchanged same_state same_mark = λ i. function_state r first (same_state i) (same i) (same_mark i)

-- locals leave what is open
pub same_present : (md : ModuleContext) (count : ℕ) (ty : ValType) (v w : BodyState) (r : Result (Unit {0}) ErrorValue) → OnOk r (DefinesLocals md count ty v w) → OnErr r (w ≡ v) → w.present ≡ v.present
same_present md count ty v w (Ok x) d e = ap (λ (x : BodyState). x.present) d.defines
same_present md count ty v w (Err x) d e = ap (λ (x : BodyState). x.present) e
