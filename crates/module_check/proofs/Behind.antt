-- One more operator of the bytes of a body: before it they are accepted exactly if those behind it are.
use Rattle.std.proofs.Common.{◌≡◌, ◌≢◌, ◌⊎◌, inl, inr, ℕ, ◌-◌, Bool, true, false, List, [], ◌∷◌, length, Option, Some, None, IfSome, IsSome, get_or, Result, Ok, Err, IfErr, is_none, ◌||◌, refl, sym, ap, ◌∙◌, subst, arith}
use Rattle.std.specs.Prelude.{OnErr}
use Rattle.std.proofs.lemmas.Bool.{and_from, and_parts}
use Rattle.std.specs.Option.{option_and_then, option_map}
use Rattle.binary_operators.specs.Expressions.{AreOperators}
use Rattle.binary_operators.specs.Forms.{forms}
use Rattle.binary_operators.specs.Instructions.{operator as read_as}
use Rattle.binary_operators.specs.Unplaced.{unplaced}
use Rattle.binary_operators.specs.Vectors.{BeginVector}
use Rattle.binary_operators.specs.declared.error.Cause.{Cause}
use Rattle.binary_operators.specs.declared.error.Cause.TheVariants.{Malformed, VectorOperator, OutOfMemory}
use Rattle.binary_operators.specs.declared.types.CanonicalTypes.{CanonicalTypes}
use Rattle.validate_resources.specs.Context.{ModuleContext, IsLawful}
use Rattle.validate_visit.specs.declared.op.Op.{Op}
use Rattle.validation_rules.specs.Context.{Context}
use Rattle.validation_rules.specs.Operators.{operator, operators}
use Rattle.validation_rules.specs.Static.{Frame, State, start, step, step_in, state_before, IsAccepted, frame_count}
use Rattle.validation_rules.proofs.Steps.{and_then_given}
use Rattle.validate_visit.specs.declared.frame.BlockType.{BlockType}
use Rattle.validate_stacks.specs.Attempts.{Stacked, is_quiet}
use Rattle.validate_stacks.specs.Pops.{IsKept}
use Rattle.validate_stacks.specs.State.{BodyState, body_context, IsStarting, IsValidBody}
use Rattle.validate_stacks.specs.Visits.{step_body, MayVisit, Meets}
use Rattle.validation_rules.specs.Static.{RowFails}
use Rattle.validate_stacks.proofs.Validity.{kept_on}
use Rattle.validate_operators.specs.Runs.{without_offsets, body_before, IsAcceptedBody}
use Rattle.validate_operators.proofs.Listed.{visited, visit_valid, visit_kept, no_frames, safe_accepted}
use Rattle.module_check.specs.Accepted.{AreAcceptedOperators}
use Rattle.module_check.specs.Constant.{each_may_stand}
use Rattle.module_check.specs.Faults.{IsUnreadable, IsInvalidThere, IsFault, ReachFault}
use Rattle.module_check.specs.Refusals.{IsInvalid, IsRefusal, IsRefusedFor, IsVector, error_offset}
use Rattle.module_check.specs.declared.verdict.CheckError.{CheckError}
use Rattle.module_check.specs.declared.verdict.CheckError.TheVariants.{Unread, Refused}
use Rattle.module_check.specs.Safe.{AreSafeOperators}
use Rattle.module_check.specs.Uncovered.{ReachVector}
use Rattle.module_check.proofs.Begun.{both_same, some_same, none_or_some}
use Rattle.module_check.proofs.Unplaced.{same_operator}

-- the step of an operator over what is open in a state
abbrev step_over : ModuleContext → Op → BodyState → Option State
step_over md op v = step (body_context md v) (operator (body_context md v) op) v.present

reads_none : (types : CanonicalTypes) → read_as types [] ≡ None
unfolding read_as
reads_none types = refl

no_step : (md : ModuleContext) (op : Op) (v : BodyState) → v.present.frames ≡ [] → step_over md op v ≡ None
no_step md op v e = ap (λ fs. step_in (body_context md v) (operator (body_context md v) op) fs v.present.left) e

not_both : (b : Bool) → b ≡ true → b ≡ false → ⊥
not_both b is other = absurd cc

-- what an operator comes to in a state doesn't ask for the present one
fault_of_kept : (md : ModuleContext) (types : CanonicalTypes) (may : Op → Bool) (end : ℕ) (v w : BodyState) (s : State) (bytes : List ℕ) (e : CheckError) → IsKept v w → IsFault (body_context md w) types may end s bytes e → IsFault (body_context md v) types may end s bytes e
fault_of_kept md types may end v w s bytes e kept f = subst (λ (x : BodyState). IsFault (body_context md x) types may end s bytes e) kept f

module _ (md : ModuleContext) (types : CanonicalTypes) (may : Op → Bool) where
  -- the first of some accepted operators, and the others
  record First (v : BodyState) (bytes : List ℕ) : Type 0 where
    pub op : Op
    pub left : List ℕ
    pub is_read : read_as types bytes ≡ Some (op, left)
    pub stands : may op ≡ true
    pub next : State
    pub row : step_over md op v ≡ Some next
    pub others : AreAcceptedOperators md types may (record v { present = next }) left

  first_of : (v : BodyState) (bytes : List ℕ) (ops : List (Op × ℕ)) → AreOperators types bytes (without_offsets ops) [] → each_may_stand may ops ≡ true → IsAcceptedBody md v ops → v.present.frames ≢ [] → First v bytes
  first_of v bytes [] read stand rows opened = let none : v.present.frames ≡ [] = cc in absurd (opened none)
  first_of v bytes (p ∷ ops) read stand rows opened =
      let both = and_parts (may p.0) (each_may_stand may ops) stand in
      let cx = body_context md v in
      let m = and_then_given (step_over md p.0 v) (λ (s : State). state_before cx (operators cx (without_offsets ops)) s (length (operators cx (without_offsets ops)))) _ rows.1 in
      record {
        op = p.0;
        left = read.0;
        is_read = read.1;
        stands = both.0;
        next = m.0;
        row = m.1;
        others = record { ops = ops; are_read = read.2; each_stands = both.1; rows_hold = (rows.0, m.2) };
      }

  first : (v : BodyState) (bytes : List ℕ) → v.present.frames ≢ [] → AreAcceptedOperators md types may v bytes → First v bytes
  first v bytes opened a = first_of v bytes a.ops a.are_read a.each_stands a.rows_hold opened

  in_front : (v w : BodyState) (op : Op) (offset : ℕ) (bytes left : List ℕ) → read_as types bytes ≡ Some (op, left) → may op ≡ true → step_over md op v ≡ Some w.present → IsKept v w → AreAcceptedOperators md types may w left → AreAcceptedOperators md types may v bytes
  in_front v w op offset bytes left read stands row kept a =
      let cx = body_context md v in
      let code = operators cx (without_offsets a.ops) in
      let rows : IsAccepted cx code w.present = subst (λ (x : BodyState). IsAccepted (body_context md x) (operators (body_context md x) (without_offsets a.ops)) w.present) kept a.rows_hold in
      record {
        ops = (op, offset) ∷ a.ops;
        are_read = (left, read, a.are_read);
        each_stands = and_from (may op) (each_may_stand may a.ops) stands a.each_stands;
        rows_hold = (rows.0, ap (λ o. option_and_then (λ (s : State). state_before cx code s (length code)) o) row ∙ rows.1);
      }

  fault_in_front : (end : ℕ) (v w : BodyState) (op : Op) (offset : ℕ) (bytes left : List ℕ) (e : CheckError) → read_as types bytes ≡ Some (op, left) → may op ≡ true → step_over md op v ≡ Some w.present → IsKept v w → ReachFault md types may end w left e → ReachFault md types may end v bytes e
  fault_in_front end v w op offset bytes left e read stands row kept a =
      let cx = body_context md v in
      let code = operators cx (without_offsets a.ops) in
      let rows : state_before cx code w.present (length a.ops) ≡ Some a.state = subst (λ (x : BodyState). state_before (body_context md x) (operators (body_context md x) (without_offsets a.ops)) w.present (length a.ops) ≡ Some a.state) kept a.rows_hold in
      record {
        ops = (op, offset) ∷ a.ops;
        behind = a.behind;
        are_read = (left, read, a.are_read);
        each_stands = and_from (may op) (each_may_stand may a.ops) stands a.each_stands;
        state = a.state;
        rows_hold = ap (λ o. option_and_then (λ (s : State). state_before cx code s (length a.ops)) o) row ∙ rows;
        is_fault = fault_of_kept md types may end v w a.state a.behind e kept a.is_fault;
      }

  behind_first : (v w : BodyState) (op : Op) (bytes left : List ℕ) → v.present.frames ≢ [] → read_as types bytes ≡ Some (op, left) → step_over md op v ≡ Some w.present → IsKept v w → AreAcceptedOperators md types may v bytes → AreAcceptedOperators md types may w left
  behind_first v w op bytes left opened read row kept a =
      let f = first v bytes opened a in
      let same = both_same (read_as types bytes) f.op op f.left left f.is_read read in
      let same_next = some_same f.next w.present (sym f.row ∙ (ap (λ o. step_over md o v) same.0 ∙ row)) in
      let same_state : record v { present = f.next } ≡ w = ap (λ (s : State). record v { present = s }) same_next ∙ sym kept in
      subst (λ x. AreAcceptedOperators md types may x left) same_state
      (subst (λ l. AreAcceptedOperators md types may (record v { present = f.next }) l) same.1 f.others)

  -- ---- where nothing is accepted

  pub unread : (v : BodyState) (bytes : List ℕ) → v.present.frames ≢ [] → read_as types bytes ≡ None → ¬ AreAcceptedOperators md types may v bytes
  unread v bytes opened none = λ a. let f = first v bytes opened a in none_or_some (f.op, f.left) (sym none ∙ f.is_read)

  pub unclosed : (v : BodyState) (bytes : List ℕ) → v.present.frames ≢ [] → bytes ≡ [] → ¬ AreAcceptedOperators md types may v bytes
  unclosed v bytes opened ended = unread v bytes opened (ap (read_as types) ended ∙ reads_none types)

  pub unending : (v : BodyState) (bytes : List ℕ) → v.present.frames ≡ [] → bytes ≢ [] → ¬ AreAcceptedOperators md types may v bytes
  unending v bytes closed more = λ a. by a.ops a.are_read a.rows_hold
    where
      by : (ops : List (Op × ℕ)) → AreOperators types bytes (without_offsets ops) [] → IsAcceptedBody md v ops → ⊥
      by [] read rows = more read
      by (p ∷ ops) read rows =
          let cx = body_context md v in
          let m = and_then_given (step_over md p.0 v) (λ (s : State). state_before cx (operators cx (without_offsets ops)) s (length (operators cx (without_offsets ops)))) _ rows.1 in
          none_or_some m.0 (sym (no_step md p.0 v closed) ∙ m.1)

  module _ (v : BodyState) (bytes left : List ℕ) (op : Op) (opened : v.present.frames ≢ []) (read : read_as types bytes ≡ Some (op, left)) where
    pub unconstant : may op ≡ false → ¬ AreAcceptedOperators md types may v bytes
    unconstant stands_not = λ a.
        let f = first v bytes opened a in
        let same = both_same (read_as types bytes) f.op op f.left left f.is_read read in
        not_both (may f.op) f.stands (ap may same.0 ∙ stands_not)

    pub unfit : step_over md op v ≡ None → ¬ AreAcceptedOperators md types may v bytes
    unfit fails = λ a.
        let f = first v bytes opened a in
        let same = both_same (read_as types bytes) f.op op f.left left f.is_read read in
        none_or_some f.next (sym fails ∙ (ap (λ o. step_over md o v) (sym same.0) ∙ f.row))

-- the row of the operator that is read doesn't hold
step_none : (v : BodyState) (o : Option State) → option_map (λ (s : State). record v { present = s }) o ≡ None → o ≡ None
step_none v None h = refl
step_none v (Some s) h = absurd cc

pub row_fails : (md : ModuleContext) (v : BodyState) (op : Op) → RowFails (step_body md (λ cx. operator cx op) v) → RowFails (step_over md (unplaced op) v)
row_fails md v op fails = ap (λ o. step (body_context md v) o v.present) (same_operator (body_context md v) op) ∙ step_none v (step_over md op v) fails

-- ---- what is told where something isn't accepted

-- a refusal for one reason is one for what follows of it
pub refused_for : (P Q : Type 0) (offset : ℕ) (e : CheckError) → (P → Q) → IsRefusedFor P offset e → IsRefusedFor Q offset e
refused_for P Q offset (Unread e) f refused = refused
refused_for P Q offset (Refused e) f refused = λ memory. let r = refused memory in (f r.0, r.1)

-- what is invalid is told by a refusal
pub told_invalid : (cx : Context) (types : CanonicalTypes) (may : Op → Bool) (end : ℕ) (s : State) (bytes : List ℕ) (e : CheckError) → IsInvalid e → error_offset e ≡ end - length bytes → IsInvalidThere cx types may s bytes → IsFault cx types may end s bytes e
told_invalid cx types may end s bytes (Unread e) invalid at there = absurd invalid
told_invalid cx types may end s bytes (Refused e) invalid at there = λ memory. (there, at)

-- so is an operator that is refused
pub told_refused : (md : ModuleContext) (types : CanonicalTypes) (may : Op → Bool) (end offset : ℕ) (v : BodyState) (bytes left : List ℕ) (op : Op) (e : CheckError) → v.present.frames ≢ [] → read_as types bytes ≡ Some (op, left) → offset ≡ end - length bytes → IsRefusedFor ((may op ≡ false) ⊎ RowFails (step_over md op v)) offset e → IsFault (body_context md v) types may end v.present bytes e
told_refused md types may end offset v bytes left op (Unread e) opened read at refused = absurd refused
told_refused md types may end offset v bytes left op (Refused e) opened read at refused = λ memory.
    let r = refused memory in
    (inr (inl (opened, record { op = op; left = left; is_read = read; fails = r.0 })), r.1 ∙ at)

pub unreadable : (types : CanonicalTypes) (cause : Cause) (bytes : List ℕ) → (cause ≢ OutOfMemory → read_as types bytes ≡ None) → (cause ≡ VectorOperator → BeginVector bytes) → IsUnreadable types cause bytes
unreadable types (Malformed fault) bytes none vector = none (λ e. absurd cc)
unreadable types VectorOperator bytes none vector = (none (λ e. absurd cc), vector refl)
unreadable types OutOfMemory bytes none vector = tt

-- where a fault stands, nothing is accepted
not_there : (md : ModuleContext) (types : CanonicalTypes) (may : Op → Bool) (v : BodyState) (bytes : List ℕ) → IsInvalidThere (body_context md v) types may v.present bytes → ¬ AreAcceptedOperators md types may v bytes
not_there md types may v bytes (inl (opened, ended)) = unclosed md types may v bytes opened ended
not_there md types may v bytes (inr (inl (opened, r))) = elim r.fails [
  | inl stands ↦ unconstant md types may v bytes r.left r.op opened r.is_read stands
  | inr fails ↦ unfit md types may v bytes r.left r.op opened r.is_read fails
]
not_there md types may v bytes (inr (inr (closed, more))) = unending md types may v bytes closed more

not_read : (types : CanonicalTypes) (cause : Cause) (bytes : List ℕ) → cause ≢ OutOfMemory → IsUnreadable types cause bytes → read_as types bytes ≡ None
not_read types (Malformed fault) bytes refusal none = none
not_read types VectorOperator bytes refusal none = none.0
not_read types OutOfMemory bytes refusal none = absurd (refusal refl)

not_at_fault : (md : ModuleContext) (types : CanonicalTypes) (may : Op → Bool) (end : ℕ) (v : BodyState) (bytes : List ℕ) (e : CheckError) → IsFault (body_context md v) types may end v.present bytes e → IsRefusal e → ¬ AreAcceptedOperators md types may v bytes
not_at_fault md types may end v bytes (Unread e) f refusal = unread md types may v bytes f.0 (not_read types e.cause bytes refusal f.2)
not_at_fault md types may end v bytes (Refused e) f refusal = not_there md types may v bytes (f refusal).0

not_behind : (md : ModuleContext) (types : CanonicalTypes) (may : Op → Bool) (end : ℕ) (e : CheckError) (behind : List ℕ) (s : State) (ops : List (Op × ℕ)) (v : BodyState) (bytes : List ℕ) → AreOperators types bytes (without_offsets ops) behind → body_before md v ops (length ops) ≡ Some s → IsFault (body_context md v) types may end s behind e → IsRefusal e → ¬ AreAcceptedOperators md types may v bytes
not_behind md types may end e behind s [] v bytes read rows f refusal =
    let here = subst (λ (x : State). IsFault (body_context md v) types may end x behind e) (sym (some_same v.present s rows)) f in
    not_at_fault md types may end v bytes e (subst (λ b. IsFault (body_context md v) types may end v.present b e) (sym read) here) refusal
not_behind md types may end e behind s (p ∷ ops) v bytes read rows f refusal = λ a.
    let cx = body_context md v in
    let m = and_then_given (step_over md p.0 v) (λ (t : State). state_before cx (operators cx (without_offsets ops)) t (length ops)) s rows in
    let opened : v.present.frames ≢ [] = λ closed. none_or_some m.0 (sym (no_step md p.0 v closed) ∙ m.1) in
    let next : BodyState = record v { present = m.0 } in
    not_behind md types may end e behind s ops next read.0 read.2 m.2 f refusal
    (behind_first md types may v next p.0 bytes read.0 opened read.1 m.1 refl a)

-- behind accepted operators too
pub not_reached : (md : ModuleContext) (types : CanonicalTypes) (may : Op → Bool) (end : ℕ) (v : BodyState) (bytes : List ℕ) (e : CheckError) → ReachFault md types may end v bytes e → IsRefusal e → ¬ AreAcceptedOperators md types may v bytes
not_reached md types may end v bytes e r refusal = not_behind md types may end e r.behind r.state r.ops v bytes r.are_read r.rows_hold r.is_fault refusal

-- no fault stands where an operator is accepted
no_fault_before : (md : ModuleContext) (types : CanonicalTypes) (may : Op → Bool) (end : ℕ) (v : BodyState) (bytes left : List ℕ) (op : Op) (next : State) (e : CheckError) → IsFault (body_context md v) types may end v.present bytes e → IsRefusal e → read_as types bytes ≡ Some (op, left) → may op ≡ true → step_over md op v ≡ Some next → ⊥
no_fault_before md types may end v bytes left op next (Unread e) f refusal read stands row = none_or_some (op, left) (sym (not_read types e.cause bytes refusal f.2) ∙ read)
no_fault_before md types may end v bytes left op next (Refused e) f refusal read stands row = by (f refusal).0
  where
    by : IsInvalidThere (body_context md v) types may v.present bytes → ⊥
    by (inl (opened, ended)) = none_or_some (op, left) (sym (ap (read_as types) ended ∙ reads_none types) ∙ read)
    by (inr (inl (opened, r))) =
        let same = both_same (read_as types bytes) r.op op r.left left r.is_read read in
        elim r.fails [
          | inl unfit_there ↦ not_both (may op) stands (ap may (sym same.0) ∙ unfit_there)
          | inr fails ↦ none_or_some next (sym fails ∙ (ap (λ o. step_over md o v) same.0 ∙ row))
        ]
    by (inr (inr (closed, more))) = none_or_some next (sym (no_step md op v closed) ∙ row)

-- where all bytes are operators that are accepted, a refusal is told at their end: so that of a body that is left open is
pub told_at_end : (md : ModuleContext) (types : CanonicalTypes) (may : Op → Bool) (end : ℕ) (e : CheckError) (behind : List ℕ) (s t : State) (ops all : List (Op × ℕ)) (v : BodyState) (bytes : List ℕ) → AreOperators types bytes (without_offsets ops) behind → body_before md v ops (length ops) ≡ Some s → IsFault (body_context md v) types may end s behind e → IsRefusal e → AreOperators types bytes (without_offsets all) [] → each_may_stand may all ≡ true → body_before md v all (length all) ≡ Some t → error_offset e ≡ end
told_at_end md types may end (Unread e) behind s t [] [] v bytes read rows f refusal whole stand accepted = absurd (f.1 (sym read ∙ whole))
told_at_end md types may end (Refused e) behind s t [] [] v bytes read rows f refusal whole stand accepted =
    let none : length behind ≡ 0 = ap (λ bs. length bs) (sym read ∙ whole) in
    omega (arith, none, (f refusal).1)
told_at_end md types may end e behind s t [] (p ∷ all) v bytes read rows f refusal whole stand accepted =
    let cx = body_context md v in
    let here = subst (λ (x : State). IsFault cx types may end x behind e) (sym (some_same v.present s rows)) f in
    let m = and_then_given (step_over md p.0 v) (λ (x : State). state_before cx (operators cx (without_offsets all)) x (length all)) t accepted in
    absurd (no_fault_before md types may end v bytes whole.0 p.0 m.0 e (subst (λ b. IsFault cx types may end v.present b e) (sym read) here) refusal whole.1 (and_parts (may p.0) (each_may_stand may all) stand).0 m.1)
told_at_end md types may end e behind s t (q ∷ ops) [] v bytes read rows f refusal whole stand accepted =
    absurd (none_or_some (q.0, read.0) (sym (ap (read_as types) whole ∙ reads_none types) ∙ read.1))
told_at_end md types may end e behind s t (q ∷ ops) (p ∷ all) v bytes read rows f refusal whole stand accepted =
    let cx = body_context md v in
    let m = and_then_given (step_over md q.0 v) (λ (x : State). state_before cx (operators cx (without_offsets ops)) x (length ops)) s rows in
    let n = and_then_given (step_over md p.0 v) (λ (x : State). state_before cx (operators cx (without_offsets all)) x (length all)) t accepted in
    let same = both_same (read_as types bytes) q.0 p.0 read.0 whole.0 read.1 whole.1 in
    let same_next = some_same n.0 m.0 (sym n.1 ∙ (ap (λ o. step_over md o v) (sym same.0) ∙ m.1)) in
    let next : BodyState = record v { present = m.0 } in
    told_at_end md types may end e behind s t ops all next read.0 read.2 m.2 f refusal (subst (λ l. AreOperators types l (without_offsets all) []) (sym same.1) whole.2)
    (and_parts (may p.0) (each_may_stand may all) stand).1 (subst (λ (x : State). state_before cx (operators cx (without_offsets all)) x (length all) ≡ Some t) same_next n.2)

-- a vector operator that is told stands there
pub vector_reached : (md : ModuleContext) (types : CanonicalTypes) (may : Op → Bool) (end : ℕ) (v : BodyState) (bytes : List ℕ) (e : CheckError) → ReachFault md types may end v bytes e → IsVector e → ReachVector md types may v bytes
vector_reached md types may end v bytes (Unread e) r vector = record {
  ops = r.ops;
  behind = r.behind;
  are_read = r.are_read;
  each_stands = r.each_stands;
  state = r.state;
  rows_hold = r.rows_hold;
  is_open = r.is_fault.0;
  begins = (subst (λ cause. IsUnreadable types cause r.behind) vector r.is_fault.2).1;
}
vector_reached md types may end v bytes (Refused e) r vector = absurd vector

-- and one that stands there isn't read
vector_unread : (types : CanonicalTypes) (bytes : List ℕ) → BeginVector bytes → read_as types bytes ≡ None
unfolding read_as forms
vector_unread types [] begins = absurd cc
vector_unread types (code ∷ bytes) begins = subst (λ (c : ℕ). read_as types (c ∷ bytes) ≡ None) (ap (λ l. get_or l 0 0) (sym begins)) refl

begins_some : (bytes : List ℕ) → BeginVector bytes → bytes ≢ []
begins_some [] begins is = absurd cc
begins_some (code ∷ bytes) begins is = absurd cc

abbrev pub unread_vector : CheckError
unread_vector = Unread (record { cause = VectorOperator; offset = 0 })

pub vector_fault : (md : ModuleContext) (types : CanonicalTypes) (may : Op → Bool) (end : ℕ) (v : BodyState) (bytes : List ℕ) → ReachVector md types may v bytes → ReachFault md types may end v bytes unread_vector
vector_fault md types may end v bytes r = record {
  ops = r.ops;
  behind = r.behind;
  are_read = r.are_read;
  each_stands = r.each_stands;
  state = r.state;
  rows_hold = r.rows_hold;
  is_fault = (r.is_open, begins_some r.behind r.begins, (vector_unread types r.behind r.begins, r.begins));
}

-- what follows of each error follows of the one that there is
pub for_some : {A : Type 0} → (o : Option A) (P Q : A → Type 0) → ((a : A) → P a → Q a) → IfSome o P → IfSome o Q
for_some None P Q f h = h
for_some (Some a) P Q f h = f a h

-- of the error that there is, it follows
pub of_some : {A : Type 0} → (o : Option A) (a : A) (P : A → Type 0) → o ≡ Some a → IfSome o P → P a
of_some o a P e h = subst (λ p. IfSome p P) e h

pub some_or_none : {A : Type 0} → (o : Option A) → IsSome o → o ≡ None → ⊥
some_or_none None some none = absurd cc
some_or_none (Some a) some none = absurd cc

-- what follows of what is left and of each error that says so, at this offset
pub told_in : {T : Type 0} → (left : Type 0) (X : CheckError → Type 0) (offset : ℕ) → (r : Result T CheckError) → OnErr r left → IfErr r IsInvalid → IfErr r (λ e. error_offset e ≡ offset) → ((e : CheckError) → IsInvalid e → error_offset e ≡ offset → left → X e) → IfErr r X
told_in left X offset (Ok x) more invalid at f = tt
told_in left X offset (Err e) more invalid at f = f e invalid at more

pub none_left : (bytes : List ℕ) → length bytes ≡ 0 → bytes ≡ []
none_left [] h = refl
none_left (b ∷ bytes) h = absurd cc

-- ---- so far

-- the state u is reached by operators that were accepted: from v on these bytes are accepted if those that are left are
-- from u on, and reach a fault if those do
pub record IsBehind (md : ModuleContext) (types : CanonicalTypes) (may : Op → Bool) (v u : BodyState) (bytes left : List ℕ) : Type 0 where
  pub accepted : AreAcceptedOperators md types may u left → AreAcceptedOperators md types may v bytes
  pub fault : (end : ℕ) (e : CheckError) → ReachFault md types may end u left e → ReachFault md types may end v bytes e
  pub valid : IsValidBody md u
  pub kept : IsKept v u

-- and a frame is open there
pub record IsOpenBehind (md : ModuleContext) (types : CanonicalTypes) (may : Op → Bool) (v u : BodyState) (bytes left : List ℕ) : Type 0 where
  pub behind : IsBehind md types may v u bytes left
  pub is_open : u.present.frames ≢ []

open_at_start : (s : State) (ty : BlockType) → s ≡ start ty → s.frames ≢ []
open_at_start s ty is e = let clash : (start ty).frames ≡ [] = sym (ap (λ (x : State). x.frames) is) ∙ e in absurd cc

pub at_start : (md : ModuleContext) (types : CanonicalTypes) (may : Op → Bool) (v : BodyState) (bytes : List ℕ) → IsStarting md v → IsOpenBehind md types may v v bytes bytes
at_start md types may v bytes s = record {
  behind = record { accepted = λ a. a; fault = λ end e a. a; valid = s.is_valid; kept = refl };
  is_open = open_at_start v.present s.block_type s.one_frame;
}

some_frames : (fs : List Frame) → length fs ≢ 0 → fs ≢ []
some_frames [] h e = h refl
some_frames (f ∷ fs) h e = absurd cc

pub still_open : (u : State) (n : ℕ) → n ≡ frame_count u → n ≢ 0 → u.frames ≢ []
still_open u n e h = some_frames u.frames (λ z. h (e ∙ z))

module _ (md : ModuleContext) (types : CanonicalTypes) (may : Op → Bool) (v : BodyState) (bytes left : List ℕ) where
  pub may_visit : (u : Stacked) → IsStarting md v → IsOpenBehind md types may v u.body bytes left → MayVisit md u
  may_visit u s b = record {
    open_frame = b.is_open;
    valid = b.behind.valid;
    attempt = ap (λ p. is_none p || is_quiet u.phase) (ap (λ (x : BodyState). x.undone) b.behind.kept ∙ s.none_pending);
  }

  pub one_more : (u w : BodyState) (op : Op) (offset : ℕ) (rest : List ℕ) (x : Unit {0}) → IsOpenBehind md types may v u bytes left → read_as types left ≡ Some (unplaced op, rest) → may (unplaced op) ≡ true → Meets md (λ cx. operator cx op) offset u (Ok x) w → IsBehind md types may v w bytes rest
  one_more u w op offset rest x b e stands m =
      let row : step_over md (unplaced op) u ≡ Some w.present =
      ap (λ o. step (body_context md u) o u.present) (same_operator (body_context md u) op) ∙ visited md op offset u w x m in
      let kept = visit_kept md _ _ u w _ m in
      record {
        accepted = λ a. b.behind.accepted (in_front md types may u w (unplaced op) offset left rest e stands row kept a);
        fault = λ end error a. b.behind.fault end error (fault_in_front md types may end u w (unplaced op) offset left rest error e stands row kept a);
        valid = visit_valid md _ _ u w _ m;
        kept = kept_on v u w b.behind.kept kept;
      }

  -- what is told stands in what is left
  pub at_fault : (end : ℕ) (u : BodyState) (e : CheckError) → IsBehind md types may v u bytes left → IsFault (body_context md u) types may end u.present left e → ReachFault md types may end v bytes e
  at_fault end u e b f = b.fault end e (record {
    ops = [];
    behind = left;
    are_read = refl;
    each_stands = refl;
    state = u.present;
    rows_hold = refl;
    is_fault = f;
  })

  -- the last was accepted, and nothing is left
  pub whole : (u : BodyState) (n : ℕ) → IsBehind md types may v u bytes left → left ≡ [] → n ≡ frame_count u.present → n ≡ 0 → IsLawful md → AreSafeOperators md types may v bytes
  whole u n b e c z laws =
      let none = no_frames u.present.frames (sym c ∙ z) in
      let accepted = b.accepted (record {
        ops = [];
        are_read = e;
        each_stands = refl;
        rows_hold = (u.present.left, ap (λ (fs : List Frame). Some (record { frames = fs; left = u.present.left })) none);
      }) in
      record { accepted = accepted; are_safe = λ ty s. safe_accepted md v accepted.ops ty laws s accepted.rows_hold }

  -- the last was accepted, and something is left
  pub behind_end : (u : BodyState) (n : ℕ) → n ≡ frame_count u.present → n ≡ 0 → left ≢ [] → IsInvalidThere (body_context md u) types may u.present left
  behind_end u n c z more = inr (inr (no_frames u.present.frames (sym c ∙ z), more))
