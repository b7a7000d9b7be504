-- A list whose rows all hold is well ordered: the rows of `else`, `catch`, `catch_all` and `delegate`
-- ask for the kind of the innermost frame, so type safety needs no premise on the order.
use Rattle.std.proofs.Common.{◌&&◌, ◌≡◌, ℕ, Bool, true, false, List, [], ◌∷◌, length, map, Option, Some, None, refl, sym, ap, ◌∙◌, subst}
use Rattle.validate_visit.specs.Order.{Nesting, is_ordered_from, nesting, may_stand, parts_after, control_nesting, exception_nesting}
use Rattle.validate_visit.specs.declared.op.Op.{Op}
use Rattle.validate_visit.specs.declared.op.Op.TheVariants.{Control, Exception}
use Rattle.validate_visit.specs.declared.op.ControlOp.{ControlOp}
use Rattle.validate_visit.specs.declared.op.ControlOp.TheVariants.{Block as BlockOp, Loop as LoopOp, If as IfOp, Else as ElseOp, End}
use Rattle.validate_visit.specs.declared.op.ExceptionOp.{ExceptionOp}
use Rattle.validate_visit.specs.declared.op.ExceptionOp.TheVariants.{TryTable as TryTableOp, Try, Catch as CatchOp}
use Rattle.validation_rules.specs.Context.{ValType, I32, BlockType, Context}
use Rattle.validation_rules.specs.Fits.{MaybeType}
use Rattle.validation_rules.specs.Exceptions.{exception_types, catch_clauses, operator_catching, catch_operator, exception_operator}
use Rattle.validation_rules.specs.Rows.{FrameKind, Block, If, Loop, TryTable, LegacyTry, Clause, Head, results, is_if, is_try, may_catch, Form, Stays, Opens, BeginsElse, BeginsCatch, Ends, Delegates, Row, Operator}
use Rattle.validation_rules.specs.Static.{Frame, State, heads, locals_set, state_after_exit, state_after, open_frames, step_in, state_before, start}
use Rattle.validation_rules.specs.Order.{nesting_of, RowsHold, RowsAreOrdered, BodiesAreOrdered}
use Rattle.validation_rules.specs.Operators.{checked_block, opener, operator, control_operator, operators}
use Rattle.validation_rules.proofs.Below.{and_true, true_and}
use Rattle.validation_rules.proofs.Steps.{pushed_by_form, guard_some, and_then_given, stepped}

abbrev kinds : List Frame → List FrameKind
kinds fs = map (λ (f : Frame). f.head.kind) fs

given_kinds : (left : List MaybeType) (types : List ValType) (fs : List Frame) → kinds (state_after_exit left types fs).frames ≡ kinds fs
given_kinds left types [] = refl
given_kinds left types (f ∷ fs) = refl

order_by : (left : List MaybeType) (cx : Context) (row : Row) (hs : List Head) (set : List ℕ) (f : Frame) (fs : List Frame) (form : Form) (pushed : List MaybeType) (next : List FrameKind → Bool) → pushed_by_form cx row hs set f form ≡ Some pushed → next (kinds (state_after cx row (open_frames f fs left) form pushed).frames) ≡ true → (may_stand (f.head.kind ∷ (kinds fs)) (nesting_of form) && next (parts_after (f.head.kind ∷ (kinds fs)) (nesting_of form))) ≡ true
order_by left cx row hs set f fs Stays pushed next p h = h
order_by left cx row hs set f fs (Opens o) pushed next p h = h
order_by left cx row hs set f fs BeginsElse pushed next p h =
    true_and _ _ (and_true (is_if f.head.kind) _ (and_true row.premise _ (guard_some _ _ _ p).0).1).0 h
order_by left cx row hs set f fs (BeginsCatch all types) pushed next p h =
    true_and _ _ (and_true (may_catch f.head.kind) _ (and_true row.premise _ (guard_some _ _ _ p).0).1).0 h
order_by left cx row hs set f fs Ends pushed next p h = subst (λ ks. next ks ≡ true) (given_kinds left (results cx f.head) fs) h
order_by left cx row hs set f fs Delegates pushed next p h =
    true_and _ _ (and_true (is_try f.head.kind) _ (and_true row.premise _ (guard_some _ _ _ p).0).1).0 (subst (λ ks. next ks ≡ true) (given_kinds left (results cx f.head) fs) h)

-- the list, as the reader of its order sees it
abbrev nestings : List Operator → List Nesting
nestings code = map (λ (op : Operator). nesting_of op.form) code

ordered : (cx : Context) (code : List Operator) (fs : List Frame) (left : List MaybeType) → RowsHold cx code (record { frames = fs; left = left }) → is_ordered_from (kinds fs) (nestings code) ≡ true
ordered cx [] fs left h = refl
ordered cx (op ∷ code) [] left h = absurd cc
ordered cx (op ∷ code) (f ∷ fs) left h =
    let m = and_then_given (step_in cx op (f ∷ fs) left) (λ v. state_before cx code v (length code)) _ h.1 in
    let st = stepped cx op f fs left m.0 m.1 in
    order_by left cx (op.row (heads (f ∷ fs))) (heads (f ∷ fs)) (locals_set (f ∷ fs)) f fs op.form st.pushed (λ js. is_ordered_from js (nestings code)) st.holds
    (subst (λ (v : State). is_ordered_from (kinds v.frames) (nestings code) ≡ true) st.leaves (ordered cx code m.0.frames m.0.left (h.0, m.2)))

pub rows_are_ordered : (cx : Context) → RowsAreOrdered cx
rows_are_ordered cx code ty h = ordered cx code (start ty).frames [] h

-- ---- the operators of the table

opener_nests : (cx : Context) (kind : FrameKind) (above : List ValType) (declared : BlockType) (o : Option BlockType) → nesting_of (opener cx kind above declared o).form ≡ Nesting.Opens kind
opener_nests cx kind above declared (Some bt) = refl
opener_nests cx kind above declared None = refl

control_nests : (cx : Context) (op : ControlOp) → nesting_of (control_operator cx op).form ≡ control_nesting op
control_nests cx (BlockOp bt) = opener_nests cx Block [] bt (checked_block cx bt)
control_nests cx (LoopOp bt) = opener_nests cx Loop [] bt (checked_block cx bt)
control_nests cx (IfOp bt) = opener_nests cx If (I32 ∷ []) bt (checked_block cx bt)
control_nests cx ElseOp = refl
control_nests cx End = refl
control_nests cx _ = refl

catching_nests : (op : Operator) (o : Option (List Clause)) → (operator_catching op o).form ≡ op.form
catching_nests op (Some clauses) = refl
catching_nests op None = refl

catch_nests : (o : Option (List ValType)) → nesting_of (catch_operator o).form ≡ Nesting.BeginsCatch false
catch_nests (Some types) = refl
catch_nests None = refl

exception_nests : (cx : Context) (op : ExceptionOp) → nesting_of (exception_operator cx op).form ≡ exception_nesting op
exception_nests cx (TryTableOp t) =
    let opens = opener cx TryTable [] t.ty (checked_block cx t.ty) in
    ap nesting_of (catching_nests opens (catch_clauses cx.of_module t.catches.now)) ∙ opener_nests cx TryTable [] t.ty (checked_block cx t.ty)
exception_nests cx (Try bt) = opener_nests cx LegacyTry [] bt (checked_block cx bt)
exception_nests cx (CatchOp tag) = catch_nests (exception_types cx.of_module tag)
exception_nests cx _ = refl

-- an operator's form says of the open parts what the operator does to them
pub operator_nests : (cx : Context) (op : Op) → nesting_of (operator cx op).form ≡ nesting op
operator_nests cx (Control op) = control_nests cx op
operator_nests cx (Exception op) = exception_nests cx op
operator_nests cx _ = refl

body_nests : (cx : Context) (ops : List Op) → nestings (operators cx ops) ≡ map nesting ops
body_nests cx [] = refl
body_nests cx (op ∷ ops) =
    ap (λ n. n ∷ nestings (operators cx ops)) (operator_nests cx op) ∙ ap (λ ns. nesting op ∷ ns) (body_nests cx ops)

pub bodies_are_ordered : (cx : Context) → BodiesAreOrdered cx
bodies_are_ordered cx ops ty h =
    sym (ap (λ ns. is_ordered_from (Block ∷ []) ns) (body_nests cx ops)) ∙ rows_are_ordered cx (operators cx ops) ty h
