-- Validation: the static state, one operator, and the state before each place of a list (WebAssembly
-- core specification, appendix "Validation Algorithm", where a control frame has its own operands
-- instead of a height). Dead code over-approximates: below its own operands a dead frame has any.
pub use Rattle.validate_locals.specs.Inits.{is_local_set}
use Rattle.std.specs.Prelude.{◌≡◌, ℕ, ◌+◌, zero, suc, nat_le, Bool, true, false, ◌&&◌, ◌||◌}
use Rattle.std.specs.Prelude.{if◌then◌else◌}
use Rattle.std.specs.Prelude.{List, [], ◌∷◌, ◌++◌, reverse, length, map, drop, Option, Some, None}
use Rattle.std.specs.Option.{option_and_then, option_map}
use Rattle.std.specs.List.{list_all, flat_map}
use Rattle.validation_rules.specs.Context.{ValType, BlockType, Context}
use Rattle.validation_rules.specs.Fits.{MaybeType, Bottom, Known, all_fit}
use Rattle.validation_rules.specs.Rows.{Head, params, results, label_types, body_head}
use Rattle.validation_rules.specs.Rows.{FrameKind, Else, is_if, is_try, may_catch, catch_kind}
use Rattle.validation_rules.specs.Rows.{Form, Stays, Opens, BeginsElse, BeginsCatch, Ends, Delegates}
use Rattle.validation_rules.specs.Rows.{Operator, Row, Clause, expected_count, pushed_for, guard, is_instruction}

-- ---- states

-- an open frame (ctrl_frame of the algorithm)
pub record Frame : Type 0 where
  pub head : Head
  -- the frame's own operands, the top first
  pub operands : List MaybeType
  -- the code is unreachable
  pub dead : Bool
  -- the locals that were first set in it, in order
  pub first_set : List ℕ

-- the open frames, the innermost first, and the types left once none is open
pub record State : Type 0 where
  pub frames : List Frame
  pub left : List MaybeType

abbrev pub state_with : List MaybeType → List Frame → State
state_with left fs = record { frames = fs; left = left }

-- a state of a body in which frames are open, so that nothing is left yet
abbrev pub open_state : List Frame → State
open_state fs = state_with [] fs

-- a state in which a frame is open: the innermost one, those outside it, and what is left
pub record OpenFrames : Type 0 where
  pub innermost : Frame
  pub outer : List Frame
  pub left : List MaybeType

abbrev pub open_frames : Frame → List Frame → List MaybeType → OpenFrames
open_frames f fs left = record { innermost = f; outer = fs; left = left }

abbrev pub heads : List Frame → List Head
heads fs = map (λ (f : Frame). f.head) fs

-- ---- locals

-- The locals that were first set in a frame that is still open (the algorithm's inits). Closing a
-- frame, or beginning its next part, so unsets what was first set in it.
abbrev pub locals_set : List Frame → List ℕ
locals_set fs = flat_map (λ (f : Frame). f.first_set) fs

-- the local that the operator reads, if it reads one, is set (Specification, "local.get")
abbrev pub is_read_local_set : Context → List ℕ → Option ℕ → Bool
is_read_local_set cx set None = true
is_read_local_set cx set (Some i) = is_local_set cx.set_at_entry set i

-- the local that the operator sets, if it sets one, joins the frame's list unless it is set (set_local of
-- the algorithm)
abbrev pub first_set_after : Context → List ℕ → Option ℕ → List ℕ → List ℕ
first_set_after cx set None first_set = first_set
first_set_after cx set (Some i) first_set =
    if is_local_set cx.set_at_entry set i then first_set else first_set ++ i ∷ []

-- ---- operands

-- a stack, its top first, with a row's list put on it: the list's last comes to lie on top (push_vals of the
-- algorithm)
abbrev pub stack_with : {A : Type 0} → List A → List A → List A
stack_with xs stack = reverse xs ++ stack

-- The n operands on top, the top first; below those of a dead frame lie unknown ones (pop_val of the
-- algorithm). Operands below the frame are never among them.
abbrev pub operands_on_top : ℕ → Bool → List MaybeType → List MaybeType
operands_on_top zero dead own = []
operands_on_top (suc n) dead (x ∷ own) = x ∷ operands_on_top n dead own
operands_on_top (suc n) true [] = Bottom ∷ operands_on_top n true []
operands_on_top (suc n) false [] = []

-- what n pops find, turned as a row writes its lists: the last on top (pop_vals of the algorithm)
abbrev pub operands_found : ℕ → Frame → List MaybeType
operands_found n f = stack_with (operands_on_top n f.dead f.operands) []

-- what n pops leave of the frame's own operands
abbrev pub operands_under : ℕ → Frame → List MaybeType
operands_under n f = drop n f.operands

-- ---- frames

-- a frame that has just been opened, or a part that has just begun (push_ctrl of the algorithm)
abbrev pub opened_frame : Head → List ValType → Frame
opened_frame h types =
    record { head = h; operands = stack_with (map Known types) []; dead = false; first_set = [] }

-- the same block, in its next part
abbrev pub head_with_kind : FrameKind → Head → Head
head_with_kind kind h = record h { kind = kind }

-- the frame with a row's list on its operands
abbrev pub frame_with : List MaybeType → Frame → Frame
frame_with types f = record f { operands = stack_with types f.operands }

-- the frame without the operands that the operator takes
abbrev pub frame_under : Row → Frame → Frame
frame_under r f = record f { operands = operands_under (expected_count r.type) f }

-- an operator that ends the live part leaves no operand (unreachable of the algorithm)
abbrev pub operands_after : Bool → List MaybeType → List MaybeType → List MaybeType
operands_after ends_live under pushed = if ends_live then [] else stack_with pushed under

-- the innermost frame after an operator that neither opens nor closes one
abbrev pub frame_after : Context → Row → List ℕ → List MaybeType → Frame → Frame
frame_after cx r set pushed f =
    record {
      head = f.head;
      operands = operands_after r.ends_live (operands_under (expected_count r.type) f) pushed;
      dead = f.dead || r.ends_live;
      first_set = first_set_after cx set r.sets f.first_set;
    }

-- ---- what an operator pushes, or None where its row doesn't hold

-- the first of these labels exists, and takes these types
abbrev pub label_accepts : Context → List Head → List ValType → Bool
label_accepts cx [] types = false
label_accepts cx (h ∷ hs) types = all_fit cx (map Known types) (label_types cx h)

-- a clause's label exists, and takes what the clause carries
abbrev pub clause_fits : Context → List Head → Clause → Bool
clause_fits cx hs c = label_accepts cx (drop c.depth hs) c.types

abbrev pub clauses_fit : Context → List Head → List Clause → Bool
clauses_fit cx hs clauses = list_all (clause_fits cx hs) clauses

-- an instruction: its premises, its clauses and the local that it reads hold, and its operands pass
abbrev pub pushed_by_row : Context → Row → List Head → List ℕ → Frame → Option (List MaybeType)
pushed_by_row cx r hs set f =
    guard (r.premise && (clauses_fit cx hs r.clauses && is_read_local_set cx set r.reads))
    (pushed_for cx r.type (operands_found (expected_count r.type) f))

-- the frame's operands are its results, and nothing is left below them (pop_ctrl of the algorithm)
abbrev pub may_close : Context → Frame → Bool
may_close cx f =
    let n = length (results cx f.head) in
    nat_le (length f.operands) n && all_fit cx (operands_found n f) (results cx f.head)

-- An `if` without `else` gives its parameters as its results: an absent second part is an empty one
-- (Specification, "if").
abbrev pub missing_else_fits : Context → Head → Bool
missing_else_fits cx h = if is_if h.kind then all_fit cx (map Known (params cx h)) (results cx h) else true

-- a delimiter fits the frame: `else` an `if`, `catch` and `catch_all` the part of a `try` or of a `catch`,
-- `end` any frame (of an `if`, whose second part is missing then), `delegate` a `try`
abbrev pub delimiter_fits : Context → Form → Frame → Bool
delimiter_fits cx BeginsElse f = is_if f.head.kind
delimiter_fits cx (BeginsCatch all types) f = may_catch f.head.kind
delimiter_fits cx Ends f = missing_else_fits cx f.head
delimiter_fits cx Delegates f = is_try f.head.kind
delimiter_fits cx _ f = false

-- it pushes nothing, where it fits the frame, and the frame may close
abbrev pub pushed_by_delimiter : Context → Row → Form → Frame → Option (List MaybeType)
pushed_by_delimiter cx r form f = guard (r.premise && (delimiter_fits cx form f && may_close cx f)) (Some [])

-- of an operator over the open frames with these heads, of which f is the innermost, and where these
-- locals are set
abbrev pub pushed_types : Context → Operator → List Head → List ℕ → Frame → Option (List MaybeType)
pushed_types cx op hs set f =
    if is_instruction op.form
    then pushed_by_row cx (op.row hs) hs set f
    else pushed_by_delimiter cx (op.row hs) op.form f

-- ---- what an operator leaves

-- a closed frame gives its results to the next outer one, or leaves them where none is open (pop_ctrl of
-- the algorithm, and the push after it)
abbrev pub state_after_exit : List MaybeType → List ValType → List Frame → State
state_after_exit left types [] = state_with (stack_with (map Known types) left) []
state_after_exit left types (f ∷ fs) = state_with left (frame_with (map Known types) f ∷ fs)

-- What an operator of this form and row leaves that pushes these types. A frame that is opened, or a part
-- that begins, is live and owns its first types.
abbrev pub state_after : Context → Row → OpenFrames → Form → List MaybeType → State
state_after cx r o Stays pushed =
    let set = locals_set (o.innermost ∷ o.outer) in
    state_with o.left (frame_after cx r set pushed o.innermost ∷ o.outer)
state_after cx r o (Opens h) pushed =
    state_with o.left (opened_frame h (params cx h) ∷ frame_under r o.innermost ∷ o.outer)
state_after cx r o BeginsElse pushed =
    let h = o.innermost.head in
    state_with o.left (opened_frame (head_with_kind Else h) (params cx h) ∷ o.outer)
state_after cx r o (BeginsCatch all types) pushed =
    state_with o.left (opened_frame (head_with_kind (catch_kind all) o.innermost.head) types ∷ o.outer)
state_after cx r o Ends pushed = state_after_exit o.left (results cx o.innermost.head) o.outer
state_after cx r o Delegates pushed = state_after_exit o.left (results cx o.innermost.head) o.outer

-- ---- steps

abbrev pub step_in : Context → Operator → List Frame → List MaybeType → Option State
step_in cx op [] left = None
step_in cx op (f ∷ fs) left =
    let hs = heads (f ∷ fs) in
    option_map (state_after cx (op.row hs) (open_frames f fs left) op.form)
    (pushed_types cx op hs (locals_set (f ∷ fs)) f)

-- one operator: None where its row doesn't hold
abbrev pub step : Context → Operator → State → Option State
step cx op s = step_in cx op s.frames s.left

-- the row of an operator holds: it has this step, to the state t
abbrev pub RowHolds : {S : Type 0} → Option S → S → Type 0
RowHolds made t = made ≡ Some t

-- its row doesn't hold: it has none
abbrev pub RowFails : {S : Type 0} → Option S → Type 0
RowFails made = made ≡ None

-- the state before place k, if the rows of all operators before it hold
abbrev pub state_before : Context → List Operator → State → ℕ → Option State
state_before cx code s zero = Some s
state_before cx [] s (suc k) = None
state_before cx (op ∷ code) s (suc k) = option_and_then (λ s'. state_before cx code s' k) (step cx op s)

-- the state that a body of this type starts in (Specification, "Functions", "Expressions")
abbrev pub start : BlockType → State
start ty = open_state (opened_frame (body_head ty) [] ∷ [])

-- all rows before place n hold; the list may go on as it likes
abbrev pub RowsHoldBefore : Context → List Operator → State → ℕ → Type 0
RowsHoldBefore cx code s n = (t : State) × (state_before cx code s n ≡ Some t)

-- all rows hold, and no frame is left open
abbrev pub IsAccepted : Context → List Operator → State → Type 0
IsAccepted cx code s =
    (left : List MaybeType) × (state_before cx code s (length code) ≡ Some (state_with left []))

-- ---- heights

-- how many operands there are
abbrev pub operand_count_in : List Frame → ℕ
operand_count_in [] = 0
operand_count_in (f ∷ fs) = length f.operands + operand_count_in fs

abbrev pub operand_count : State → ℕ
operand_count s = operand_count_in s.frames + length s.left

-- how many frames are open
abbrev pub frame_count : State → ℕ
frame_count s = length s.frames
