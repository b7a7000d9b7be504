-- Execution on types alone: a machine that knows its values by their types, in one body (WebAssembly
-- core specification, "Execution: Instructions"; the parts of a legacy `try` are those of the legacy
-- exceptions). It over-approximates the standard's reduction: values, callees, handlers and other
-- continuations are free choices, and each value that comes has any type below the stated one.
use Rattle.std.specs.Bool.{MatchBool}
use Rattle.std.specs.List.{list_all}
use Rattle.std.specs.Prelude.{◌≡◌, ℕ, zero, suc, Bool, true, false, not, IsTrue, IsFalse}
use Rattle.std.specs.Prelude.{List, [], ◌∷◌, length, map, take, drop, slice_get, Option, Some, None}
use Rattle.validation_rules.specs.Context.{ValType, BlockType, Context, AllBelow}
use Rattle.validation_rules.specs.Fits.{MaybeType, Known}
use Rattle.validation_rules.specs.Rows.{Head, params, results, label_types, body_head}
use Rattle.validation_rules.specs.Rows.{is_loop, is_if, is_try, is_try_table, Else, catch_kind}
use Rattle.validation_rules.specs.Rows.{Form, Stays, Opens, BeginsElse, BeginsCatch, Ends, Delegates}
use Rattle.validation_rules.specs.Rows.{Operator, Row, expected_count, Target, Clause}
use Rattle.validation_rules.specs.Static.{Frame, stack_with, head_with_kind, pushed_types}

-- ---- states

-- A label (Specification, "Runtime Structure: Labels"), with the place that began its present part:
-- that of its opener, `else`, `catch` or `catch_all` (of no meaning for the outermost one), and its
-- own operands, the top first.
pub record Label : Type 0 where
  pub began : ℕ
  pub head : Head
  pub operands : List ValType

-- A place with the open labels, the innermost first, and the locals that have been set since the body
-- began, which only grow (Specification, "Runtime Structure: Frames"); or an end. There are no unknown
-- types, heights or dead marks.
pub data Machine : Type 0 where
  At : (place : ℕ) (labels : List Label) (set : List ℕ) → Machine
  Returned : (types : List ValType) → Machine
  Trapped : Machine
  LeftByException : Machine
  LeftBySuspension : Machine

-- a label that begins at place b, with these types as its operands
abbrev pub opened_label : ℕ → Head → List ValType → Label
opened_label b h types = record { began = b; head = h; operands = stack_with types [] }

-- a label with these types on top of its operands
abbrev pub label_with : List ValType → Label → Label
label_with types l = record l { operands = stack_with types l.operands }

-- place 0, one empty label, and no local set but those that are when the body begins
-- (Specification, "Execution: Invocation")
abbrev pub initial_machine : BlockType → Machine
initial_machine ty = At 0 (opened_label 0 (body_head ty) [] ∷ []) []

-- ---- the delimiters of a block: what separates its parts (`else`, `catch`, `catch_all`), and its closer
-- (`end`, `delegate`). The grammar nests them; here they are found by counting (Specification,
-- "Structure: Control Instructions").

-- where a delimiter stands, and what it does
pub record Delimiter : Type 0 where
  pub place : ℕ
  pub form : Form

abbrev pub delimiter : ℕ → Form → Delimiter
delimiter k form = record { place = k; form = form }

abbrev pub is_closing_form : Form → Bool
is_closing_form Ends = true
is_closing_form Delegates = true
is_closing_form _ = false

abbrev pub is_else : Form → Bool
is_else BeginsElse = true
is_else _ = false

abbrev pub is_separator : Form → Bool
is_separator BeginsElse = true
is_separator (BeginsCatch all types) = true
is_separator _ = false

-- the delimiters of a block among the forms that follow from place k on, where so many blocks stand
-- open inside it: its separators, and then its closer
abbrev pub delimiters_from : ℕ → ℕ → List Form → List Delimiter
delimiters_from depth k [] = []
delimiters_from depth k (Stays ∷ forms) = delimiters_from depth (suc k) forms
delimiters_from depth k (Opens h ∷ forms) = delimiters_from (suc depth) (suc k) forms
delimiters_from zero k (BeginsElse ∷ forms) = delimiter k BeginsElse ∷ delimiters_from zero (suc k) forms
delimiters_from zero k (BeginsCatch all types ∷ forms) =
    delimiter k (BeginsCatch all types) ∷ delimiters_from zero (suc k) forms
delimiters_from zero k (Ends ∷ forms) = delimiter k Ends ∷ []
delimiters_from zero k (Delegates ∷ forms) = delimiter k Delegates ∷ []
delimiters_from (suc depth) k (BeginsElse ∷ forms) = delimiters_from (suc depth) (suc k) forms
delimiters_from (suc depth) k (BeginsCatch all types ∷ forms) = delimiters_from (suc depth) (suc k) forms
delimiters_from (suc depth) k (Ends ∷ forms) = delimiters_from depth (suc k) forms
delimiters_from (suc depth) k (Delegates ∷ forms) = delimiters_from depth (suc k) forms

abbrev pub forms_of : List Operator → List Form
forms_of code = map (λ (op : Operator). op.form) code

-- the delimiters of what began at place b, an opener or a separator, from there on
abbrev pub delimiters : List Operator → ℕ → List Delimiter
delimiters code b = delimiters_from 0 (suc b) (forms_of (drop (suc b) code))

-- at place c stands a delimiter of this form, of what began at place b
abbrev pub IsDelimiter : List Operator → ℕ → ℕ → Form → Type 0
IsDelimiter code b c form = (j : ℕ) × (slice_get (delimiters code b) j ≡ Some (delimiter c form))

-- at place c stands the closer of what began at place b
abbrev pub IsCloser : List Operator → ℕ → ℕ → Type 0
IsCloser code b c = (form : Form) × IsDelimiter code b c form × IsTrue (is_closing_form form)

abbrev pub has_no_else : List Delimiter → Bool
has_no_else ds = list_all (λ (d : Delimiter). not (is_else d.form)) ds

-- what began at place b, an `if`, has no `else`
abbrev pub HasNoElse : List Operator → ℕ → Type 0
HasNoElse code b = IsTrue (has_no_else (delimiters code b))

-- ---- where the machine stands

-- an operator and its place, the innermost label, those outside it, and the set locals
-- (Specification, "Runtime Structure: Configurations")
pub record Configuration : Type 0 where
  pub place : ℕ
  pub label : Label
  pub outer : List Label
  pub set : List ℕ
  pub op : Operator

abbrev pub configuration : ℕ → Label → List Label → List ℕ → Operator → Configuration
configuration k l outer set op = record { place = k; label = l; outer = outer; set = set; op = op }

abbrev pub label_heads : List Label → List Head
label_heads ls = map (λ (l : Label). l.head) ls

abbrev pub labels_at : Configuration → List Label
labels_at here = here.label ∷ here.outer

-- the row of an operator where these labels are open
abbrev pub row_in : List Label → Operator → Row
row_in labels op = op.row (label_heads labels)

abbrev pub row_at : Configuration → Row
row_at here = row_in (labels_at here) here.op

-- the n operands on top, as a row writes its lists: the last on top
abbrev pub types_on_top : ℕ → List ValType → List ValType
types_on_top n own = stack_with (take n own) []

abbrev pub operands_taken : Configuration → List ValType
operands_taken here = types_on_top (expected_count (row_at here).type) here.label.operands

-- the label without the operands that the operator takes
abbrev pub label_under : Configuration → Label
label_under here =
    record here.label { operands = drop (expected_count (row_at here).type) here.label.operands }

-- the labels once the operator has taken its operands and left these types in their place
abbrev pub labels_with : List ValType → Configuration → List Label
labels_with types here = label_with types (label_under here) ∷ here.outer

-- the labels once the operator has taken its operands and opened this label
abbrev pub labels_inside : Label → Configuration → List Label
labels_inside l here = l ∷ label_under here ∷ here.outer

-- the label read as a frame of the validator: live, and all its operands known
abbrev pub live_frame : Label → Frame
live_frame l = record { head = l.head; operands = map Known l.operands; dead = false; first_set = [] }

-- what the operator pushes by the rules of validation, read over the label's operands
abbrev pub pushed_types_at : Context → Configuration → Option (List MaybeType)
pushed_types_at cx here =
    pushed_types cx here.op (label_heads (labels_at here)) here.set (live_frame here.label)

-- ---- what a step comes to

-- a local that is set stays so, whatever closes (Specification, "local.set")
abbrev pub set_after : Option ℕ → List ℕ → List ℕ
set_after None set = set
set_after (Some i) set = i ∷ set

-- On at this place, in the first of these labels, with these types given to it; or a return of them,
-- where none is left open (Specification, "Execution: Blocks": exiting).
abbrev pub machine_after_exit : ℕ → List ValType → List Label → List ℕ → Machine
machine_after_exit k types [] set = Returned types
machine_after_exit k types (l ∷ outer) set = At k (label_with types l ∷ outer) set

-- at the place after what began the label, in it anew, with these types
abbrev pub machine_after_restart : Label → List Label → List ℕ → List ValType → Machine
machine_after_restart l outer set types = At (suc l.began) (opened_label l.began l.head types ∷ outer) set

-- the first of these labels exists, and takes these types
abbrev pub LabelAccepts : Context → List Label → List ValType → Type 0
LabelAccepts cx [] types = ⊥
LabelAccepts cx (l ∷ outer) types = AllBelow cx types (label_types cx l.head)

module _ (cx : Context) (code : List Operator) where
  -- ---- what an operator demands before it can run (Specification, "Execution: Instructions": what is
  -- asserted there "due to validation")

  pub record Demand (here : Configuration) : Type 0 where
    -- its row holds: the operands are there and fit, the local that it reads is set, and over operands of
    -- known types it pushes known types
    pub row : (pushed : List ValType) × (pushed_types_at cx here ≡ Some (map Known pushed))
    -- each label that it may branch to exists, and takes what the branch carries there
    pub targets :
        (j : ℕ) (t : Target) → slice_get (row_at here).targets j ≡ Some t →
        LabelAccepts cx (drop t.depth (labels_at here)) (t.carried (operands_taken here))
    -- and so does the label of each clause of a `try_table`
    pub clauses :
        (j : ℕ) (c : Clause) → slice_get (row_at here).clauses j ≡ Some c →
        LabelAccepts cx (drop c.depth (labels_at here)) c.types
    -- an `if` without `else` gives the operands taken for its parameters as its results
    pub no_else :
        (h : Head) → here.op.form ≡ Opens h → IsTrue (is_if h.kind) → HasNoElse code here.place →
        AllBelow cx (take (length (params cx h)) (operands_taken here)) (results cx h)

  -- The machine is at an end, or the demand at its place holds. A run is stuck where this is false: an
  -- operand, a label, a set local or the operator itself is missing, or a type is wrong. It isn't read
  -- from an absence of steps, so an exception that could be caught hides nothing (the crate's own).
  abbrev pub IsNotStuck : Machine → Type 0
  IsNotStuck (At k [] set) = ⊥
  IsNotStuck (At k (l ∷ outer) set) =
      (op : Operator) × (slice_get code k ≡ Some op) × Demand (configuration k l outer set op)
  IsNotStuck (Returned types) = Unit {0}
  IsNotStuck Trapped = Unit {0}
  IsNotStuck LeftByException = Unit {0}
  IsNotStuck LeftBySuspension = Unit {0}

  -- ---- branches

  -- out of the label l, to the place after its closer, with these types
  abbrev pub Exits : Label → List Label → List ℕ → List ValType → Machine → Type 0
  Exits l outer set types next =
      (c : ℕ) × IsCloser code l.began c × (next ≡ machine_after_exit (suc c) types outer set)

  -- What a branch to the label l, with these labels outside it, comes to with these types: a loop
  -- begins again, another block is left, and from the outermost label the body returns
  -- (Specification, "Execution: Control Instructions", br, return).
  abbrev pub Arrives : Label → List Label → List ℕ → List ValType → Machine → Type 0
  Arrives l [] set types next = next ≡ Returned types
  Arrives l (o ∷ outer) set types next =
      MatchBool (is_loop l.head.kind)
      (next ≡ machine_after_restart l (o ∷ outer) set types)
      (Exits l (o ∷ outer) set types next)

  -- A branch to the first of these labels, with any types below those that are carried: the labels
  -- inside it and the other operands go.
  pub record Branches
      (labels : List Label) (set : List ℕ) (carried : List ValType) (next : Machine) : Type 0 where
    pub label : Label
    pub outer : List Label
    pub is : labels ≡ label ∷ outer
    pub types : List ValType
    pub below : AllBelow cx types carried
    pub arrives : Arrives label outer set types next

  -- ---- the outcomes of an operator whose demand holds: what each needs, and the state `next` to which
  -- it comes

  -- On at the next place: the operands that it takes go, and any types below those that it pushes come
  -- (Specification, "Execution: Instructions", each instruction that neither begins, ends nor leaves
  -- a block).
  pub record GoesOn (here : Configuration) (next : Machine) : Type 0 where
    pub stays : here.op.form ≡ Stays
    pub live : IsFalse (row_at here).ends_live
    pub pushed : List ValType
    pub pushes : pushed_types_at cx here ≡ Some (map Known pushed)
    pub types : List ValType
    pub below : AllBelow cx types pushed
    pub is : next ≡ At (suc here.place) (labels_with types here) (set_after (row_at here).sets here.set)

  -- Into what it opens, of an `if` into its first part, with any types below the parameters
  -- (Specification, "Execution: Control Instructions", block, loop, if, try_table; "Blocks": entering).
  pub record Enters (here : Configuration) (next : Machine) : Type 0 where
    pub head : Head
    pub opens : here.op.form ≡ Opens head
    pub types : List ValType
    pub below : AllBelow cx types (params cx head)
    pub is : next ≡ At (suc here.place) (labels_inside (opened_label here.place head types) here) here.set

  -- of an `if`, into the part after its `else` (Specification, "if")
  pub record EntersElse (here : Configuration) (next : Machine) : Type 0 where
    pub head : Head
    pub opens : here.op.form ≡ Opens head
    pub kind_is_if : IsTrue (is_if head.kind)
    pub place : ℕ
    pub is_its_else : IsDelimiter code here.place place BeginsElse
    pub types : List ValType
    pub below : AllBelow cx types (params cx head)
    pub is :
        next
        ≡ At (suc place) (labels_inside (opened_label place (head_with_kind Else head) types) here) here.set

  -- of an `if` without `else`, to the place after its closer, with any types below its results: the
  -- absent part is an empty one (Specification, "if")
  pub record SkipsIf (here : Configuration) (next : Machine) : Type 0 where
    pub head : Head
    pub opens : here.op.form ≡ Opens head
    pub kind_is_if : IsTrue (is_if head.kind)
    pub no_else : HasNoElse code here.place
    pub closer : ℕ
    pub is_its_closer : IsCloser code here.place closer
    pub types : List ValType
    pub below : AllBelow cx types (results cx head)
    pub is : next ≡ At (suc closer) (labels_with types here) here.set

  -- A branch to any label that its row names, with what the row carries there: a return too, or a
  -- handler of a resumed continuation (Specification, "br", "br_if", "br_table", "return").
  pub record Jumps (here : Configuration) (next : Machine) : Type 0 where
    pub stays : here.op.form ≡ Stays
    pub index : ℕ
    pub target : Target
    pub is_its_target : slice_get (row_at here).targets index ≡ Some target
    pub branches :
        Branches (drop target.depth (labels_at here)) here.set (target.carried (operands_taken here)) next

  -- the end of a block: on after it, with any types below its results (Specification, "Execution:
  -- Blocks": exiting)
  pub record Closes (here : Configuration) (next : Machine) : Type 0 where
    pub closes : IsTrue (is_closing_form here.op.form)
    pub types : List ValType
    pub below : AllBelow cx types (results cx here.label.head)
    pub is : next ≡ machine_after_exit (suc here.place) types here.outer here.set

  -- the end of a part that another part follows: on after the closer of the block, with such types
  pub record EndsPart (here : Configuration) (next : Machine) : Type 0 where
    pub separates : IsTrue (is_separator here.op.form)
    pub types : List ValType
    pub below : AllBelow cx types (results cx here.label.head)
    pub exits : Exits here.label here.outer here.set types next

  -- An exception, raised at any operator and caught by any clause of any open `try_table`: a branch to
  -- the clause's label, counted outside the `try_table` (Specification, "throw_ref").
  pub record Catches (here : Configuration) (next : Machine) : Type 0 where
    pub depth : ℕ
    pub label : Label
    pub outer : List Label
    pub is_open : drop depth (labels_at here) ≡ label ∷ outer
    pub kind_is_try_table : IsTrue (is_try_table label.head.kind)
    pub opener : Operator
    pub is_its_opener : slice_get code label.began ≡ Some opener
    pub index : ℕ
    pub clause : Clause
    pub is_its_clause : slice_get (row_in outer opener).clauses index ≡ Some clause
    pub branches : Branches (drop clause.depth outer) here.set clause.types next

  -- An exception, caught by any `catch` or `catch_all` of a label in its `try` part: into that part,
  -- with any types below the tag's parameters (legacy exceptions; `delegate` and `rethrow` are among
  -- these choices).
  pub record CatchesLegacy (here : Configuration) (next : Machine) : Type 0 where
    pub depth : ℕ
    pub label : Label
    pub outer : List Label
    pub is_open : drop depth (labels_at here) ≡ label ∷ outer
    pub kind_is_try : IsTrue (is_try label.head.kind)
    pub place : ℕ
    pub all : Bool
    pub caught : List ValType
    pub is_its_catch : IsDelimiter code label.began place (BeginsCatch all caught)
    pub types : List ValType
    pub below : AllBelow cx types caught
    pub is :
        next
        ≡ At (suc place) (opened_label place (head_with_kind (catch_kind all) label.head) types ∷ outer)
        here.set

  -- Any outcome that applies may come: this over-approximates which way a test goes, what is thrown
  -- where, and what traps. The last five may come at any operator.
  pub data Outcome (here : Configuration) (next : Machine) : Type 0 where
    goes_on : GoesOn here next → Outcome here next
    enters : Enters here next → Outcome here next
    enters_else : EntersElse here next → Outcome here next
    skips_if : SkipsIf here next → Outcome here next
    jumps : Jumps here next → Outcome here next
    closes : Closes here next → Outcome here next
    ends_part : EndsPart here next → Outcome here next
    catches : Catches here next → Outcome here next
    catches_legacy : CatchesLegacy here next → Outcome here next
    traps : next ≡ Trapped → Outcome here next
    raises : next ≡ LeftByException → Outcome here next
    suspends : next ≡ LeftBySuspension → Outcome here next

  -- ---- steps and runs

  -- an outcome of the operator at the machine's place, where its demand holds; an end takes no step
  abbrev pub Step : Machine → Machine → Type 0
  Step (At k (l ∷ outer) set) next =
      (op : Operator) × (slice_get code k ≡ Some op) × Demand (configuration k l outer set op)
      × Outcome (configuration k l outer set op) next
  Step _ next = ⊥

  -- n steps
  abbrev pub Run : ℕ → Machine → Machine → Type 0
  Run zero m next = m ≡ next
  Run (suc n) m next = (mid : Machine) × Run n m mid × Step mid next
