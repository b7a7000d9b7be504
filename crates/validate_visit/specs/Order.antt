-- Which lists of operators are well ordered (WebAssembly core specification, "Control
-- Instructions"; the parts of a legacy `try` are those of the legacy exceptions). This is a property of
-- what each operator does to the open parts.
use Rattle.std.specs.Prelude.{Bool, true, false, ◌&&◌, Option, Some, None, List, [], ◌∷◌, map}
use Rattle.validate_visit.specs.declared.frame.FrameKind.{FrameKind}
use Rattle.validate_visit.specs.declared.frame.FrameKind.TheVariants.{Block, Loop, If, Else, TryTable}
use Rattle.validate_visit.specs.declared.frame.FrameKind.TheVariants.{LegacyTry, LegacyCatch, LegacyCatchAll}
use Rattle.validate_visit.specs.declared.op.Op.{Op}
use Rattle.validate_visit.specs.declared.op.Op.TheVariants.{Control, Numeric, Convert, Memory, Atomic}
use Rattle.validate_visit.specs.declared.op.Op.TheVariants.{Reference, Table, Struct, Array, Exception}
use Rattle.validate_visit.specs.declared.op.Op.TheVariants.{Continuation}
use Rattle.validate_visit.specs.declared.op.Op.TheVariants.{Shared}
use Rattle.validate_visit.specs.declared.op.ControlOp.{ControlOp}
use Rattle.validate_visit.specs.declared.op.ControlOp.TheVariants.{Block as BlockOp, Loop as LoopOp}
use Rattle.validate_visit.specs.declared.op.ControlOp.TheVariants.{If as IfOp, Else as ElseOp, End}
use Rattle.validate_visit.specs.declared.op.ExceptionOp.{ExceptionOp}
use Rattle.validate_visit.specs.declared.op.ExceptionOp.TheVariants.{TryTable as TryTableOp, Try, Catch}
use Rattle.validate_visit.specs.declared.op.ExceptionOp.TheVariants.{CatchAll, Delegate}

-- What an operator does to the open parts. A `catch` begins another part, a `catch_all` too (`all`).
pub data Nesting : Type 0 where
  Stays : Nesting
  Opens : (kind : FrameKind) → Nesting
  BeginsElse : Nesting
  BeginsCatch : (all : Bool) → Nesting
  Ends : Nesting
  Delegates : Nesting

-- an operator that opens a part
abbrev pub is_part_opener : Nesting → Bool
is_part_opener (Opens kind) = true
is_part_opener _ = false

-- an operator that closes the innermost part
abbrev pub is_part_closer : Nesting → Bool
is_part_closer Ends = true
is_part_closer Delegates = true
is_part_closer _ = false

-- an operator that may stand in any part
abbrev pub may_stand_anywhere : Nesting → Bool
may_stand_anywhere BeginsElse = false
may_stand_anywhere (BeginsCatch all) = false
may_stand_anywhere Delegates = false
may_stand_anywhere _ = true

-- the first part of an `if`
abbrev pub is_if : FrameKind → Bool
is_if If = true
is_if _ = false

-- the body of a legacy `try`
abbrev pub is_try : FrameKind → Bool
is_try LegacyTry = true
is_try _ = false

-- a part after which a `catch` or `catch_all` may stand
abbrev pub may_catch : FrameKind → Bool
may_catch LegacyTry = true
may_catch LegacyCatch = true
may_catch _ = false

-- the kind of the part that a `catch` begins, or a `catch_all`
abbrev pub catch_kind : Bool → FrameKind
catch_kind true = LegacyCatchAll
catch_kind false = LegacyCatch

-- the kind of the part that an operator begins, if it begins one
abbrev pub part_begun : Nesting → Option FrameKind
part_begun (Opens kind) = Some kind
part_begun BeginsElse = Some Else
part_begun (BeginsCatch all) = Some (catch_kind all)
part_begun _ = None

-- ---- reading one operator where these parts are open, the innermost first

-- it may stand there
abbrev pub may_stand : List FrameKind → Nesting → Bool
may_stand [] n = false
may_stand (k ∷ ks) BeginsElse = is_if k
may_stand (k ∷ ks) (BeginsCatch all) = may_catch k
may_stand (k ∷ ks) Delegates = is_try k
may_stand (k ∷ ks) _ = true

abbrev pub outer_parts : List FrameKind → List FrameKind
outer_parts [] = []
outer_parts (k ∷ ks) = ks

-- the innermost part, followed by its next one of this kind
abbrev pub with_innermost_kind : FrameKind → List FrameKind → List FrameKind
with_innermost_kind j [] = []
with_innermost_kind j (k ∷ ks) = j ∷ ks

-- the open parts after it
abbrev pub parts_after : List FrameKind → Nesting → List FrameKind
parts_after ks Stays = ks
parts_after ks (Opens kind) = kind ∷ ks
parts_after ks BeginsElse = with_innermost_kind Else ks
parts_after ks (BeginsCatch all) = with_innermost_kind (catch_kind all) ks
parts_after ks Ends = outer_parts ks
parts_after ks Delegates = outer_parts ks

-- each operator may stand where the parts are open that those before it leave
abbrev pub is_ordered_from : List FrameKind → List Nesting → Bool
is_ordered_from ks [] = true
is_ordered_from ks (n ∷ ns) = may_stand ks n && is_ordered_from (parts_after ks n) ns

abbrev pub control_nesting : ControlOp → Nesting
control_nesting (BlockOp bt) = Opens Block
control_nesting (LoopOp bt) = Opens Loop
control_nesting (IfOp bt) = Opens If
control_nesting ElseOp = BeginsElse
control_nesting End = Ends
control_nesting _ = Stays

abbrev pub exception_nesting : ExceptionOp → Nesting
exception_nesting (TryTableOp table) = Opens TryTable
exception_nesting (Try bt) = Opens LegacyTry
exception_nesting (Catch tag) = BeginsCatch false
exception_nesting CatchAll = BeginsCatch true
exception_nesting (Delegate d) = Delegates
exception_nesting _ = Stays

-- what each operator does to the open parts
abbrev pub nesting : Op → Nesting
nesting (Control op) = control_nesting op
nesting (Numeric op) = Stays
nesting (Convert op) = Stays
nesting (Memory op) = Stays
nesting (Atomic op) = Stays
nesting (Reference op) = Stays
nesting (Table op) = Stays
nesting (Struct op) = Stays
nesting (Array op) = Stays
nesting (Exception op) = exception_nesting op
nesting (Continuation op) = Stays
nesting (Shared op) = Stays

-- Reading from an open outermost frame: openers nest, `else` stands in an `if` part, `catch` and
-- `catch_all` in a `try` or `catch` part, `delegate` closes a `try` part, `end` closes any, and nothing
-- follows the outermost `end`. The list may stop early.
abbrev pub is_well_ordered_list : List Op → Bool
is_well_ordered_list ops = is_ordered_from (Block ∷ []) (map nesting ops)
