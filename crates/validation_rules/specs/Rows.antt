-- How an operator is described: its form, which says what it does to the frames, and its row, the
-- entry of the table of operators at the open frames. The rules know no operator by name. (The forms are
-- those of the WebAssembly core specification, "Control Instructions", and of the legacy
-- exceptions; rows as data are the crate's own.)
pub use Rattle.validate_visit.specs.declared.frame.FrameKind.{FrameKind}
pub use Rattle.validate_visit.specs.declared.frame.FrameKind.TheVariants.{Block, If, Else, Loop, TryTable}
pub use Rattle.validate_visit.specs.declared.frame.FrameKind.TheVariants.{LegacyTry, LegacyCatch}
pub use Rattle.validate_visit.specs.declared.frame.FrameKind.TheVariants.{LegacyCatchAll}
pub use Rattle.validate_visit.specs.Order.{is_if, is_try, may_catch, catch_kind}
use Rattle.std.specs.Prelude.{ℕ, Bool, true, false, List, ◌∷◌, Option, Some, None, length, map}
use Rattle.std.specs.Prelude.{if◌then◌else◌}
use Rattle.std.specs.List.{list_all}
use Rattle.validation_rules.specs.Context.{ValType, BlockType, Context, block_signature}
use Rattle.validation_rules.specs.Fits.{MaybeType, Known, all_fit}

-- what a frame of the validator and a label of the machine have in common: its kind and its block type
-- (Specification, appendix "Validation Algorithm": ctrl_frame)
pub record Head : Type 0 where
  pub kind : FrameKind
  pub block_type : BlockType

-- what it takes and gives (Specification, "Block Types")
abbrev pub params : Context → Head → List ValType
params cx h = (block_signature cx.of_module h.block_type).params

abbrev pub results : Context → Head → List ValType
results cx h = (block_signature cx.of_module h.block_type).results

-- the outermost frame of a body, whose parameters are locals
abbrev pub body_head : BlockType → Head
body_head ty = record { kind = Block; block_type = ty }

abbrev pub is_loop : FrameKind → Bool
is_loop Loop = true
is_loop _ = false

abbrev pub is_try_table : FrameKind → Bool
is_try_table TryTable = true
is_try_table _ = false

-- the types that a branch to the label carries: the parameters for a loop, else the results
-- (Specification, appendix "Validation Algorithm": label_types)
abbrev pub label_types : Context → Head → List ValType
label_types cx h = if is_loop h.kind then params cx h else results cx h

-- What an operator does to the open frames: nothing, opens one, begins its next part, or closes it.
-- A `catch` or `catch_all` has the types that the part which it begins starts with. (`Nesting` of an operator
-- as data says the same of the parts of a list, without heads and types, and so in the same words.)
pub data Form : Type 0 where
  Stays : Form
  Opens : (head : Head) → Form
  BeginsElse : Form
  BeginsCatch : (all : Bool) (types : List ValType) → Form
  Ends : Form
  Delegates : Form

-- What an operator wants and pushes (Specification, "Validation: Types", instruction types). A plain
-- row has the expected types, the last on top, more lists that the same operands have to fit
-- (`br_table`), and the pushed types. A looking row takes so many operands, and says which pass and
-- what is pushed for them.
pub data InstructionType : Type 0 where
  Plain : (expected : List ValType) (also : List (List ValType)) (pushed : List ValType) → InstructionType
  Looks : (count : ℕ) (gives : List MaybeType → Option (List MaybeType)) → InstructionType

-- a label that the operator may branch to, counted from the innermost, and the types that the
-- branch carries there, from the operands that the operator took
pub record Target : Type 0 where
  pub depth : ℕ
  pub carried : List ValType → List ValType

-- a clause of `try_table`: a label, counted outside its own frame, and what is carried there
-- (Specification, "Control Instructions", try_table)
pub record Clause : Type 0 where
  pub depth : ℕ
  pub types : List ValType

-- what an operator needs and does (Specification, "Validation: Instructions")
pub record Row : Type 0 where
  -- the gate and the premises that don't depend on operands or on which locals are set
  pub premise : Bool
  -- a local that has to be set
  pub reads : Option ℕ
  pub type : InstructionType
  -- a local that is set
  pub sets : Option ℕ
  pub targets : List Target
  pub clauses : List Clause
  -- the operator ends the live part of its frame
  pub ends_live : Bool

pub record Operator : Type 0 where
  pub form : Form
  -- the row, given the heads of the open frames, the innermost first
  pub row : List Head → Row

-- how many operands it takes
abbrev pub expected_count : InstructionType → ℕ
expected_count (Plain expected also pushed) = length expected
expected_count (Looks n gives) = n

-- the found operands, taken whole, fit each of the lists
abbrev pub all_fit_each : Context → List MaybeType → List (List ValType) → Bool
all_fit_each cx found lists = list_all (all_fit cx found) lists

-- x where the test holds
abbrev pub guard : {A : Type 0} → Bool → Option A → Option A
guard true x = x
guard false x = None

-- what is pushed for the found operands, if they pass
abbrev pub pushed_for : Context → InstructionType → List MaybeType → Option (List MaybeType)
pushed_for cx (Plain expected also pushed) found =
    guard (all_fit_each cx found (expected ∷ also)) (Some (map Known pushed))
pushed_for cx (Looks n looked) found = looked found

-- an instruction, and not one of the pseudo-instructions that delimit a block (Specification,
-- "Structure: Control Instructions")
abbrev pub is_instruction : Form → Bool
is_instruction Stays = true
is_instruction (Opens h) = true
is_instruction _ = false
