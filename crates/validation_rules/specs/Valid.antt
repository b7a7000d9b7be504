-- A state whose types are valid: the premise of every visit, which every step keeps (the crate's own;
-- the standard states validity of a context once, outside its algorithm).
use Rattle.std.specs.Prelude.{◌≡◌, ℕ, Bool, true, List, Some, is_some}
use Rattle.std.specs.List.{AllByRecursion}
use Rattle.validate_resources.specs.Context.{Valid, signature_of}
use Rattle.validate_visit.specs.declared.op.Op.{Op}
use Rattle.validation_rules.specs.Context.{ModuleContext, SubType, ValType, BlockType, Empty, Val, FuncType}
use Rattle.validation_rules.specs.Context.{Context}
use Rattle.validation_rules.specs.Fits.{MaybeType, Bottom, UnknownRef, Known}
use Rattle.validation_rules.specs.Static.{Frame, State, step}
use Rattle.validation_rules.specs.Operators.{operator}

-- an operand's type, where it is known, is valid
abbrev pub IsValidOperand : ModuleContext → MaybeType → Type 0
IsValidOperand md Bottom = Unit {0}
IsValidOperand md (UnknownRef a) = Unit {0}
IsValidOperand md (Known t) = Valid md t

-- the type that a block type names is there and is one of functions, and shared in a shared function
pub record Resolves (md : ModuleContext) (shared : Bool) (i : ℕ) : Type 0 where
  pub type : SubType
  pub is_there : md.type_at i ≡ Some type
  pub is_func : is_some (signature_of type) ≡ true
  pub is_shared : shared ≡ true → type.composite_type.shared ≡ true

abbrev pub IsValidBlock : ModuleContext → Bool → BlockType → Type 0
IsValidBlock md shared Empty = Unit {0}
IsValidBlock md shared (Val t) = Valid md t
IsValidBlock md shared (FuncType i) = Resolves md shared i

pub record IsValidFrame (md : ModuleContext) (shared : Bool) (f : Frame) : Type 0 where
  pub block : IsValidBlock md shared f.head.block_type
  pub operands : AllByRecursion (IsValidOperand md) f.operands

-- the open frames' block types resolve, and the locals, the operands and what is left are valid
pub record IsValidState
    (md : ModuleContext) (shared : Bool) (locals : List ValType) (s : State) : Type 0 where
  pub locals_valid : AllByRecursion (Valid md) locals
  pub frames : AllByRecursion (IsValidFrame md shared) s.frames
  pub left : AllByRecursion (IsValidOperand md) s.left

-- a state of a body in this context
abbrev pub IsValidStateIn : Context → State → Type 0
IsValidStateIn cx s = IsValidState cx.of_module cx.shared cx.locals s

-- In every context over the module, each step by an operator of the table keeps a valid state.
abbrev pub RowsKeepValid : ModuleContext → Type 0
RowsKeepValid md =
    (cx : Context) (op : Op) (s u : State) → cx.of_module ≡ md → IsValidStateIn cx s →
    step cx (operator cx op) s ≡ Some u → IsValidStateIn cx u
