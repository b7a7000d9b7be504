-- What the proof of type safety asks of an operator's row, and the law for lists of such operators.
-- `Table` proves it of each operator of the table, so no contract has it as a premise.
use Rattle.std.specs.Prelude.{◌≡◌, ℕ, true, false, List, [], ◌∷◌, Some, length, map, take, drop, slice_get}
use Rattle.validate_resources.specs.Context.{IsLawful}
use Rattle.validation_rules.specs.Context.{ValType, BlockType, Context, AllBelow}
use Rattle.validation_rules.specs.Fits.{MaybeType, Known}
use Rattle.validation_rules.specs.Rows.{Head, params, Opens, InstructionType, Target, Row, Operator, is_if, is_instruction, label_types, pushed_for}
use Rattle.validation_rules.specs.Static.{start, IsAccepted}
use Rattle.type_safety.specs.Theorem.{IsTypeSafe}

-- Operands xs that pass leave known types, and operands ys below them pass too and leave types below
-- those: whatever lies below what is pushed for ys lies below what is pushed for xs.
pub record IsMonotoneAt (cx : Context) (operands : InstructionType) (xs ys : List ValType) (pushed : List MaybeType) : Type 0 where
  pub upper : List ValType
  pub lower : List ValType
  pub known : pushed ≡ map Known upper
  pub passes : pushed_for cx operands (map Known ys) ≡ Some (map Known lower)
  pub below : (us : List ValType) → AllBelow cx us lower → AllBelow cx us upper

-- the first of these labels exists, and the types are below its own
abbrev pub HeadAccepts : Context → List Head → List ValType → Type 0
HeadAccepts cx [] types = ⊥
HeadAccepts cx (h ∷ hs) types = AllBelow cx types (label_types cx h)

-- a row of an operator that neither opens nor closes a frame, or opens one
pub record IsLawfulRow (cx : Context) (hs : List Head) (row : Row) : Type 0 where
  pub monotone :
      (xs ys : List ValType) (pushed : List MaybeType) → AllBelow cx ys xs →
      pushed_for cx row.type (map Known xs) ≡ Some pushed → IsMonotoneAt cx row.type xs ys pushed
  -- operands that pass fit the labels to which they are carried
  pub reaches :
      (ys : List ValType) (pushed : List MaybeType) → row.premise ≡ true →
      pushed_for cx row.type (map Known ys) ≡ Some pushed →
      (j : ℕ) (t : Target) → slice_get row.targets j ≡ Some t → HeadAccepts cx (drop t.depth hs) (t.carried ys)

pub record IsLawfulOperator (cx : Context) (op : Operator) : Type 0 where
  pub row : (hs : List Head) → IsLawfulRow cx hs (op.row hs)
  -- a delimiter reaches no label
  pub closing :
      (hs : List Head) → is_instruction op.form ≡ false → ((op.row hs).targets ≡ []) × ((op.row hs).clauses ≡ [])
  -- an opener reaches no label by itself
  pub opening : (hs : List Head) (h : Head) → op.form ≡ Opens h → (op.row hs).targets ≡ []
  -- the operands of an `if` are its parameters and a condition
  pub takes_params :
      (hs : List Head) (h : Head) (ys : List ValType) (pushed : List MaybeType) → op.form ≡ Opens h →
      is_if h.kind ≡ true → pushed_for cx (op.row hs).type (map Known ys) ≡ Some pushed →
      AllBelow cx (take (length (params cx h)) ys) (params cx h)

-- For every lawful order, and every body and its type: where all rows hold up to the outermost
-- `end`, the body is safe.
abbrev pub TypeSafety : Type 0
TypeSafety =
    (cx : Context) (code : List Operator) (ty : BlockType) → IsLawful cx.of_module →
    ((j : ℕ) (op : Operator) → slice_get code j ≡ Some op → IsLawfulOperator cx op) →
    IsAccepted cx code (start ty) → IsTypeSafe cx code ty
