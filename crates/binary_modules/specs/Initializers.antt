-- Constant expressions in the bytes of a module (WebAssembly core specification, "Binary Format:
-- Instructions", "Expressions", and "Vector Instructions" for vector constants).
use Rattle.std.specs.Prelude.{◌++◌, ℕ, zero, suc, ◌+◌, ◌-◌, List, [], ◌∷◌, length, take}
use Rattle.std.specs.Prelude.{Option, Some, None, nat_eq, if◌then◌else◌}
use Rattle.binary_operators.specs.Instructions.{operator}
use Rattle.binary_operators.specs.Integers.{unsigned}
use Rattle.binary_operators.specs.Values.{◌>>=◌}
use Rattle.binary_operators.specs.declared.types.CanonicalTypes.{CanonicalTypes}
use Rattle.validate_visit.specs.declared.op.ControlOp.TheVariants.{Block, Loop, If, End}
use Rattle.validate_visit.specs.declared.op.ExceptionOp.TheVariants.{TryTable, Try, Delegate}
use Rattle.validate_visit.specs.declared.op.Op.{Op}
use Rattle.validate_visit.specs.declared.op.Op.TheVariants.{Control, Exception, Reference}
use Rattle.validate_visit.specs.declared.op.ReferenceOp.TheVariants.{RefFunc}
use Rattle.binary_modules.specs.Parts.{so_many_bytes}

-- a constant of the vector type: its code, behind its prefix, and sixteen bytes
unfoldable pub vector_constant : List ℕ → Option (List ℕ)
vector_constant bytes = do
  code ← unsigned 32 bytes
  if nat_eq code.0 12 then (do
    bits ← so_many_bytes 16 code.1
    Some bits.1) else None

abbrev pub of_operator : Option (Op × List ℕ) → Option (Option Op × List ℕ)
of_operator None = None
of_operator (Some op) = Some (Some op.0, op.1)

abbrev pub of_constant : Option (List ℕ) → Option (Option Op × List ℕ)
of_constant None = None
of_constant (Some bytes) = Some (None, bytes)

-- an operator, or a constant of the vector type, which is none of the operators here
unfoldable pub piece : CanonicalTypes → List ℕ → Option (Option Op × List ℕ)
piece types [] = None
piece types (code ∷ bytes) =
    if nat_eq code 0xfd then of_constant (vector_constant bytes)
    else of_operator (operator types (code ∷ bytes))

-- where so many parts are open before it, how many are behind it, or None where it ends the outermost one
abbrev pub closed : ℕ → Option ℕ
closed zero = None
closed (suc depth) = Some depth

abbrev pub depth_behind : ℕ → Option Op → Option ℕ
depth_behind depth (Some (Control (Block ty))) = Some (depth + 1)
depth_behind depth (Some (Control (Loop ty))) = Some (depth + 1)
depth_behind depth (Some (Control (If ty))) = Some (depth + 1)
depth_behind depth (Some (Control End)) = closed depth
depth_behind depth (Some (Exception (TryTable table))) = Some (depth + 1)
depth_behind depth (Some (Exception (Try ty))) = Some (depth + 1)
depth_behind depth (Some (Exception (Delegate label))) = closed depth
depth_behind depth op = Some depth

-- the function that it names by `ref.func`, if it does
abbrev pub named : Option Op → List ℕ
named (Some (Reference (RefFunc function))) = function ∷ []
named op = []

abbrev pub or_end : Option ℕ → (ℕ → Option (List ℕ × List ℕ)) → List ℕ → Option (List ℕ × List ℕ)
or_end None further bytes = Some ([], bytes)
or_end (Some depth) further bytes = further depth

-- The functions that are named from here up to the end of an expression in which so many parts are open, and
-- the bytes behind it. It has no more operators than bytes.
abbrev pub named_functions : ℕ → CanonicalTypes → ℕ → List ℕ → Option (List ℕ × List ℕ)
named_functions zero types depth bytes = None
named_functions (suc most) types depth bytes = do
  op ← piece types bytes
  others ← or_end (depth_behind depth op.0) (λ behind. named_functions most types behind op.1) op.1
  Some (named op.0 ++ others.0, others.1)

-- a constant expression: its bytes, and the functions that it names
pub record Expression : Type 0 where
  pub bytes : List ℕ
  pub functions : List ℕ

unfoldable pub expression : CanonicalTypes → List ℕ → Option (Expression × List ℕ)
expression types bytes = do
  functions ← named_functions (length bytes) types 0 bytes
  Some (
    record { bytes = take (length bytes - length functions.1) bytes; functions = functions.0 },
    functions.1,
  )
