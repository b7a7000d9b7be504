-- The body of a function (WebAssembly core specification, "Binary Format: Modules", "Code Section").
use Rattle.std.specs.Prelude.{◌≡◌, ℕ, List, [], Option, Some}
use Rattle.binary_operators.specs.Expressions.{AreOperators}
use Rattle.binary_operators.specs.Integers.{unsigned}
use Rattle.binary_operators.specs.Types.{value_type}
use Rattle.binary_operators.specs.Values.{◌>>=◌, list_of}
use Rattle.binary_operators.specs.declared.types.CanonicalTypes.{CanonicalTypes}
use Rattle.validate_types.specs.declared.types.ValType.{ValType}
use Rattle.validate_visit.specs.declared.op.Op.{Op}

-- so many locals of one type
abbrev pub locals : CanonicalTypes → List ℕ → Option ((ℕ × ValType) × List ℕ)
locals types bytes = do
  count ← unsigned 32 bytes
  ty ← value_type types count.1
  Some ((count.0, ty.0), ty.1)

-- the bytes are those of a function that has these locals and these operators, and no others
pub record IsFunctionCode
    (types : CanonicalTypes) (bytes : List ℕ) (groups : List (ℕ × ValType)) (ops : List Op) : Type 0 where
  pub behind : List ℕ
  pub has_locals : list_of (locals types) bytes ≡ Some (groups, behind)
  pub has_operators : AreOperators types behind ops []
