-- Operators one behind another (WebAssembly core specification, "Binary Format: Instructions",
-- "Expressions"). The `end` of an expression is an operator here.
use Rattle.std.specs.Prelude.{◌≡◌, ℕ, List, [], ◌∷◌, Some}
use Rattle.binary_operators.specs.Instructions.{operator}
use Rattle.binary_operators.specs.declared.types.CanonicalTypes.{CanonicalTypes}
use Rattle.validate_visit.specs.declared.op.Op.{Op}

-- the bytes begin with exactly these operators, and these bytes are behind them
abbrev pub AreOperators : CanonicalTypes → List ℕ → List Op → List ℕ → Type 0
AreOperators types bytes [] rest = bytes ≡ rest
AreOperators types bytes (op ∷ ops) rest =
    (behind : List ℕ) × (operator types bytes ≡ Some (op, behind)) × AreOperators types behind ops rest
