-- The rows of operators on numbers (WebAssembly core specification, "Validation: Numeric Instructions").
use Rattle.validate_visit.specs.Numbers.{integer_type, float_type}
use Rattle.validate_visit.specs.declared.op.NumericOp.{NumericOp}
use Rattle.validate_visit.specs.declared.op.NumericOp.TheVariants.{I32Const, I64Const, F32Const, F64Const}
use Rattle.validate_visit.specs.declared.op.NumericOp.TheVariants.{Eqz, IntegerUnary, IntegerBinary}
use Rattle.validate_visit.specs.declared.op.NumericOp.TheVariants.{IntegerComparison, FloatUnary}
use Rattle.validate_visit.specs.declared.op.NumericOp.TheVariants.{FloatBinary, FloatComparison, Add128}
use Rattle.validate_visit.specs.declared.op.NumericOp.TheVariants.{Sub128, MulWide}
use Rattle.validation_rules.specs.Context.{I32, I64, F32, F64}
use Rattle.validation_rules.specs.Rows.{Row}
use Rattle.validation_rules.specs.Shapes.{binary_row, wide_binary_row, comparison_row, constant_row}
use Rattle.validation_rules.specs.Shapes.{wide_multiply_row, test_row, unary_row}

abbrev pub numeric_row : NumericOp → Row
numeric_row (I32Const x) = constant_row I32
numeric_row (I64Const x) = constant_row I64
numeric_row (F32Const x) = constant_row F32
numeric_row (F64Const x) = constant_row F64
numeric_row (Eqz t) = test_row (integer_type t)
numeric_row (IntegerUnary t op) = unary_row (integer_type t)
numeric_row (IntegerBinary t op) = binary_row (integer_type t)
numeric_row (IntegerComparison t op) = comparison_row (integer_type t)
numeric_row (FloatUnary t op) = unary_row (float_type t)
numeric_row (FloatBinary t op) = binary_row (float_type t)
numeric_row (FloatComparison t op) = comparison_row (float_type t)
numeric_row Add128 = wide_binary_row
numeric_row Sub128 = wide_binary_row
numeric_row (MulWide sign) = wide_multiply_row
