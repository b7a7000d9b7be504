-- Operators on numbers of one type, and conversions, by their codes (WebAssembly core specification, "Binary
-- Format: Instructions", "Numeric Instructions"): each list has the operators of codes that follow one
-- another.
use Rattle.std.specs.Prelude.{List, [], ◌∷◌, ◌++◌}
use Rattle.validate_visit.specs.declared.op.NumericOp.{NumericOp}
use Rattle.validate_visit.specs.declared.op.ConvertOp.{ConvertOp}
use Rattle.validate_visit.specs.declared.op.NumericOp.TheVariants.{Eqz, IntegerUnary, IntegerBinary}
use Rattle.validate_visit.specs.declared.op.NumericOp.TheVariants.{IntegerComparison, FloatUnary, FloatBinary}
use Rattle.validate_visit.specs.declared.op.NumericOp.TheVariants.{FloatComparison}
use Rattle.validate_visit.specs.declared.op.ConvertOp.TheVariants.{Wrap, Extend, ExtendPacked, Trunc}
use Rattle.validate_visit.specs.declared.op.ConvertOp.TheVariants.{Convert as FromInteger, Demote, Promote}
use Rattle.validate_visit.specs.declared.op.ConvertOp.TheVariants.{Reinterpret}
use Rattle.validate_visit.specs.declared.numbers.IntegerType.{IntegerType}
use Rattle.validate_visit.specs.declared.numbers.IntegerType.TheVariants.{I32 as W32, I64 as W64}
use Rattle.validate_visit.specs.declared.numbers.FloatType.{FloatType}
use Rattle.validate_visit.specs.declared.numbers.FloatType.TheVariants.{F32 as R32, F64 as R64}
use Rattle.validate_visit.specs.declared.numbers.NumberType.TheVariants.{I32, I64, F32, F64}
use Rattle.validate_visit.specs.declared.numbers.PackedInteger.TheVariants.{I32Bits8, I32Bits16, I64Bits8}
use Rattle.validate_visit.specs.declared.numbers.PackedInteger.TheVariants.{I64Bits16, I64Bits32}
use Rattle.validate_visit.specs.declared.numbers.Sign.TheVariants.{Signed, Unsigned}
use Rattle.validate_visit.specs.declared.numeric.IntegerUnaryOp.TheVariants.{Clz, Ctz, Popcnt}
use Rattle.validate_visit.specs.declared.numeric.IntegerBinaryOp.TheVariants.{Add, Sub, Mul, Div, Rem, And}
use Rattle.validate_visit.specs.declared.numeric.IntegerBinaryOp.TheVariants.{Or, Xor, Shl, Shr, Rotl, Rotr}
use Rattle.validate_visit.specs.declared.numeric.IntegerComparisonOp.TheVariants.{Eq, Ne, Lt, Gt, Le, Ge}
use Rattle.validate_visit.specs.declared.numeric.FloatUnaryOp.TheVariants.{Abs, Neg, Ceil, Floor, Nearest}
use Rattle.validate_visit.specs.declared.numeric.FloatUnaryOp.TheVariants.{Sqrt, Trunc as Truncate}
use Rattle.validate_visit.specs.declared.numeric.FloatBinaryOp.TheVariants.{Add as AddF, Sub as SubF}
use Rattle.validate_visit.specs.declared.numeric.FloatBinaryOp.TheVariants.{Mul as MulF, Div as DivF, Min}
use Rattle.validate_visit.specs.declared.numeric.FloatBinaryOp.TheVariants.{Max, Copysign}
use Rattle.validate_visit.specs.declared.numeric.FloatComparisonOp.TheVariants.{Eq as EqF, Ne as NeF}
use Rattle.validate_visit.specs.declared.numeric.FloatComparisonOp.TheVariants.{Lt as LtF, Gt as GtF}
use Rattle.validate_visit.specs.declared.numeric.FloatComparisonOp.TheVariants.{Le as LeF, Ge as GeF}

-- from code 0x45 on, of 32 bits, and from code 0x50 on, of 64
abbrev pub integer_comparisons : IntegerType → List NumericOp
integer_comparisons ty =
    Eqz ty ∷ IntegerComparison ty Eq ∷ IntegerComparison ty Ne
    ∷ IntegerComparison ty (Lt Signed) ∷ IntegerComparison ty (Lt Unsigned)
    ∷ IntegerComparison ty (Gt Signed) ∷ IntegerComparison ty (Gt Unsigned)
    ∷ IntegerComparison ty (Le Signed) ∷ IntegerComparison ty (Le Unsigned)
    ∷ IntegerComparison ty (Ge Signed) ∷ IntegerComparison ty (Ge Unsigned) ∷ []

-- from codes 0x5b and 0x61 on
abbrev pub float_comparisons : FloatType → List NumericOp
float_comparisons ty =
    FloatComparison ty EqF ∷ FloatComparison ty NeF ∷ FloatComparison ty LtF ∷ FloatComparison ty GtF
    ∷ FloatComparison ty LeF ∷ FloatComparison ty GeF ∷ []

-- from codes 0x67 and 0x79 on
abbrev pub integer_ops : IntegerType → List NumericOp
integer_ops ty =
    IntegerUnary ty Clz ∷ IntegerUnary ty Ctz ∷ IntegerUnary ty Popcnt
    ∷ IntegerBinary ty Add ∷ IntegerBinary ty Sub ∷ IntegerBinary ty Mul
    ∷ IntegerBinary ty (Div Signed) ∷ IntegerBinary ty (Div Unsigned)
    ∷ IntegerBinary ty (Rem Signed) ∷ IntegerBinary ty (Rem Unsigned)
    ∷ IntegerBinary ty And ∷ IntegerBinary ty Or ∷ IntegerBinary ty Xor ∷ IntegerBinary ty Shl
    ∷ IntegerBinary ty (Shr Signed) ∷ IntegerBinary ty (Shr Unsigned)
    ∷ IntegerBinary ty Rotl ∷ IntegerBinary ty Rotr ∷ []

-- from codes 0x8b and 0x99 on
abbrev pub float_ops : FloatType → List NumericOp
float_ops ty =
    FloatUnary ty Abs ∷ FloatUnary ty Neg ∷ FloatUnary ty Ceil ∷ FloatUnary ty Floor ∷ FloatUnary ty Truncate
    ∷ FloatUnary ty Nearest ∷ FloatUnary ty Sqrt
    ∷ FloatBinary ty AddF ∷ FloatBinary ty SubF ∷ FloatBinary ty MulF ∷ FloatBinary ty DivF
    ∷ FloatBinary ty Min ∷ FloatBinary ty Max ∷ FloatBinary ty Copysign ∷ []

-- from code 0x45 on
unfoldable pub numeric_ops : List NumericOp
numeric_ops =
    integer_comparisons W32 ++ integer_comparisons W64 ++ float_comparisons R32 ++ float_comparisons R64
    ++ integer_ops W32 ++ integer_ops W64 ++ float_ops R32 ++ float_ops R64

-- from code 0xa7 on
unfoldable pub conversion_ops : List ConvertOp
conversion_ops =
    Wrap
    ∷ Trunc W32 R32 Signed ∷ Trunc W32 R32 Unsigned ∷ Trunc W32 R64 Signed ∷ Trunc W32 R64 Unsigned
    ∷ Extend Signed ∷ Extend Unsigned
    ∷ Trunc W64 R32 Signed ∷ Trunc W64 R32 Unsigned ∷ Trunc W64 R64 Signed ∷ Trunc W64 R64 Unsigned
    ∷ FromInteger R32 W32 Signed ∷ FromInteger R32 W32 Unsigned
    ∷ FromInteger R32 W64 Signed ∷ FromInteger R32 W64 Unsigned ∷ Demote
    ∷ FromInteger R64 W32 Signed ∷ FromInteger R64 W32 Unsigned
    ∷ FromInteger R64 W64 Signed ∷ FromInteger R64 W64 Unsigned ∷ Promote
    ∷ Reinterpret I32 ∷ Reinterpret I64 ∷ Reinterpret F32 ∷ Reinterpret F64
    ∷ ExtendPacked I32Bits8 ∷ ExtendPacked I32Bits16
    ∷ ExtendPacked I64Bits8 ∷ ExtendPacked I64Bits16 ∷ ExtendPacked I64Bits32 ∷ []
