-- The types of values that operators on numbers name (WebAssembly core specification, "Number Types"
-- and "Numeric Instructions").
use Rattle.validate_types.specs.declared.types.ValType.{ValType}
use Rattle.validate_types.specs.declared.types.ValType.TheVariants.{I32, I64, F32, F64}
use Rattle.validate_visit.specs.declared.memory.AtomicAccess.{AtomicAccess}
use Rattle.validate_visit.specs.declared.memory.AtomicAccess.TheVariants.{Whole, Packed}
use Rattle.validate_visit.specs.declared.numbers.FloatType.{FloatType}
use Rattle.validate_visit.specs.declared.numbers.IntegerType.{IntegerType}
use Rattle.validate_visit.specs.declared.numbers.IntegerType.TheVariants.{I32 as IntegerI32}
use Rattle.validate_visit.specs.declared.numbers.IntegerType.TheVariants.{I64 as IntegerI64}
use Rattle.validate_visit.specs.declared.numbers.FloatType.TheVariants.{F32 as FloatF32, F64 as FloatF64}
use Rattle.validate_visit.specs.declared.numbers.NumberType.{NumberType}
use Rattle.validate_visit.specs.declared.numbers.NumberType.TheVariants.{I32 as NumberI32, I64 as NumberI64}
use Rattle.validate_visit.specs.declared.numbers.NumberType.TheVariants.{F32 as NumberF32, F64 as NumberF64}
use Rattle.validate_visit.specs.declared.numbers.PackedInteger.{PackedInteger}
use Rattle.validate_visit.specs.declared.numbers.PackedInteger.TheVariants.{I32Bits8, I32Bits16, I64Bits8}
use Rattle.validate_visit.specs.declared.numbers.PackedInteger.TheVariants.{I64Bits16, I64Bits32}

abbrev pub number_type : NumberType → ValType
number_type NumberI32 = I32
number_type NumberI64 = I64
number_type NumberF32 = F32
number_type NumberF64 = F64

abbrev pub integer_type : IntegerType → ValType
integer_type IntegerI32 = I32
integer_type IntegerI64 = I64

abbrev pub float_type : FloatType → ValType
float_type FloatF32 = F32
float_type FloatF64 = F64

-- that of the whole integer
abbrev pub packed_type : PackedInteger → ValType
packed_type I32Bits8 = I32
packed_type I32Bits16 = I32
packed_type I64Bits8 = I64
packed_type I64Bits16 = I64
packed_type I64Bits32 = I64

abbrev pub access_type : AtomicAccess → ValType
access_type (Whole t) = integer_type t
access_type (Packed packed) = packed_type packed

-- the other type of as many bits
abbrev pub reinterpreted_type : NumberType → NumberType
reinterpreted_type NumberI32 = NumberF32
reinterpreted_type NumberI64 = NumberF64
reinterpreted_type NumberF32 = NumberI32
reinterpreted_type NumberF64 = NumberI64
