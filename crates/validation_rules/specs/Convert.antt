-- The rows of conversions (WebAssembly core specification, "Validation: Numeric Instructions").
use Rattle.validate_visit.specs.Numbers.{integer_type, float_type, number_type, packed_type}
use Rattle.validate_visit.specs.Numbers.{reinterpreted_type}
use Rattle.validate_visit.specs.declared.op.ConvertOp.{ConvertOp}
use Rattle.validate_visit.specs.declared.op.ConvertOp.TheVariants.{Wrap, Extend, ExtendPacked, Trunc}
use Rattle.validate_visit.specs.declared.op.ConvertOp.TheVariants.{TruncSat, Convert, Demote, Promote}
use Rattle.validate_visit.specs.declared.op.ConvertOp.TheVariants.{Reinterpret}
use Rattle.validation_rules.specs.Context.{I32, I64, F32, F64}
use Rattle.validation_rules.specs.Rows.{Row}
use Rattle.validation_rules.specs.Shapes.{conversion_row, unary_row}

abbrev pub convert_row : ConvertOp → Row
convert_row Wrap = conversion_row I32 I64
convert_row (Extend sign) = conversion_row I64 I32
convert_row (ExtendPacked packed) = unary_row (packed_type packed)
convert_row (Trunc into from sign) = conversion_row (integer_type into) (float_type from)
convert_row (TruncSat into from sign) = conversion_row (integer_type into) (float_type from)
convert_row (Convert into from sign) = conversion_row (float_type into) (integer_type from)
convert_row Demote = conversion_row F32 F64
convert_row Promote = conversion_row F64 F32
convert_row (Reinterpret into) = conversion_row (number_type into) (number_type (reinterpreted_type into))
