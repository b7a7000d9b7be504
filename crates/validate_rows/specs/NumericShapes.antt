-- What operators on numbers take and give, as rows (WebAssembly core specification, "Numeric Instructions").
use Rattle.std.specs.Prelude.{[], ◌∷◌}
use Rattle.validate_rows.specs.declared.numeric.Shape.{Shape}
use Rattle.validate_rows.specs.declared.numeric.Shape.TheVariants.{Constant, Unary, Binary, WideBinary}
use Rattle.validate_rows.specs.declared.numeric.Shape.TheVariants.{WideMultiply}
use Rattle.validate_visit.specs.Numbers.{number_type}
use Rattle.validation_rules.specs.Operators.{plain_row}
use Rattle.validation_rules.specs.Rows.{Row}
use Rattle.validation_rules.specs.Shapes.{constant_row, wide_binary_row, wide_multiply_row}

abbrev pub shape_row : Shape → Row
shape_row (Constant pushed) = constant_row (number_type pushed)
shape_row (Unary expected pushed) = plain_row (number_type expected ∷ []) (number_type pushed ∷ [])
shape_row (Binary expected pushed) =
    plain_row (number_type expected ∷ number_type expected ∷ []) (number_type pushed ∷ [])
shape_row WideBinary = wide_binary_row
shape_row WideMultiply = wide_multiply_row
