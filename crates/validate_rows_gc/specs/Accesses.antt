-- What an atomic access takes and gives, as a value (the crate's own).
use Rattle.std.specs.Prelude.{List, [], ◌∷◌}
use Rattle.std.specs.List.{AllByRecursion}
use Rattle.validate_resources.specs.Context.{ModuleContext, Valid}
use Rattle.validation_rules.specs.Context.{ValType}
use Rattle.validation_rules.specs.Rows.{Row}
use Rattle.validation_rules.specs.Shapes.{plain_row_if}
use Rattle.validate_shapes.specs.Operands.{few_types, pushed_types}
use Rattle.validate_rows_gc.specs.declared.accesses.PlaceOperands.{PlaceOperands}
use Rattle.validate_rows_gc.specs.declared.accesses.PlaceOperands.TheVariants.{Named, One, Two}
use Rattle.validate_rows_gc.specs.declared.places.TestedOperands.{TestedOperands}

abbrev pub place_operands : PlaceOperands → List ValType
place_operands Named = []
place_operands (One a) = a ∷ []
place_operands (Two a b) = a ∷ b ∷ []

-- the row that takes and gives these types, where the access is allowed
abbrev pub tested_row : TestedOperands → Row
tested_row t = plain_row_if t.allowed (few_types t.expected) (pushed_types t.pushed)

-- each type in it is valid
abbrev pub AreValidTested : ModuleContext → TestedOperands → Type 0
AreValidTested md t =
    AllByRecursion (Valid md) (few_types t.expected) × AllByRecursion (Valid md) (pushed_types t.pushed)
