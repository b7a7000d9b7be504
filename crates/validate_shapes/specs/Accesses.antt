-- What loads and stores ask of an array (the crate's own).
use Rattle.std.specs.Prelude.{Bool}
use Rattle.validate_types.specs.declared.types.FieldType.{FieldType}
use Rattle.validation_rules.specs.Access.{is_loadable, is_storable}
use Rattle.validate_shapes.specs.declared.accesses.AccessKind.{AccessKind}
use Rattle.validate_shapes.specs.declared.accesses.AccessKind.TheVariants.{Load, Store}

-- the test of the places of an array
abbrev pub may_access_places : AccessKind → FieldType → Bool
may_access_places Load = is_loadable
may_access_places Store = is_storable
