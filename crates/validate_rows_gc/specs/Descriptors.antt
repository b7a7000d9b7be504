-- A descriptor that is found, and the row of what is made with it (the crate's own).
use Rattle.std.specs.Prelude.{ℕ, Bool, true, false, [], ◌∷◌, Option, Some, None}
use Rattle.validate_types.specs.declared.heap.UnpackedIndex.{UnpackedIndex}
use Rattle.validation_rules.specs.Context.{Context, ValType}
use Rattle.validation_rules.specs.Descriptors.{descriptor, is_cast_descriptor}
use Rattle.validation_rules.specs.Exact.{allocated_reference}
use Rattle.validation_rules.specs.Fits.{MaybeType}
use Rattle.validation_rules.specs.Operators.{plain_row_if, lookups_row}
use Rattle.validation_rules.specs.Rows.{Row}
use Rattle.validation_rules.specs.Structs.{struct_type, have_defaults}
use Rattle.validate_stacks.specs.Pops.{may_pop}

-- something is found, and it is a descriptor by which such a cast is made
abbrev pub found_descriptor : Context → Bool → UnpackedIndex → Option MaybeType → Bool
found_descriptor cx exact d None = false
found_descriptor cx exact d (Some x) = is_cast_descriptor cx exact d x

-- there are such descriptors, and what is found is one with which a struct is made: exact in its type, or null
abbrev pub found_new_descriptor : Context → Option UnpackedIndex → Option MaybeType → Bool
found_new_descriptor cx None found = false
found_new_descriptor cx (Some d) found = may_pop cx found (Some (descriptor true d))

-- a struct is made of defaults, with a descriptor of this type
abbrev pub defaults_row : Context → ℕ → ValType → Row
defaults_row cx i d =
    lookups_row (struct_type cx i) (allocated_reference cx i)
    (λ fields t. plain_row_if (have_defaults fields) (d ∷ []) (t ∷ []))
