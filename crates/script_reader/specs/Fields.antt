-- The fields of structs and arrays, as a script writes them (the crate's own).
use Rattle.std.specs.Prelude.{◌≡◌, ◌++◌, ℕ, List, [], Bool, true, false, codes}
use Rattle.validate_types.specs.declared.types.FieldType.{FieldType}
use Rattle.validate_types.specs.declared.types.StorageType.{StorageType}
use Rattle.validate_types.specs.declared.types.StorageType.TheVariants.{I8, I16, Val}
use Rattle.validate_types.specs.Types.{unpacked_type}
use Rattle.script_reader.specs.Values.{IsValueName, fits_value}

-- the word names what a field holds
abbrev pub IsStorageName : List ℕ → StorageType → Type 0
IsStorageName word I8 = word ≡ codes "i8"
IsStorageName word I16 = word ≡ codes "i16"
IsStorageName word (Val t) = IsValueName word t

-- the mark of a field, which stands before what it holds
abbrev pub field_mark : Bool → List ℕ
field_mark true = codes "mut:"
field_mark false = []

-- the word is the mark of the field, and the name of what it holds
abbrev pub IsFieldName : List ℕ → FieldType → Type 0
IsFieldName word field =
    (name : List ℕ) × (word ≡ field_mark field.mutable ++ name) × IsStorageName name field.element_type

abbrev pub fits_field : FieldType → Bool
fits_field field = fits_value (unpacked_type field.element_type)
