-- Value types, as a script writes them (the crate's own).
use Rattle.std.specs.Prelude.{◌≡◌, ℕ, List, Bool, true, codes}
use Rattle.validate_types.specs.Refs.{fits_reference}
use Rattle.validate_types.specs.declared.types.ValType.{ValType}
use Rattle.validate_types.specs.declared.types.ValType.TheVariants.{I32, I64, F32, F64, V128, Ref}
use Rattle.script_reader.specs.References.{IsReferenceName}

-- the word names the value type
abbrev pub IsValueName : List ℕ → ValType → Type 0
IsValueName word I32 = word ≡ codes "i32"
IsValueName word I64 = word ≡ codes "i64"
IsValueName word F32 = word ≡ codes "f32"
IsValueName word F64 = word ≡ codes "f64"
IsValueName word V128 = word ≡ codes "v128"
IsValueName word (Ref r) = IsReferenceName word r

-- a reference packs the type index in it, if it has one
abbrev pub fits_value : ValType → Bool
fits_value (Ref r) = fits_reference r.heap_type
fits_value _ = true
