-- Tests of references, and casts, as a script writes them (the crate's own).
use Rattle.std.specs.Prelude.{ℕ, List, [], ◌∷◌, if◌then◌else◌}
use Rattle.validate_types.specs.declared.refs.RefType.{RefType}
use Rattle.validate_visit.specs.declared.op.BranchCast.{BranchCast}
use Rattle.validate_visit.specs.declared.op.ReferenceOp.{ReferenceOp}
use Rattle.validate_visit.specs.declared.op.ReferenceOp.TheVariants.{RefTestNonNull, RefTestNullable}
use Rattle.validate_visit.specs.declared.op.ReferenceOp.TheVariants.{RefCastNonNull, RefCastNullable}
use Rattle.validate_visit.specs.declared.op.ReferenceOp.TheVariants.{RefCastDescEqNonNull}
use Rattle.validate_visit.specs.declared.op.ReferenceOp.TheVariants.{RefCastDescEqNullable}
use Rattle.script_reader.specs.Numbers.{WritesIndex}
use Rattle.script_reader.specs.References.{IsReferenceName}

-- a test for the values of this type
abbrev pub test_for : RefType → ReferenceOp
test_for r = if r.nullable then RefTestNullable r.heap_type else RefTestNonNull r.heap_type

-- a cast to this type
abbrev pub cast_to : RefType → ReferenceOp
cast_to r = if r.nullable then RefCastNullable r.heap_type else RefCastNonNull r.heap_type

-- a cast to this type by a descriptor
abbrev pub cast_by_descriptor_to : RefType → ReferenceOp
cast_by_descriptor_to r =
    if r.nullable then RefCastDescEqNullable r.heap_type else RefCastDescEqNonNull r.heap_type

-- the words write the label, the type of the operand, and the one that it is cast to
abbrev pub IsBranchCast : List (List ℕ) → BranchCast → Type 0
IsBranchCast (label ∷ from ∷ to ∷ []) cast =
    WritesIndex label cast.relative_depth
    × IsReferenceName from cast.from_ref_type
    × IsReferenceName to cast.to_ref_type
IsBranchCast words cast = ⊥
