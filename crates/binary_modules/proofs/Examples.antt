-- Computed examples of the binary format of types, against bytes that are put together by hand.
use Rattle.std.proofs.Common.{◌≡◌, refl, ℕ, Bool, true, false, List, [], ◌∷◌, Option, Some, None}
use Rattle.binary_operators.specs.Types.{heap_type, ref_type, reference_type, value_type}
use Rattle.std.specs.Option.{option_map}
use Rattle.binary_operators.specs.Unplaced.{nowhere}
use Rattle.binary_operators.specs.Values.{list_of}
use Rattle.binary_operators.specs.declared.types.CanonicalTypes.{CanonicalTypes}
use Rattle.binary_operators.specs.declared.types.GroupNames.{GroupNames}
use Rattle.binary_operators.specs.declared.types.GroupNames.TheVariants.{Places, Indices}
use Rattle.validate_types.specs.Refs.{nullable_reference}
use Rattle.validate_types.specs.declared.heap.HeapType.TheVariants.{Concrete}
use Rattle.validate_types.specs.declared.heap.UnpackedIndex.{UnpackedIndex}
use Rattle.validate_types.specs.declared.heap.UnpackedIndex.TheVariants.{Module, Id}
use Rattle.validate_types.specs.declared.types.CompositeInnerType.TheVariants.{Func, Array, Struct, Cont}
use Rattle.validate_types.specs.declared.types.FieldType.{FieldType}
use Rattle.validate_types.specs.declared.types.StorageType.{StorageType}
use Rattle.validate_types.specs.declared.types.StorageType.TheVariants.{I8, I16, Val}
use Rattle.validate_types.specs.declared.types.SubType.{SubType}
use Rattle.validate_types.specs.declared.types.ValType.TheVariants.{I32, I64, Ref}
use Rattle.binary_modules.specs.SubTypes.{type_index, storage_type, field_type, func_type, struct_type, array_type, cont_type, composite_inner_type, marked_index, composite_type, supertype, with_supertype, below_supertype, sub_type}
use Rattle.binary_modules.specs.Groups.{Group, rec_group, group, groups as type_groups, canonical_of}

-- where these types stand for those before, and its own are named so
abbrev in_group : GroupNames → List ℕ → CanonicalTypes
in_group names canonical = record { canonical = record { ref_ptr = nowhere; now = canonical }; group = names }

-- four types stand before, of which the last is equal to the one at index 1
abbrev types : CanonicalTypes
types = in_group (Indices 4) (0 ∷ 1 ∷ 2 ∷ 1 ∷ [])

-- ---- what types are made of

abbrev field : StorageType → Bool → FieldType
field storage mutable = record { element_type = storage; mutable = mutable }

-- a packed field that can be written, another that can't, and one of a value type; 2 is no mutability
fields : (field_type types (0x78 ∷ 0x01 ∷ []) ≡ Some (field I8 true, [])) × (field_type types (0x77 ∷ 0x00 ∷ []) ≡ Some (field I16 false, [])) × (field_type types (0x7f ∷ 0x01 ∷ 0x00 ∷ []) ≡ Some (field (Val I32) true, 0x00 ∷ [])) × (field_type types (0x7f ∷ 0x02 ∷ []) ≡ None)
unfolding field_type storage_type value_type
fields = (refl, refl, refl, refl)

-- it takes an `i32` and gives an `i64`
function : composite_inner_type types (0x60 ∷ 0x01 ∷ 0x7f ∷ 0x01 ∷ 0x7e ∷ []) ≡ Some (Func (record { params = I32 ∷ []; results = I64 ∷ [] }), [])
unfolding composite_inner_type func_type list_of value_type
function = refl

structure : composite_inner_type types (0x5f ∷ 0x02 ∷ 0x7f ∷ 0x00 ∷ 0x78 ∷ 0x01 ∷ []) ≡ Some (Struct (field (Val I32) false ∷ field I8 true ∷ []), [])
unfolding composite_inner_type struct_type list_of field_type storage_type value_type
structure = refl

array : composite_inner_type types (0x5e ∷ 0x7e ∷ 0x01 ∷ []) ≡ Some (Array (record { 0 = field (Val I64) true }), [])
unfolding composite_inner_type array_type field_type storage_type value_type
array = refl

-- the index of the function type is renamed
continuation : composite_inner_type types (0x5d ∷ 0x03 ∷ []) ≡ Some (Cont (record { 0 = Module 1 }), [])
unfolding composite_inner_type cont_type
continuation = refl

-- no type has this code, and a list that is cut short is none
no_type : (composite_inner_type types (0x5c ∷ 0x00 ∷ []) ≡ None) × (composite_inner_type types (0x5f ∷ 0x01 ∷ []) ≡ None)
unfolding composite_inner_type struct_type list_of field_type storage_type
no_type = (refl, refl)

-- ---- sub types

abbrev empty_struct : Bool → Option UnpackedIndex → SubType
empty_struct is_final above = record { is_final = is_final; supertype_idx = above; composite_type = record { inner = Struct []; shared = false; descriptor_idx = None; describes_idx = None } }

-- without a code it is final; code 0x50 says that it isn't; its supertype's index is renamed
sub_types : (sub_type types (0x5f ∷ 0x00 ∷ []) ≡ Some (empty_struct true None, [])) × (sub_type types (0x50 ∷ 0x00 ∷ 0x5f ∷ 0x00 ∷ []) ≡ Some (empty_struct false None, [])) × (sub_type types (0x50 ∷ 0x01 ∷ 0x03 ∷ 0x5f ∷ 0x00 ∷ []) ≡ Some (empty_struct false (Some (Module 1)), [])) × (sub_type types (0x4f ∷ 0x01 ∷ 0x00 ∷ 0x5f ∷ 0x00 ∷ []) ≡ Some (empty_struct true (Some (Module 0)), []))
unfolding sub_type with_supertype below_supertype supertype type_index composite_type marked_index composite_inner_type struct_type list_of
sub_types = (refl, refl, refl, refl)

-- no type has two supertypes
two_supertypes : sub_type types (0x50 ∷ 0x02 ∷ 0x00 ∷ 0x01 ∷ 0x5f ∷ 0x00 ∷ []) ≡ None
unfolding sub_type below_supertype supertype
two_supertypes = refl

-- a shared type; one that describes the values of the first; one whose values the next type describes
proposals : (sub_type types (0x65 ∷ 0x5f ∷ 0x00 ∷ []) ≡ Some (record (empty_struct true None) { composite_type = record { inner = Struct []; shared = true; descriptor_idx = None; describes_idx = None } }, [])) × (sub_type types (0x4c ∷ 0x00 ∷ 0x5f ∷ 0x00 ∷ []) ≡ Some (record (empty_struct true None) { composite_type = record { inner = Struct []; shared = false; descriptor_idx = None; describes_idx = Some (Module 0) } }, [])) × (sub_type types (0x4d ∷ 0x05 ∷ 0x5f ∷ 0x00 ∷ []) ≡ Some (record (empty_struct true None) { composite_type = record { inner = Struct []; shared = false; descriptor_idx = Some (Module 5); describes_idx = None } }, []))
unfolding sub_type with_supertype composite_type marked_index type_index composite_inner_type struct_type list_of
proposals = (refl, refl, refl)

-- ---- recursion groups

-- a struct with a reference, which may be null, to the type of this name
abbrev node : UnpackedIndex → SubType
node i = record { is_final = true; supertype_idx = None; composite_type = record { inner = Struct (field (Val (Ref (nullable_reference (Concrete i)))) false ∷ []); shared = false; descriptor_idx = None; describes_idx = None } }

-- The type at index 4 refers to itself. Rolled up it does so by its place; declared by an index, that of the type
-- that stands for it.
groups : (rec_group (in_group Places (0 ∷ 1 ∷ 2 ∷ 1 ∷ [])) (0x4e ∷ 0x01 ∷ 0x5f ∷ 0x01 ∷ 0x63 ∷ 0x04 ∷ 0x00 ∷ []) ≡ Some ((true, node (Id (record { index = 0 })) ∷ []), [])) × (rec_group types (0x4e ∷ 0x01 ∷ 0x5f ∷ 0x01 ∷ 0x63 ∷ 0x04 ∷ 0x00 ∷ []) ≡ Some ((true, node (Module 4) ∷ []), [])) × (rec_group (in_group (Indices 2) (0 ∷ 1 ∷ 2 ∷ 1 ∷ [])) (0x5f ∷ 0x01 ∷ 0x63 ∷ 0x04 ∷ 0x00 ∷ []) ≡ Some ((false, node (Module 2) ∷ []), []))
unfolding rec_group sub_type with_supertype composite_type marked_index composite_inner_type struct_type list_of field_type storage_type value_type ref_type reference_type heap_type
groups = (refl, refl, refl)

-- the type that refers to itself, as index 0 and as index 1 say it
abbrev first_node : Group
first_node = record { rolled = node (Id (record { index = 0 })) ∷ []; types = node (Module 0) ∷ []; first = 0; explicit = false }

-- A struct refers to itself, and so does a second one: these are one type, and index 0 stands for both.
equal_types : type_groups (0x02 ∷ 0x5f ∷ 0x01 ∷ 0x63 ∷ 0x00 ∷ 0x00 ∷ 0x5f ∷ 0x01 ∷ 0x63 ∷ 0x01 ∷ 0x00 ∷ []) ≡ Some (first_node ∷ first_node ∷ [], [])
unfolding type_groups group rec_group sub_type with_supertype composite_type marked_index composite_inner_type struct_type list_of field_type storage_type value_type ref_type reference_type heap_type
equal_types = refl

-- A second one that refers to the first is another type, and stands for itself.
another_type : option_map (λ (r : List Group × List ℕ). canonical_of r.0) (type_groups (0x02 ∷ 0x5f ∷ 0x01 ∷ 0x63 ∷ 0x00 ∷ 0x00 ∷ 0x5f ∷ 0x01 ∷ 0x63 ∷ 0x00 ∷ 0x00 ∷ [])) ≡ Some (0 ∷ 1 ∷ [])
unfolding type_groups group rec_group sub_type with_supertype composite_type marked_index composite_inner_type struct_type list_of field_type storage_type value_type ref_type reference_type heap_type
another_type = refl
