-- Limits, imports, segments and the order of sections, computed.
use Rattle.std.proofs.Common.{◌≡◌, refl, ℕ, Bool, true, false, [], ◌∷◌, map, Option, Some, None}
use Rattle.binary_operators.specs.Codes.{plain_ops, index_ops}
use Rattle.binary_operators.specs.Forms.{forms}
use Rattle.binary_operators.specs.Instructions.{operator, constant_i32, index_op}
use Rattle.binary_operators.specs.Types.{heap_type, ref_type, reference_type}
use Rattle.binary_operators.specs.Unplaced.{nowhere}
use Rattle.binary_operators.specs.Values.{list_of}
use Rattle.binary_operators.specs.declared.types.CanonicalTypes.{CanonicalTypes}
use Rattle.binary_operators.specs.declared.types.GroupNames.TheVariants.{Indices}
use Rattle.module_rules.specs.declared.module.Place.TheVariants.{ElementOffset, Element as ElementItem}
use Rattle.module_rules.specs.declared.segments.ElementItems.TheVariants.{Functions, Expressions}
use Rattle.module_rules.specs.declared.segments.ElementKind.TheVariants.{Passive, Active, Declared}
use Rattle.validate_types.specs.Refs.{nullable_reference}
use Rattle.validate_types.specs.declared.heap.AbstractHeapType.TheVariants.{Func}
use Rattle.validate_types.specs.declared.heap.HeapType.TheVariants.{Abstract}
use Rattle.binary_modules.specs.Initializers.{expression, piece}
use Rattle.binary_modules.specs.Limits.{limits}
use Rattle.binary_modules.specs.Sections.{Section, are_in_order, section_ids}
use Rattle.binary_modules.specs.Segments.{element, element_behind, active_elements, function_items, expression_items, kind_and_functions, type_and_expressions}
use Rattle.binary_modules.specs.declared.limits.FlaggedLimits.{FlaggedLimits}

-- ---- limits

abbrev flagged : ℕ → Option ℕ → Bool → Bool → Option ℕ → FlaggedLimits
flagged initial maximum is_64 shared page = record { limits = record { initial = initial; maximum = maximum }; is_64 = is_64; shared = shared; page_size_log2 = page }

-- one page at least; also at most two, shared, of 64 bits; pages of one byte, which tables don't have
sizes : (limits 15 (0x00 ∷ 0x01 ∷ []) ≡ Some (flagged 1 None false false None, [])) × (limits 15 (0x07 ∷ 0x01 ∷ 0x02 ∷ []) ≡ Some (flagged 1 (Some 2) true true None, [])) × (limits 15 (0x08 ∷ 0x01 ∷ 0x00 ∷ []) ≡ Some (flagged 1 None false false (Some 0), [])) × (limits 7 (0x08 ∷ 0x01 ∷ 0x00 ∷ []) ≡ None)
unfolding limits
sizes = (refl, refl, refl, refl)

-- ---- the order of sections

abbrev empty : ℕ → Section
empty id = record { id = id; contents = [] }

-- a custom section stands anywhere; tags stand before globals, and the count of data segments before bodies; no
-- section stands twice, and none has an id past the last
order : (are_in_order section_ids (map empty (1 ∷ 0 ∷ 3 ∷ 0 ∷ [])) ≡ true) × (are_in_order section_ids (map empty (5 ∷ 13 ∷ 6 ∷ 9 ∷ 12 ∷ 10 ∷ 11 ∷ [])) ≡ true) × (are_in_order section_ids (map empty (6 ∷ 13 ∷ [])) ≡ false) × (are_in_order section_ids (map empty (1 ∷ 1 ∷ [])) ≡ false) × (are_in_order section_ids (map empty (14 ∷ [])) ≡ false)
order = (refl, refl, refl, refl, refl)

-- ---- element segments

abbrev types : CanonicalTypes
types = record { canonical = record { ref_ptr = nowhere; now = [] }; group = Indices 0 }

-- function 5, to table 0 from `i32.const 0` on
active : element types (0x00 ∷ 0x41 ∷ 0x00 ∷ 0x0b ∷ 0x01 ∷ 0x05 ∷ []) ≡ Some (record { declared = record { kind = Active 0; items = Functions (5 ∷ []); offset = 0 }; initializers = record { place = λ i. ElementOffset i; expression = record { bytes = 0x41 ∷ 0x00 ∷ 0x0b ∷ []; functions = [] } } ∷ [] }, [])
unfolding element element_behind active_elements function_items list_of expression piece operator forms constant_i32 plain_ops
active = refl

-- function 5 for operators, and for references alone; 8 are no flags, and 1 is no kind
passive : (element types (0x01 ∷ 0x00 ∷ 0x01 ∷ 0x05 ∷ []) ≡ Some (record { declared = record { kind = Passive; items = Functions (5 ∷ []); offset = 0 }; initializers = [] }, [])) × (element types (0x03 ∷ 0x00 ∷ 0x01 ∷ 0x05 ∷ []) ≡ Some (record { declared = record { kind = Declared; items = Functions (5 ∷ []); offset = 0 }; initializers = [] }, [])) × (element types (0x08 ∷ []) ≡ None) × (element types (0x01 ∷ 0x01 ∷ 0x00 ∷ []) ≡ None)
unfolding element element_behind kind_and_functions function_items list_of
passive = (refl, refl, refl, refl)

-- `ref.func 3`, whose function is noted
values : element types (0x05 ∷ 0x70 ∷ 0x01 ∷ 0xd2 ∷ 0x03 ∷ 0x0b ∷ []) ≡ Some (record { declared = record { kind = Passive; items = Expressions (nullable_reference (Abstract false Func)) 1; offset = 0 }; initializers = record { place = λ i. ElementItem i; expression = record { bytes = 0xd2 ∷ 0x03 ∷ 0x0b ∷ []; functions = 3 ∷ [] } } ∷ [] }, [])
unfolding element element_behind type_and_expressions expression_items list_of ref_type reference_type heap_type expression piece operator forms index_op index_ops plain_ops
values = refl
