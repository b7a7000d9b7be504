-- Which composite types match which (WebAssembly core specification, "Matching: Composite Types"; the order
-- on what they are made of is that of the types declared).
use Rattle.std.specs.Prelude.{Bool, true, false, List, ◌&&◌, ◌||◌, not, nat_le, length, Option, Some, None}
use Rattle.std.specs.Bool.{beq}
use Rattle.std.specs.List.{list_all, zip}
use Rattle.validate_types.specs.Heap.{number_of}
use Rattle.validate_types.specs.Signatures.{is_signature_below}
use Rattle.validate_types.specs.declared.heap.UnpackedIndex.{UnpackedIndex}
use Rattle.validate_types.specs.declared.types.CompositeInnerType.{CompositeInnerType}
use Rattle.validate_types.specs.declared.types.CompositeInnerType.TheVariants.{Func, Array, Struct, Cont}
use Rattle.validate_types.specs.declared.types.CompositeType.{CompositeType}
use Rattle.validate_types.specs.declared.types.FieldType.{FieldType}
use Rattle.validate_types.specs.declared.types.StorageType.{StorageType}
use Rattle.validate_types.specs.declared.types.StorageType.TheVariants.{I8, I16, Val}
use Rattle.validate_types.specs.declared.types.SubType.{SubType}
use Rattle.validate_resources.specs.Order.{is_index_below, is_type_below}

-- the types declared
module _ (types : List SubType) where
  -- the type that an index names is another, or is declared below it (Specification, "Matching: Defined
  -- Types")
  abbrev pub is_named_below : UnpackedIndex → UnpackedIndex → Bool
  is_named_below i j = is_index_below types (number_of i) (number_of j)

  -- (Specification, "Matching: Field Types", storage types)
  abbrev pub is_storage_below : StorageType → StorageType → Bool
  is_storage_below I8 I8 = true
  is_storage_below I16 I16 = true
  is_storage_below (Val t) (Val u) = is_type_below types t u
  is_storage_below _ _ = false

  -- both can be written or neither, and what can be written matches both ways
  abbrev pub is_field_below : FieldType → FieldType → Bool
  is_field_below f g =
      beq f.mutable g.mutable && is_storage_below f.element_type g.element_type
      && (not f.mutable || is_storage_below g.element_type f.element_type)

  -- at least as many fields, each below its place
  abbrev pub are_fields_below : List FieldType → List FieldType → Bool
  are_fields_below fs gs =
      nat_le (length gs) (length fs)
      && list_all (λ (p : FieldType × FieldType). is_field_below p.0 p.1) (zip fs gs)

  -- of one kind; continuations by their function types (a proposal, "Stack Switching")
  abbrev pub is_inner_below : CompositeInnerType → CompositeInnerType → Bool
  is_inner_below (Func f) (Func g) =
      is_signature_below (is_type_below types) f.params f.results g.params g.results
  is_inner_below (Array a) (Array b) = is_field_below a.0 b.0
  is_inner_below (Struct fs) (Struct gs) = are_fields_below fs gs
  is_inner_below (Cont c) (Cont d) = is_named_below c.0 d.0
  is_inner_below _ _ = false

  -- ---- descriptors (a proposal, "Custom Descriptors": subtyping)

  -- where the upper type has a descriptor, the lower one has one below that
  abbrev pub is_descriptor_below : Option UnpackedIndex → Option UnpackedIndex → Bool
  is_descriptor_below d None = true
  is_descriptor_below None (Some e) = false
  is_descriptor_below (Some d) (Some e) = is_named_below d e

  -- neither is a descriptor, or what the lower one describes is below what the upper one does
  abbrev pub is_described_below : Option UnpackedIndex → Option UnpackedIndex → Bool
  is_described_below None None = true
  is_described_below (Some b) (Some c) = is_named_below b c
  is_described_below _ _ = false

  -- of one sharedness (a proposal, "Shared-Everything Threads")
  abbrev pub is_composite_below : CompositeType → CompositeType → Bool
  is_composite_below c d =
      beq c.shared d.shared && is_inner_below c.inner d.inner
      && is_descriptor_below c.descriptor_idx d.descriptor_idx
      && is_described_below c.describes_idx d.describes_idx
