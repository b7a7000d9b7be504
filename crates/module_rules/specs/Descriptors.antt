-- Descriptors, and the types that they describe (a proposal, "Custom Descriptors": type definitions).
use Rattle.std.specs.Prelude.{ℕ, Bool, true, false, List, ◌&&◌, ◌==◌, nat_lt, length, Option, Some, None}
use Rattle.std.specs.Prelude.{slice_get}
use Rattle.std.specs.Bool.{beq}
use Rattle.std.specs.List.{list_all, zip}
use Rattle.validate_types.specs.Heap.{number_of}
use Rattle.validate_types.specs.Kinds.{is_struct}
use Rattle.validate_types.specs.declared.heap.UnpackedIndex.{UnpackedIndex}
use Rattle.validate_types.specs.declared.types.CompositeType.{CompositeType}
use Rattle.validate_types.specs.declared.types.SubType.{SubType}

-- the index names type n
abbrev pub names_type : ℕ → Option UnpackedIndex → Bool
names_type n None = false
names_type n (Some i) = number_of i == n

-- a type is there, describes type n, and is of this sharedness
abbrev pub is_descriptor_of : ℕ → Bool → Option SubType → Bool
is_descriptor_of n shared None = false
is_descriptor_of n shared (Some s) =
    names_type n s.composite_type.describes_idx && beq shared s.composite_type.shared

-- a type is there, is described by type n, and is of this sharedness
abbrev pub is_described_by : ℕ → Bool → Option SubType → Bool
is_described_by n shared None = false
is_described_by n shared (Some s) =
    names_type n s.composite_type.descriptor_idx && beq shared s.composite_type.shared

-- the descriptor of type n, which is of structs, describes it
abbrev pub has_valid_descriptor : List SubType → ℕ → CompositeType → Option UnpackedIndex → Bool
has_valid_descriptor types n c None = true
has_valid_descriptor types n c (Some d) =
    is_struct c.inner && is_descriptor_of n c.shared (slice_get types (number_of d))

-- what type n, which is of structs, describes is an earlier type, of which it is the descriptor
abbrev pub describes_valid_type : List SubType → ℕ → CompositeType → Option UnpackedIndex → Bool
describes_valid_type types n c None = true
describes_valid_type types n c (Some b) =
    is_struct c.inner && nat_lt (number_of b) n && is_described_by n c.shared (slice_get types (number_of b))

abbrev pub has_valid_descriptors : List SubType → ℕ → CompositeType → Bool
has_valid_descriptors types n c =
    has_valid_descriptor types n c c.descriptor_idx && describes_valid_type types n c c.describes_idx

-- each type by the index that it is named by
abbrev pub have_valid_descriptors : List SubType → List ℕ → Bool
have_valid_descriptors types names =
    length names == length types
    && list_all (λ (e : SubType × ℕ). has_valid_descriptors types e.1 e.0.composite_type) (zip types names)
