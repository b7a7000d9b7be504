-- What a declared type is, by its kind (WebAssembly core specification, "Composite Types"; continuations: a
-- proposal, "Stack Switching"; descriptors: a proposal, "Custom Descriptors").
use Rattle.std.specs.Prelude.{Bool, true, false, Option, Some, None}
use Rattle.validate_types.specs.Types.{Signature}
use Rattle.validate_types.specs.declared.heap.UnpackedIndex.{UnpackedIndex}
use Rattle.validate_types.specs.declared.types.CompositeInnerType.{CompositeInnerType}
use Rattle.validate_types.specs.declared.types.CompositeInnerType.TheVariants.{Func, Array, Struct, Cont}
use Rattle.validate_types.specs.declared.types.SubType.{SubType}

-- what a type takes and gives, if it is one of functions
abbrev pub inner_signature : CompositeInnerType → Option Signature
inner_signature (Func f) = Some f
inner_signature (Array a) = None
inner_signature (Struct fields) = None
inner_signature (Cont c) = None

abbrev pub signature_of : SubType → Option Signature
signature_of s = inner_signature s.composite_type.inner

-- the index of the function type of a continuation, if it is a type of continuations
abbrev pub inner_continuation : CompositeInnerType → Option UnpackedIndex
inner_continuation (Cont c) = Some c.0
inner_continuation _ = None

abbrev pub continuation_of : SubType → Option UnpackedIndex
continuation_of s = inner_continuation s.composite_type.inner

-- it is a type of structs
abbrev pub is_struct : CompositeInnerType → Bool
is_struct (Struct fields) = true
is_struct _ = false

-- the index of the type of its descriptors, if it has one (a proposal, "Custom Descriptors")
abbrev pub descriptor_of : SubType → Option UnpackedIndex
descriptor_of s = s.composite_type.descriptor_idx
