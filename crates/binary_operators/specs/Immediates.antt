-- What stands in the immediates of operators, beside numbers and types (WebAssembly core specification,
-- "Binary Format: Instructions", and the proposals "Custom Descriptors", "Stack Switching" and "Threads").
use Rattle.std.specs.Prelude.{ℕ, ◌-◌, ◌%◌, ◌/◌, List, [], ◌∷◌, Option, Some, None}
use Rattle.std.specs.Prelude.{nat_lt, nat_eq, ◌&&◌, if◌then◌else◌}
use Rattle.binary_operators.specs.Integers.{unsigned}
use Rattle.binary_operators.specs.Values.{◌>>=◌, byte}
use Rattle.binary_operators.specs.Types.{canonical, type_number, value_type, reference_type}
use Rattle.binary_operators.specs.declared.types.CanonicalTypes.{CanonicalTypes}
use Rattle.validate_types.specs.declared.types.ValType.{ValType}
use Rattle.validate_visit.specs.declared.catch.Catch.{Catch}
use Rattle.validate_visit.specs.declared.catch.Catch.TheVariants.{One, OneRef, All, AllRef}
use Rattle.validate_visit.specs.declared.frame.BlockType.{BlockType}
use Rattle.validate_visit.specs.declared.frame.BlockType.TheVariants.{Empty, Val, FuncType}
use Rattle.validate_visit.specs.declared.memory.MemArg.{MemArg}
use Rattle.validate_visit.specs.declared.memory.MemArgTarget.TheVariants.{Memory}
use Rattle.validate_visit.specs.declared.memory.Ordering.{Ordering}
use Rattle.validate_visit.specs.declared.memory.Ordering.TheVariants.{SeqCst, AcqRel}
use Rattle.validate_visit.specs.declared.op.BranchCast.{BranchCast}
use Rattle.validate_visit.specs.declared.resume.Handle.{Handle}
use Rattle.validate_visit.specs.declared.resume.Handle.TheVariants.{OnLabel, OnSwitch}

-- ---- the types of blocks

abbrev pub of_value : Option (ValType × List ℕ) → Option (BlockType × List ℕ)
of_value None = None
of_value (Some ty) = Some (Val ty.0, ty.1)

abbrev pub of_function : CanonicalTypes → Option (ℕ × List ℕ) → Option (BlockType × List ℕ)
of_function types None = None
of_function types (Some i) = Some (FuncType (canonical types i.0), i.1)

-- no value, one value of a type, or what the function type at an index takes and gives
unfoldable pub block_type : CanonicalTypes → List ℕ → Option (BlockType × List ℕ)
block_type types [] = None
block_type types (code ∷ bytes) =
    if nat_eq code 0x40 then Some (Empty, bytes)
    else (if nat_lt 0x40 code && nat_lt code 0x80 then of_value (value_type types (code ∷ bytes))
    else of_function types (type_number (code ∷ bytes)))

-- ---- places in memories

-- Flags below 2^6 are the exponent of an alignment; 2^6 more say that the index of a memory follows. Then
-- comes what is added to the address. The natural alignment is the operator's.
abbrev pub in_memory : ℕ → ℕ → List ℕ → Option (MemArg × List ℕ)
in_memory align memory bytes = do
  offset ← unsigned 64 bytes
  Some (record { align = align; max_align = 0; offset = offset.0; target = Memory memory }, offset.1)

abbrev pub in_indexed_memory : ℕ → List ℕ → Option (MemArg × List ℕ)
in_indexed_memory align bytes = do
  memory ← unsigned 32 bytes
  in_memory align memory.0 memory.1

unfoldable pub memarg : List ℕ → Option (MemArg × List ℕ)
memarg bytes = do
  flags ← unsigned 32 bytes
  if nat_lt flags.0 0x40 then in_memory flags.0 0 flags.1
      else (if nat_lt flags.0 0x80 then in_indexed_memory (flags.0 - 0x40) flags.1 else None)

-- ---- the clauses of a `try_table`

abbrev pub tag_and_label : (ℕ → ℕ → Catch) → List ℕ → Option (Catch × List ℕ)
tag_and_label clause bytes = do
  tag ← unsigned 32 bytes
  label ← unsigned 32 tag.1
  Some (clause tag.0 label.0, label.1)

abbrev pub label_alone : (ℕ → Catch) → List ℕ → Option (Catch × List ℕ)
label_alone clause bytes = do
  label ← unsigned 32 bytes
  Some (clause label.0, label.1)

abbrev pub catch_behind : ℕ → List ℕ → Option (Catch × List ℕ)
catch_behind code bytes =
    if nat_eq code 0x00 then tag_and_label (λ tag label. One tag label) bytes
    else (if nat_eq code 0x01 then tag_and_label (λ tag label. OneRef tag label) bytes
    else (if nat_eq code 0x02 then label_alone (λ label. All label) bytes
    else (if nat_eq code 0x03 then label_alone (λ label. AllRef label) bytes else None)))

unfoldable pub catch_clause : List ℕ → Option (Catch × List ℕ)
catch_clause bytes = do
  code ← byte bytes
  catch_behind code.0 code.1

-- ---- the handlers of a `resume`

abbrev pub on_label : List ℕ → Option (Handle × List ℕ)
on_label bytes = do
  tag ← unsigned 32 bytes
  label ← unsigned 32 tag.1
  Some (OnLabel tag.0 label.0, label.1)

abbrev pub on_switch : List ℕ → Option (Handle × List ℕ)
on_switch bytes = do
  tag ← unsigned 32 bytes
  Some (OnSwitch tag.0, tag.1)

abbrev pub handler_behind : ℕ → List ℕ → Option (Handle × List ℕ)
handler_behind code bytes =
    if nat_eq code 0x00 then on_label bytes else (if nat_eq code 0x01 then on_switch bytes else None)

unfoldable pub handler : List ℕ → Option (Handle × List ℕ)
handler bytes = do
  code ← byte bytes
  handler_behind code.0 code.1

-- ---- casts

-- Flags say of two reference types whether null is among their values: the first bit of what is cast, the
-- second of what it is cast to. Then come a label and the two heap types.
abbrev pub cast_behind : CanonicalTypes → ℕ → List ℕ → Option (BranchCast × List ℕ)
cast_behind types flags bytes = do
  label ← unsigned 32 bytes
  source ← reference_type types (nat_eq (flags % 2) 1) label.1
  target ← reference_type types (nat_eq (flags / 2) 1) source.1
  Some (record { relative_depth = label.0; from_ref_type = source.0; to_ref_type = target.0 }, target.1)

unfoldable pub cast : CanonicalTypes → List ℕ → Option (BranchCast × List ℕ)
cast types bytes = do
  flags ← byte bytes
  if nat_lt flags.0 4 then cast_behind types flags.0 flags.1 else None

-- ---- the order of atomic operators

abbrev pub ordering_of : ℕ → Option Ordering
ordering_of code = if nat_eq code 0x00 then Some SeqCst else (if nat_eq code 0x01 then Some AcqRel else None)

unfoldable pub ordering : List ℕ → Option (Ordering × List ℕ)
ordering bytes = do
  code ← byte bytes
  order ← ordering_of code.0
  Some (order, code.1)
