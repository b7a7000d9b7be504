-- The operators that most constant expressions are made of.
use Rattle.std.proofs.Common.{◌≡◌, ◌∙◌, ◌≤◌, ◌<◌, ◌-◌, ap, refl, arith, ℕ, ℤ, List, [], ◌∷◌, Option, Some, None, IsSome, is_some, slice_get, length, nat_eq, nat_lt, false, if◌then◌else◌, le-ltb, ne_eqb}
use Rattle.std.specs.Option.{option_and_then}
use Rattle.std.proofs.lemmas.Option.{slice_get-get_or}
use Rattle.binary_operators.specs.Codes.{plain_ops, heap_ops}
use Rattle.binary_operators.specs.Forms.{forms}
use Rattle.binary_operators.specs.Instructions.{operator, constant_i32, heap_op}
use Rattle.binary_operators.specs.Integers.{signed}
use Rattle.binary_operators.specs.Types.{heap_type, shared_heap, unshared_heap, abstract_type, abstract_types}
use Rattle.binary_operators.specs.declared.types.CanonicalTypes.{CanonicalTypes}
use Rattle.validate_types.specs.declared.heap.AbstractHeapType.{AbstractHeapType}
use Rattle.validate_types.specs.declared.heap.AbstractHeapType.TheVariants.{Cont}
use Rattle.validate_types.specs.declared.heap.HeapType.{HeapType}
use Rattle.validate_types.specs.declared.heap.HeapType.TheVariants.{Abstract}
use Rattle.validate_visit.specs.declared.op.ControlOp.TheVariants.{End}
use Rattle.validate_visit.specs.declared.op.NumericOp.TheVariants.{I32Const}
use Rattle.validate_visit.specs.declared.op.Op.{Op}
use Rattle.validate_visit.specs.declared.op.Op.TheVariants.{Control, Numeric, Reference}
use Rattle.validate_visit.specs.declared.op.ReferenceOp.TheVariants.{RefNull}
use Rattle.binary_modules.specs.Initializers.{piece, of_operator}
use Rattle.binary_modules.specs.Kept.{IsNull}

pub end_piece : (types : CanonicalTypes) (bytes rest : List ℕ) → bytes ≡ 0x0b ∷ rest → piece types bytes ≡ Some (Some (Control End), rest)
unfolding piece operator forms plain_ops
end_piece types bytes rest e = ap (piece types) e

pub integer_piece : (types : CanonicalTypes) (bytes behind rest : List ℕ) (value : ℤ) → bytes ≡ 0x41 ∷ behind → signed 32 behind ≡ Some (value, rest) → piece types bytes ≡ Some (Some (Numeric (I32Const value)), rest)
unfolding piece operator forms constant_i32
integer_piece types bytes behind rest value b e =
    ap (piece types) b
    ∙ ap (λ o. of_operator (option_and_then {U = Op × List ℕ} (λ (n : ℤ × List ℕ). Some (Numeric (I32Const n.0), n.1)) o)) e

-- a code of an abstract type is that of one
abstract_there : (code : ℕ) → 0x68 ≤ code → code ≤ 0x75 → IsSome (abstract_type code)
abstract_there code low high =
    let i : nat_lt code 0x68 ≡ false = le-ltb code 0x68 low in
    let j : code - 0x68 < length abstract_types = omega (arith, low, high) in
    ap (λ b. is_some (if b then None else slice_get abstract_types (code - 0x68))) i
    ∙ ap is_some (slice_get-get_or abstract_types (code - 0x68) Cont j)

null_by : (types : CanonicalTypes) (bytes rest : List ℕ) (code : ℕ) (o : Option AbstractHeapType) → abstract_type code ≡ o → IsSome o → nat_eq code 0x65 ≡ false → bytes ≡ 0xd0 ∷ code ∷ rest → IsNull types bytes rest
unfolding piece operator forms heap_op heap_ops heap_type
null_by types bytes rest code None e there other b = cc
null_by types bytes rest code (Some ty) e there other b = (
  Abstract false ty,
  ap (piece types) b
      ∙ ap (λ (h : Option (HeapType × List ℕ)). of_operator (option_and_then {U = Op × List ℕ} (λ (h : HeapType × List ℕ). Some (Reference (RefNull h.0), h.1)) h))
      (ap (λ c. if c then shared_heap rest else unshared_heap types (abstract_type code) code rest) other
      ∙ ap (λ a. unshared_heap types a code rest) e),
)

pub null_piece : (types : CanonicalTypes) (bytes rest : List ℕ) (code : ℕ) → 0x68 ≤ code → code ≤ 0x75 → bytes ≡ 0xd0 ∷ code ∷ rest → IsNull types bytes rest
null_piece types bytes rest code low high b =
    null_by types bytes rest code (abstract_type code) refl (abstract_there code low high) (ne_eqb code 0x65 (λ e. absurd (omega (arith, low, e)))) b

pub ended_piece : (types : CanonicalTypes) (bytes : List ℕ) → bytes ≡ [] → piece types bytes ≡ None
unfolding piece
ended_piece types bytes e = ap (piece types) e

pub no_integer_piece : (types : CanonicalTypes) (bytes behind : List ℕ) → bytes ≡ 0x41 ∷ behind → signed 32 behind ≡ None → piece types bytes ≡ None
unfolding piece operator forms constant_i32
no_integer_piece types bytes behind b e =
    ap (piece types) b
    ∙ ap (λ o. of_operator (option_and_then {U = Op × List ℕ} (λ (n : ℤ × List ℕ). Some (Numeric (I32Const n.0), n.1)) o)) e
