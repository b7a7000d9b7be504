-- Behind what is read are no more bytes than before it, and behind an operator fewer.
use Rattle.std.proofs.Common.{◌≡◌, ℕ, zero, suc, ◌-◌, ◌<◌, ◌≤◌, List, [], ◌∷◌, length, drop, Bool, true, false, Option, Some, None, if◌then◌else◌, nat_lt, nat_eq, is_some, arith, subst, ◌+◌, ◌%◌, ◌/◌, ◌*◌, ◌^◌, length-drop}
use Rattle.std.specs.Option.{option_and_then}
use Rattle.binary_operators.specs.Atomics.{atomic_at, global_accesses, table_accesses, field_accesses}
use Rattle.binary_operators.specs.Codes.{at, plain_ops, index_ops, two_index_ops, type_ops, typed_index_ops, two_type_ops, heap_ops, cast_ops, block_ops, access_ops}
use Rattle.binary_operators.specs.Forms.{from, forms, forms_behind}
use Rattle.binary_operators.specs.Immediates.{block_type, of_value, of_function, memarg, in_memory, catch_clause, handler, cast, ordering, ordering_of}
use Rattle.binary_operators.specs.Instructions.{operator, operator_of, operator_by, prefixed_op, index_op, two_index_op, type_op, typed_index_op, two_type_op, heap_op, cast_op, block_op, access_op, constant_i32, constant_i64, constant_f32, constant_f64, branch_table, select_op, try_table_op, resume_op, resume_ops, resume_throw_op, atomic_op, fence_op, global_op, table_op, field_op, array_op}
use Rattle.binary_operators.specs.Integers.{unsigned, biased, last_biased, with_low, with_rest, without_bias, signed}
use Rattle.binary_operators.specs.Numbers.{numeric_ops, conversion_ops}
use Rattle.binary_operators.specs.Types.{type_number, heap_type, shared_heap, unshared_heap, named, reference_type, ref_type, value_of, value_type, abstract_type, number_type}
use Rattle.binary_operators.specs.Values.{◌>>=◌, byte, float32, float64, so_many, list_of}
use Rattle.binary_operators.specs.declared.forms.Form.{Form}
use Rattle.binary_operators.specs.declared.forms.Form.TheVariants.{Illegal, Plain, Block, Index, TwoIndices, TypeIndex, TypedIndex, TwoTypes, Heap, Cast, Access, I32, I64, F32, F64, Conversion, Labels, Types, Clauses, Handlers, Thrown, Fence, Global, Field, Prefix, Vector}
use Rattle.binary_operators.specs.declared.forms.Form.TheVariants.{Atomic as OfAtomic, Numeric as OfNumeric, Table as OfTable, Array as OfArray}
use Rattle.binary_operators.specs.declared.types.CanonicalTypes.{CanonicalTypes}
use Rattle.validate_types.specs.Refs.{reference_to}
use Rattle.validate_types.specs.declared.heap.AbstractHeapType.{AbstractHeapType}
use Rattle.validate_types.specs.declared.heap.HeapType.{HeapType}
use Rattle.validate_types.specs.declared.heap.HeapType.TheVariants.{Concrete, Exact}
use Rattle.validate_types.specs.declared.heap.UnpackedIndex.{UnpackedIndex}
use Rattle.validate_types.specs.declared.types.ValType.{ValType}
use Rattle.validate_visit.specs.declared.op.Op.{Op}

-- behind what is read, if it is, are so many bytes at most
abbrev pub LeavesAtMost : {A : Type 0} → ℕ → Option (A × List ℕ) → Type 0
LeavesAtMost n None = Unit {0}
LeavesAtMost n (Some r) = length r.1 ≤ n

-- a reading never leaves more than there was
abbrev pub NeverGrows : {A : Type 0} → (List ℕ → Option (A × List ℕ)) → Type 0
NeverGrows reading = (n : ℕ) (bytes : List ℕ) → length bytes ≤ n → LeavesAtMost n (reading bytes)

-- ---- parts of readings

after : {A B : Type 0} → (n : ℕ) (o : Option (A × List ℕ)) (f : A × List ℕ → Option (B × List ℕ)) → LeavesAtMost n o → ((a : A × List ℕ) → length a.1 ≤ n → LeavesAtMost n (f a)) → LeavesAtMost n (option_and_then f o)
after n None f h next = tt
after n (Some a) f h next = next a h

given : {A B : Type 0} → (n : ℕ) (o : Option A) (f : A → Option (B × List ℕ)) → ((a : A) → LeavesAtMost n (f a)) → LeavesAtMost n (option_and_then f o)
given n None f next = tt
given n (Some a) f next = next a

either : {A : Type 0} → (n : ℕ) (b : Bool) (o p : Option (A × List ℕ)) → LeavesAtMost n o → LeavesAtMost n p → LeavesAtMost n (if b then o else p)
either n true o p h k = h
either n false o p h k = k

-- ---- numbers

low : (n bits : ℕ) (o : Option (ℕ × List ℕ)) → LeavesAtMost n o → LeavesAtMost n (with_low bits o)
low n bits None h = tt
low n bits (Some r) h = h

rest : (n : ℕ) (bytes : List ℕ) (o : Option ℕ) → length bytes ≤ n → LeavesAtMost n (with_rest bytes o)
rest n bytes None h = tt
rest n bytes (Some v) h = h

unsigned_never : (bits : ℕ) → NeverGrows (unsigned bits)
unsigned_never bits n [] h = tt
unsigned_never bits n (b ∷ bytes) h =
    let small : length bytes ≤ n = omega (arith, h) in
    either n (nat_lt b 128) _ _ (either n (nat_lt b (2 ^ bits)) _ _ small tt)
    (either n (nat_lt 7 bits) _ _ (low n (b - 128) (unsigned (bits - 7) bytes) (unsigned_never (bits - 7) n bytes small)) tt)

biased_never : (bits : ℕ) → NeverGrows (biased bits)
biased_never bits n [] h = tt
biased_never bits n (b ∷ bytes) h =
    let small : length bytes ≤ n = omega (arith, h) in
    either n (nat_lt b 128) _ _ (rest n bytes (last_biased bits b) small)
    (either n (nat_lt 7 bits) _ _ (low n (b - 128) (biased (bits - 7) bytes) (biased_never (bits - 7) n bytes small)) tt)

unbiased : (n bits : ℕ) (o : Option (ℕ × List ℕ)) → LeavesAtMost n o → LeavesAtMost n (without_bias bits o)
unbiased n bits None h = tt
unbiased n bits (Some r) h = h

signed_never : (bits : ℕ) → NeverGrows (signed bits)
signed_never bits n bytes h = unbiased n bits (biased bits bytes) (biased_never bits n bytes h)

byte_never : NeverGrows byte
byte_never n [] h = tt
byte_never n (b ∷ bytes) h = omega (arith, h)

float32_never : NeverGrows float32
unfolding float32
float32_never n bytes h =
    let small : length (drop 4 bytes) ≤ n = omega (arith, h, length-drop 4 bytes) in
    either n (nat_lt (length bytes) 4) _ _ tt small

float64_never : NeverGrows float64
unfolding float64
float64_never n bytes h =
    after n (float32 bytes) _ (float32_never n bytes h)
    (λ l s. after n (float32 l.1) _ (float32_never n l.1 s) (λ k t. t))

-- ---- lists

so_many_never : {A : Type 0} → (item : List ℕ → Option (A × List ℕ)) → NeverGrows item → (count : ℕ) → NeverGrows (so_many item count)
so_many_never item each zero n bytes h = h
so_many_never item each (suc count) n bytes h =
    after n (item bytes) _ (each n bytes h)
    (λ first s. after n (so_many item count first.1) _ (so_many_never item each count n first.1 s) (λ others t. t))

list_never : {A : Type 0} → (item : List ℕ → Option (A × List ℕ)) → NeverGrows item → NeverGrows (list_of item)
unfolding list_of
list_never item each n bytes h =
    after n (unsigned 32 bytes) _ (unsigned_never 32 n bytes h) (λ count s. so_many_never item each count.0 n count.1 s)

-- ---- types

type_number_never : NeverGrows type_number
type_number_never n bytes h =
    after n (biased 33 bytes) _ (biased_never 33 n bytes h) (λ i s. either n (nat_lt i.0 (2 ^ 32)) _ _ tt s)

named_never : (n : ℕ) (heap : UnpackedIndex → HeapType) (types : CanonicalTypes) (o : Option (ℕ × List ℕ)) → LeavesAtMost n o → LeavesAtMost n (named heap types o)
named_never n heap types None h = tt
named_never n heap types (Some i) h = h

shared_never : NeverGrows shared_heap
shared_never n bytes h =
    after n (byte bytes) _ (byte_never n bytes h) (λ code s. given n (abstract_type code.0) _ (λ ty. s))

unshared_never : (types : CanonicalTypes) (o : Option AbstractHeapType) (code n : ℕ) (bytes : List ℕ) → length (code ∷ bytes) ≤ n → LeavesAtMost n (unshared_heap types o code bytes)
unshared_never types (Some ty) code n bytes h = omega (arith, h)
unshared_never types None code n bytes h =
    let small : length bytes ≤ n = omega (arith, h) in
    either n (nat_eq code 0x62) _ _ (named_never n Exact types (unsigned 32 bytes) (unsigned_never 32 n bytes small))
    (named_never n Concrete types (type_number (code ∷ bytes)) (type_number_never n (code ∷ bytes) h))

heap_type_never : (types : CanonicalTypes) → NeverGrows (heap_type types)
unfolding heap_type
heap_type_never types n [] h = tt
heap_type_never types n (code ∷ bytes) h =
    either n (nat_eq code 0x65) _ _ (shared_never n bytes (omega (arith, h)))
    (unshared_never types (abstract_type code) code n bytes h)

reference_type_never : (types : CanonicalTypes) (nullable : Bool) → NeverGrows (reference_type types nullable)
unfolding reference_type
reference_type_never types nullable n bytes h =
    after n (heap_type types bytes) _ (heap_type_never types n bytes h)
    (λ heap s. given n (reference_to nullable heap.0) _ (λ ty. s))

ref_type_never : (types : CanonicalTypes) → NeverGrows (ref_type types)
unfolding ref_type
ref_type_never types n [] h = tt
ref_type_never types n (code ∷ bytes) h =
    let small : length bytes ≤ n = omega (arith, h) in
    either n (nat_eq code 0x63) _ _ (reference_type_never types true n bytes small)
    (either n (nat_eq code 0x64) _ _ (reference_type_never types false n bytes small)
    (either n (nat_eq code 0x65) _ _ (reference_type_never types true n (code ∷ bytes) h)
    (either n (is_some (abstract_type code)) _ _ (reference_type_never types true n (code ∷ bytes) h) tt)))

value_never : (types : CanonicalTypes) (o : Option ValType) (n : ℕ) (bytes : List ℕ) → length bytes ≤ n → LeavesAtMost n (value_of types o bytes)
value_never types (Some ty) n bytes h = omega (arith, h, length-drop 1 bytes)
value_never types None n bytes h =
    after n (ref_type types bytes) _ (ref_type_never types n bytes h) (λ ty s. s)

value_type_never : (types : CanonicalTypes) → NeverGrows (value_type types)
unfolding value_type
value_type_never types n [] h = tt
value_type_never types n (code ∷ bytes) h = value_never types (number_type code) n (code ∷ bytes) h

-- ---- immediates

of_value_never : (n : ℕ) (o : Option (ValType × List ℕ)) → LeavesAtMost n o → LeavesAtMost n (of_value o)
of_value_never n None h = tt
of_value_never n (Some ty) h = h

of_function_never : (n : ℕ) (types : CanonicalTypes) (o : Option (ℕ × List ℕ)) → LeavesAtMost n o → LeavesAtMost n (of_function types o)
of_function_never n types None h = tt
of_function_never n types (Some i) h = h

block_type_never : (types : CanonicalTypes) → NeverGrows (block_type types)
unfolding block_type
block_type_never types n [] h = tt
block_type_never types n (code ∷ bytes) h =
    either n (nat_eq code 0x40) _ _ (omega (arith, h))
    (either n _ _ _ (of_value_never n (value_type types (code ∷ bytes)) (value_type_never types n (code ∷ bytes) h))
    (of_function_never n types (type_number (code ∷ bytes)) (type_number_never n (code ∷ bytes) h)))

in_memory_never : (align memory : ℕ) → NeverGrows (in_memory align memory)
in_memory_never align memory n bytes h = after n (unsigned 64 bytes) _ (unsigned_never 64 n bytes h) (λ offset s. s)

memarg_never : NeverGrows memarg
unfolding memarg
memarg_never n bytes h =
    after n (unsigned 32 bytes) _ (unsigned_never 32 n bytes h)
    (λ flags s. either n (nat_lt flags.0 0x40) _ _ (in_memory_never flags.0 0 n flags.1 s)
    (either n (nat_lt flags.0 0x80) _ _
    (after n (unsigned 32 flags.1) _ (unsigned_never 32 n flags.1 s) (λ m t. in_memory_never (flags.0 - 0x40) m.0 n m.1 t)) tt))

two_never : {A : Type 0} → (make : ℕ → ℕ → A) → NeverGrows (λ bytes. do
  i ← unsigned 32 bytes
  j ← unsigned 32 i.1
  Some (make i.0 j.0, j.1))
two_never make n bytes h =
    after n (unsigned 32 bytes) _ (unsigned_never 32 n bytes h)
    (λ i s. after n (unsigned 32 i.1) _ (unsigned_never 32 n i.1 s) (λ j t. t))

one_never : {A : Type 0} → (make : ℕ → A) → NeverGrows (λ bytes. do
  i ← unsigned 32 bytes
  Some (make i.0, i.1))
one_never make n bytes h = after n (unsigned 32 bytes) _ (unsigned_never 32 n bytes h) (λ i s. s)

catch_never : NeverGrows catch_clause
unfolding catch_clause
catch_never n bytes h =
    after n (byte bytes) _ (byte_never n bytes h)
    (λ code s. either n (nat_eq code.0 0x00) _ _ (two_never _ n code.1 s)
    (either n (nat_eq code.0 0x01) _ _ (two_never _ n code.1 s)
    (either n (nat_eq code.0 0x02) _ _ (one_never _ n code.1 s)
    (either n (nat_eq code.0 0x03) _ _ (one_never _ n code.1 s) tt))))

handler_never : NeverGrows handler
unfolding handler
handler_never n bytes h =
    after n (byte bytes) _ (byte_never n bytes h)
    (λ code s. either n (nat_eq code.0 0x00) _ _ (two_never _ n code.1 s)
    (either n (nat_eq code.0 0x01) _ _ (one_never _ n code.1 s) tt))

cast_never : (types : CanonicalTypes) → NeverGrows (cast types)
unfolding cast
cast_never types n bytes h =
    after n (byte bytes) _ (byte_never n bytes h)
    (λ flags s. either n (nat_lt flags.0 4) _ _
    (after n (unsigned 32 flags.1) _ (unsigned_never 32 n flags.1 s)
    (λ label t. after n (reference_type types (nat_eq (flags.0 % 2) 1) label.1) _ (reference_type_never types _ n label.1 t)
    (λ source u. after n (reference_type types (nat_eq (flags.0 / 2) 1) source.1) _ (reference_type_never types _ n source.1 u) (λ target w. w)))) tt)

ordering_never : NeverGrows ordering
unfolding ordering
ordering_never n bytes h =
    after n (byte bytes) _ (byte_never n bytes h) (λ code s. given n (ordering_of code.0) _ (λ order. s))

-- ---- operators

-- an operator of this form
by_form : (form : Form) (code : ℕ) (types : CanonicalTypes) → NeverGrows (operator_by form code types)
unfolding index_op two_index_op type_op typed_index_op two_type_op heap_op cast_op block_op access_op constant_i32 constant_i64 constant_f32 constant_f64 branch_table select_op try_table_op resume_op resume_throw_op atomic_op fence_op global_op table_op field_op array_op
by_form Illegal code types n bytes h = tt
by_form Plain code types n bytes h = given n (at code plain_ops) _ (λ op. h)
by_form Block code types n bytes h =
    after n (block_type types bytes) _ (block_type_never types n bytes h) (λ ty s. given n (at code block_ops) _ (λ op. s))
by_form Index code types n bytes h =
    after n (unsigned 32 bytes) _ (unsigned_never 32 n bytes h) (λ i s. given n (at code index_ops) _ (λ op. s))
by_form TwoIndices code types n bytes h =
    after n (unsigned 32 bytes) _ (unsigned_never 32 n bytes h)
    (λ i s. after n (unsigned 32 i.1) _ (unsigned_never 32 n i.1 s) (λ j t. given n (at code two_index_ops) _ (λ op. t)))
by_form TypeIndex code types n bytes h =
    after n (unsigned 32 bytes) _ (unsigned_never 32 n bytes h) (λ i s. given n (at code type_ops) _ (λ op. s))
by_form TypedIndex code types n bytes h =
    after n (unsigned 32 bytes) _ (unsigned_never 32 n bytes h)
    (λ i s. after n (unsigned 32 i.1) _ (unsigned_never 32 n i.1 s) (λ j t. given n (at code typed_index_ops) _ (λ op. t)))
by_form TwoTypes code types n bytes h =
    after n (unsigned 32 bytes) _ (unsigned_never 32 n bytes h)
    (λ i s. after n (unsigned 32 i.1) _ (unsigned_never 32 n i.1 s) (λ j t. given n (at code two_type_ops) _ (λ op. t)))
by_form Heap code types n bytes h =
    after n (heap_type types bytes) _ (heap_type_never types n bytes h) (λ ty s. given n (at code heap_ops) _ (λ op. s))
by_form Cast code types n bytes h =
    after n (cast types bytes) _ (cast_never types n bytes h) (λ c s. given n (at code cast_ops) _ (λ op. s))
by_form Access code types n bytes h =
    after n (memarg bytes) _ (memarg_never n bytes h) (λ m s. given n (at code access_ops) _ (λ op. s))
by_form OfAtomic code types n bytes h =
    after n (memarg bytes) _ (memarg_never n bytes h) (λ m s. given n (atomic_at (code - 0xfe10) m.0) _ (λ op. s))
by_form I32 code types n bytes h = after n (signed 32 bytes) _ (signed_never 32 n bytes h) (λ z s. s)
by_form I64 code types n bytes h = after n (signed 64 bytes) _ (signed_never 64 n bytes h) (λ z s. s)
by_form F32 code types n bytes h = after n (float32 bytes) _ (float32_never n bytes h) (λ z s. s)
by_form F64 code types n bytes h = after n (float64 bytes) _ (float64_never n bytes h) (λ z s. s)
by_form OfNumeric code types n bytes h = given n (from 0x45 numeric_ops code) _ (λ op. h)
by_form Conversion code types n bytes h = given n (from 0xa7 conversion_ops code) _ (λ op. h)
by_form Labels code types n bytes h =
    after n (list_of (unsigned 32) bytes) _ (list_never (unsigned 32) (unsigned_never 32) n bytes h)
    (λ labels s. after n (unsigned 32 labels.1) _ (unsigned_never 32 n labels.1 s) (λ default t. t))
by_form Types code types n bytes h =
    after n (list_of (value_type types) bytes) _ (list_never (value_type types) (value_type_never types) n bytes h) (λ tys s. s)
by_form Clauses code types n bytes h =
    after n (block_type types bytes) _ (block_type_never types n bytes h)
    (λ ty s. after n (list_of catch_clause ty.1) _ (list_never catch_clause catch_never n ty.1 s) (λ clauses t. t))
by_form Handlers code types n bytes h =
    after n (unsigned 32 bytes) _ (unsigned_never 32 n bytes h)
    (λ i s. after n (list_of handler i.1) _ (list_never handler handler_never n i.1 s) (λ hs t. given n (at code resume_ops) _ (λ op. t)))
by_form Thrown code types n bytes h =
    after n (unsigned 32 bytes) _ (unsigned_never 32 n bytes h)
    (λ i s. after n (unsigned 32 i.1) _ (unsigned_never 32 n i.1 s)
    (λ tag t. after n (list_of handler tag.1) _ (list_never handler handler_never n tag.1 t) (λ hs u. u)))
by_form Fence code types n bytes h = after n (ordering bytes) _ (ordering_never n bytes h) (λ order s. s)
by_form Global code types n bytes h =
    after n (ordering bytes) _ (ordering_never n bytes h)
    (λ order s. after n (unsigned 32 order.1) _ (unsigned_never 32 n order.1 s) (λ i t. given n (from 0xfe4f global_accesses code) _ (λ access. t)))
by_form OfTable code types n bytes h =
    after n (ordering bytes) _ (ordering_never n bytes h)
    (λ order s. after n (unsigned 32 order.1) _ (unsigned_never 32 n order.1 s) (λ i t. given n (from 0xfe58 table_accesses code) _ (λ access. t)))
by_form Field code types n bytes h =
    after n (ordering bytes) _ (ordering_never n bytes h)
    (λ order s. after n (unsigned 32 order.1) _ (unsigned_never 32 n order.1 s)
    (λ t u. after n (unsigned 32 t.1) _ (unsigned_never 32 n t.1 u) (λ i w. given n (from 0xfe5c field_accesses code) _ (λ access. w))))
by_form OfArray code types n bytes h =
    after n (ordering bytes) _ (ordering_never n bytes h)
    (λ order s. after n (unsigned 32 order.1) _ (unsigned_never 32 n order.1 s) (λ t u. given n (from 0xfe67 field_accesses code) _ (λ access. u)))
by_form Prefix code types n bytes h = tt
by_form Vector code types n bytes h = tt

behind_prefix : (prefix : ℕ) (types : CanonicalTypes) → NeverGrows (prefixed_op prefix types)
unfolding prefixed_op
behind_prefix prefix types n bytes h =
    after n (unsigned 32 bytes) _ (unsigned_never 32 n bytes h)
    (λ code s. given n (from 0 (forms_behind prefix) code.0) _ (λ form. by_form form (prefix * 0x100 + code.0) types n code.1 s))

of_form : (form : Option Form) (code : ℕ) (types : CanonicalTypes) → NeverGrows (operator_of form code types)
of_form None code types n bytes h = tt
of_form (Some Prefix) code types n bytes h = behind_prefix code types n bytes h
of_form (Some form) code types n bytes h = by_form form code types n bytes h

left_by : {A : Type 0} → (n : ℕ) (o : Option (A × List ℕ)) (x : A) (left : List ℕ) → LeavesAtMost n o → o ≡ Some (x, left) → length left ≤ n
left_by n None x left h e = absurd cc
left_by n (Some r) x left h e = let same : r.1 ≡ left = cc in subst (λ l. length l ≤ n) same h

-- an operator takes a byte at least
pub operator_shorter : (types : CanonicalTypes) (bytes left : List ℕ) (op : Op) → operator types bytes ≡ Some (op, left) → length left < length bytes
unfolding operator
operator_shorter types [] left op e = absurd cc
operator_shorter types (code ∷ bytes) left op e =
    let few : length left ≤ length bytes =
    left_by (length bytes) (operator_of (from 0 forms code) code types bytes) op left (of_form (from 0 forms code) code types (length bytes) bytes (omega arith)) e in
    omega (arith, few)
