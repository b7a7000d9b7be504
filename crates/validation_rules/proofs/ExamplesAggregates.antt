-- The table's operators on structs and arrays, and their rows, computed: what each wants and pushes, and
-- what each of its premises refuses. What is expected is what the standard's rules say of them, and for
-- shared types the proposal shared-everything-threads.
use Rattle.std.proofs.Common.{◌≡◌, ◌-◌, ℕ, Bool, true, false, List, [], ◌∷◌, map, Option, Some, None, refl}
use Rattle.validate_resources.specs.Lists.{Declared, context_of}
use Rattle.validate_resources.specs.Named.{nothing_declared}
use Rattle.validate_types.specs.Features.{gc}
use Rattle.validate_types.specs.Refs.{reference}
use Rattle.validate_types.specs.declared.heap.AbstractHeapType.TheVariants.{Func, Any, Eq as EqHeap, Struct as StructHeap, Array as ArrayHeap, None as NoneHeap}
use Rattle.validate_types.specs.declared.heap.HeapType.{HeapType}
use Rattle.validate_types.specs.declared.heap.HeapType.TheVariants.{Abstract}
use Rattle.validate_types.specs.declared.refs.RefType.{RefType}
use Rattle.validate_types.specs.declared.types.CompositeInnerType.TheVariants.{Struct as StructInner}
use Rattle.validate_types.specs.declared.types.FieldType.{FieldType}
use Rattle.validate_types.specs.declared.types.StorageType.TheVariants.{I8, I16, Val as Value}
use Rattle.validate_visit.specs.declared.numbers.Sign.TheVariants.{Signed, Unsigned}
use Rattle.validate_visit.specs.declared.op.ArrayOp.TheVariants.{ArrayNew, ArrayNewDefault, ArrayNewFixed, ArrayNewData, ArrayNewElem, ArrayGet, ArrayGetPacked, ArraySet, ArrayLen, ArrayFill, ArrayCopy, ArrayInitData, ArrayInitElem}
use Rattle.validate_visit.specs.declared.op.FieldIndex.{FieldIndex}
use Rattle.validate_visit.specs.declared.op.Op.{Op}
use Rattle.validate_visit.specs.declared.op.Op.TheVariants.{Struct, Array}
use Rattle.validate_visit.specs.declared.op.StructOp.TheVariants.{StructGet, StructGetPacked, StructSet}
use Rattle.validation_rules.specs.Context.{SubType, ValType, I32, I64, F32, F64, V128, Empty, Context}
use Rattle.validation_rules.specs.Fits.{MaybeType, Bottom, UnknownRef, Known}
use Rattle.validation_rules.specs.Rows.{body_head}
use Rattle.validation_rules.specs.Static.{State, open_state, step}
use Rattle.validation_rules.specs.Operators.{row_operator, plain_row, operator}
use Rattle.validation_rules.proofs.ExampleWords.{null, no_null, func, concrete, exact, a_type, of_functions}
use Rattle.validation_rules.proofs.ExampleWords.{written, fixed, an_array, every, within, struct_new}
use Rattle.validation_rules.proofs.ExampleWords.{struct_new_default, premise_in}

-- ---- a module of a function type, structs and arrays, four element segments and two data segments

abbrev eq : HeapType
eq = Abstract false EqHeap

abbrev any : HeapType
any = Abstract false Any

abbrev a_struct : Bool → List FieldType → SubType
a_struct shared fields = a_type shared (StructInner fields)

-- 0 is of functions, 1 to 4 are structs, of which 2 has a field without a default value, between two that have one, and 3 is shared
abbrev structs : List SubType → List SubType
structs arrays =
    a_type false (of_functions [] [])
    ∷ a_struct false (written I8 ∷ fixed I16 ∷ written (Value F64) ∷ fixed (Value I64) ∷ [])
    ∷ a_struct false (written (Value (null func)) ∷ written (Value (no_null func)) ∷ written (Value I32) ∷ [])
    ∷ a_struct true (written (Value I32) ∷ [])
    ∷ a_struct false []
    ∷ arrays

-- 5 to 9 are arrays that can be written, 9 without a default value; 10 to 12 can't be; 13 is shared
abbrev types : List SubType
types =
    structs
    (an_array false (written I8)
    ∷ an_array false (written I16)
    ∷ an_array false (written (Value I64))
    ∷ an_array false (written (Value (null any)))
    ∷ an_array false (written (Value (no_null eq)))
    ∷ an_array false (fixed I8)
    ∷ an_array false (fixed (Value I64))
    ∷ an_array false (fixed (Value (null any)))
    ∷ an_array true (written I8)
    ∷ [])

-- with null and without
abbrev elements : List RefType
elements = reference true any ∷ reference true eq ∷ reference false eq ∷ reference true func ∷ []

abbrev declared : Declared
declared = record nothing_declared { types = types; elements = elements; data_count = Some 2 }

-- with these proposals on
abbrev under : ℕ → Bool → Context
under bits shared = within declared bits shared

abbrev cx : Context
cx = under every false

-- in a shared function
abbrev in_shared : Context
in_shared = under every true

-- of a module that doesn't say how many data segments it has
abbrev without_count : Context
without_count = record cx { of_module = context_of (record declared { data_count = None }) }

-- ---- operators

abbrev field : ℕ → ℕ → FieldIndex
field i k = record { struct_type_index = i; field_index = k }

abbrev struct_get : ℕ → ℕ → Op
struct_get i k = Struct (StructGet (field i k))

abbrev struct_get_s : ℕ → ℕ → Op
struct_get_s i k = Struct (StructGetPacked Signed (field i k))

abbrev struct_get_u : ℕ → ℕ → Op
struct_get_u i k = Struct (StructGetPacked Unsigned (field i k))

abbrev struct_set : ℕ → ℕ → Op
struct_set i k = Struct (StructSet (field i k))

abbrev array_new : ℕ → Op
array_new i = Array (ArrayNew i)

abbrev array_new_default : ℕ → Op
array_new_default i = Array (ArrayNewDefault i)

abbrev array_new_fixed : ℕ → ℕ → Op
array_new_fixed i n = Array (ArrayNewFixed i n)

abbrev array_new_data : ℕ → ℕ → Op
array_new_data i segment = Array (ArrayNewData i segment)

abbrev array_new_elem : ℕ → ℕ → Op
array_new_elem i segment = Array (ArrayNewElem i segment)

abbrev array_get : ℕ → Op
array_get i = Array (ArrayGet i)

abbrev array_get_s : ℕ → Op
array_get_s i = Array (ArrayGetPacked Signed i)

abbrev array_get_u : ℕ → Op
array_get_u i = Array (ArrayGetPacked Unsigned i)

abbrev array_set : ℕ → Op
array_set i = Array (ArraySet i)

abbrev array_len : Op
array_len = Array ArrayLen

abbrev array_fill : ℕ → Op
array_fill i = Array (ArrayFill i)

-- to the first, from the second
abbrev array_copy : ℕ → ℕ → Op
array_copy to from = Array (ArrayCopy to from)

abbrev array_init_data : ℕ → ℕ → Op
array_init_data i segment = Array (ArrayInitData i segment)

abbrev array_init_elem : ℕ → ℕ → Op
array_init_elem i segment = Array (ArrayInitElem i segment)

-- ---- outcomes

abbrev state : List MaybeType → Bool → State
state own dead = open_state (record { head = body_head Empty; operands = own; dead = dead; first_set = [] } ∷ [])

-- the state after the operator over these operands, the top first
abbrev live_after : Op × List ValType → Option State
live_after p = step cx (operator cx p.0) (state (map Known p.1) false)

abbrev dead_after : Op × List MaybeType → Option State
dead_after p = step cx (operator cx p.0) (state p.1 true)

abbrev Goes : Op → List ValType → List ValType → Type 0
Goes op own left = live_after (op, own) ≡ Some (state (map Known left) false)

abbrev GoesInDead : Op → List MaybeType → List MaybeType → Type 0
GoesInDead op own left = dead_after (op, own) ≡ Some (state left true)

-- each of these alone is refused
abbrev NoneGoes : List (Op × List ValType) → Type 0
NoneGoes steps = map live_after steps ≡ map (λ p. None) steps

abbrev NoneGoesInDead : List (Op × List MaybeType) → Type 0
NoneGoesInDead steps = map dead_after steps ≡ map (λ p. None) steps

abbrev premise : Context → Op → Bool
premise c op = premise_in c [] op

abbrev AllHold : List Op → Type 0
AllHold ops = map (premise cx) ops ≡ map (λ op. true) ops

abbrev NoneHolds : List Op → Type 0
NoneHolds ops = map (premise cx) ops ≡ map (λ op. false) ops

-- With the proposal `gc` alone, the operator wants and pushes exactly these types, and does nothing else;
-- with all others its row doesn't hold.
abbrev Says : Op → List ValType → List ValType → Type 0
Says op expected pushed =
    (operator (under gc false) op ≡ row_operator (plain_row expected pushed)) × (premise (under (every - gc) false) op ≡ false)

-- ---- rows of structs

new_of_fields : Says (struct_new 1) (I32 ∷ I32 ∷ F64 ∷ I64 ∷ []) (no_null (concrete 1) ∷ [])
new_of_fields = (refl, refl)

new_of_none : Says (struct_new 4) [] (no_null (concrete 4) ∷ [])
new_of_none = (refl, refl)

new_without_default : Says (struct_new 2) (null func ∷ no_null func ∷ I32 ∷ []) (no_null (concrete 2) ∷ [])
new_without_default = (refl, refl)

new_default : Says (struct_new_default 1) [] (no_null (concrete 1) ∷ [])
new_default = (refl, refl)

get_whole : Says (struct_get 1 3) (null (concrete 1) ∷ []) (I64 ∷ [])
get_whole = (refl, refl)

get_packed : Says (struct_get_s 1 0) (null (concrete 1) ∷ []) (I32 ∷ []) × Says (struct_get_u 1 1) (null (concrete 1) ∷ []) (I32 ∷ [])
get_packed = ((refl, refl), (refl, refl))

set_field : Says (struct_set 1 2) (null (concrete 1) ∷ F64 ∷ []) [] × Says (struct_set 1 0) (null (concrete 1) ∷ I32 ∷ []) [] × Says (struct_set 2 1) (null (concrete 2) ∷ no_null func ∷ []) []
set_field = ((refl, refl), (refl, refl), (refl, refl))

-- ---- structs

-- what lies below the fields stays
new_takes : Goes (struct_new 1) (I64 ∷ F64 ∷ I32 ∷ I32 ∷ F32 ∷ []) (no_null (exact 1) ∷ F32 ∷ [])
new_takes = refl

-- the fields in the other order, one too few, null where a field has none, and another reference
fields_refused : NoneGoes ((struct_new 1, I32 ∷ I32 ∷ F64 ∷ I64 ∷ []) ∷ (struct_new 1, I64 ∷ F64 ∷ I32 ∷ []) ∷ (struct_new 2, I32 ∷ null func ∷ null func ∷ []) ∷ (struct_new 2, I32 ∷ no_null func ∷ no_null eq ∷ []) ∷ [])
fields_refused = refl

defaults : AllHold (struct_new_default 1 ∷ struct_new_default 3 ∷ struct_new_default 4 ∷ [])
defaults = refl

no_default : NoneHolds (struct_new_default 2 ∷ array_new_default 9 ∷ [])
no_default = refl

-- from a reference below the struct's, null or not; and not from one above, or to another
gets : Goes (struct_get 1 3) (no_null (concrete 1) ∷ I32 ∷ []) (I64 ∷ I32 ∷ []) × Goes (struct_get 1 2) (null (Abstract false NoneHeap) ∷ []) (F64 ∷ [])
gets = (refl, refl)

get_refused : NoneGoes ((struct_get 1 3, null (Abstract false StructHeap) ∷ []) ∷ (struct_get 1 3, null (concrete 4) ∷ []) ∷ (struct_get 1 3, I32 ∷ []) ∷ (struct_get 1 3, []) ∷ [])
get_refused = refl

-- a packed field is read with a sign or without, any other one without these words
packed_alone : map (premise cx) (struct_get_s 1 0 ∷ struct_get_u 1 0 ∷ struct_get_s 1 1 ∷ struct_get_s 1 2 ∷ struct_get_u 1 3 ∷ struct_get_s 2 0 ∷ []) ≡ true ∷ true ∷ true ∷ false ∷ false ∷ false ∷ []
packed_alone = refl

whole_alone : map (premise cx) (struct_get 1 0 ∷ struct_get 1 1 ∷ struct_get 1 2 ∷ struct_get 1 3 ∷ struct_get 2 0 ∷ []) ≡ false ∷ false ∷ true ∷ true ∷ true ∷ []
whole_alone = refl

-- the value is on top
sets : Goes (struct_set 1 2) (F64 ∷ null (concrete 1) ∷ I32 ∷ []) (I32 ∷ [])
sets = refl

set_refused : NoneGoes ((struct_set 1 2, null (concrete 1) ∷ F64 ∷ []) ∷ (struct_set 1 2, F64 ∷ null (concrete 2) ∷ []) ∷ (struct_set 1 2, F32 ∷ null (concrete 1) ∷ []) ∷ (struct_set 2 1, null func ∷ null (concrete 2) ∷ []) ∷ (struct_set 1 2, F64 ∷ []) ∷ [])
set_refused = refl

written_alone : map (premise cx) (struct_set 1 0 ∷ struct_set 1 1 ∷ struct_set 1 2 ∷ struct_set 1 3 ∷ []) ≡ true ∷ false ∷ true ∷ false ∷ []
written_alone = refl

-- there is no fifteenth type, and no fifth field; 0 is of functions, and 5 an array
no_struct : NoneHolds (struct_new 14 ∷ struct_new_default 14 ∷ struct_get 14 0 ∷ struct_get_s 14 0 ∷ struct_set 14 0 ∷ struct_new 0 ∷ struct_new 5 ∷ struct_new_default 0 ∷ struct_new_default 5 ∷ struct_get 0 0 ∷ struct_get_s 5 0 ∷ struct_set 5 0 ∷ [])
no_struct = refl

no_field : NoneHolds (struct_get 1 4 ∷ struct_get_s 1 4 ∷ struct_set 1 4 ∷ struct_get 4 0 ∷ struct_set 3 1 ∷ [])
no_field = refl

-- an unknown type or field is refused in dead code too
struct_in_dead : GoesInDead (struct_new 1) [] (Known (no_null (exact 1)) ∷ []) × GoesInDead (struct_get 1 3) [] (Known I64 ∷ []) × GoesInDead (struct_get 1 3) (UnknownRef None ∷ []) (Known I64 ∷ []) × GoesInDead (struct_set 1 2) [] []
struct_in_dead = (refl, refl, refl, refl)

struct_of_other_known : NoneGoesInDead ((struct_new 1, Known I32 ∷ []) ∷ (struct_get 1 3, Known (null (concrete 2)) ∷ []) ∷ (struct_get 1 4, []) ∷ (struct_get 1 0, []) ∷ (struct_set 1 1, []) ∷ (struct_new_default 2, []) ∷ (struct_new 14, []) ∷ (struct_get 1 3, UnknownRef (Some Func) ∷ []) ∷ [])
struct_of_other_known = refl

-- a shared function names shared types alone
shared_structs : map (premise in_shared) (struct_new 3 ∷ struct_new_default 3 ∷ struct_get 3 0 ∷ struct_set 3 0 ∷ []) ≡ true ∷ true ∷ true ∷ true ∷ []
shared_structs = refl

unshared_structs : map (premise in_shared) (struct_new 1 ∷ struct_new_default 1 ∷ struct_get 1 2 ∷ struct_get_s 1 0 ∷ struct_set 1 2 ∷ []) ≡ false ∷ false ∷ false ∷ false ∷ false ∷ []
unshared_structs = refl

each_struct : AllHold (struct_new 3 ∷ struct_get 3 0 ∷ struct_set 3 0 ∷ array_get_s 13 ∷ array_set 13 ∷ array_copy 13 5 ∷ [])
each_struct = refl

-- ---- rows of arrays

array_of_value : Says (array_new 7) (I64 ∷ I32 ∷ []) (no_null (concrete 7) ∷ []) × Says (array_new 5) (I32 ∷ I32 ∷ []) (no_null (concrete 5) ∷ []) × Says (array_new 9) (no_null eq ∷ I32 ∷ []) (no_null (concrete 9) ∷ [])
array_of_value = ((refl, refl), (refl, refl), (refl, refl))

array_of_default : Says (array_new_default 8) (I32 ∷ []) (no_null (concrete 8) ∷ [])
array_of_default = (refl, refl)

array_of_each : Says (array_new_fixed 7 3) (I64 ∷ I64 ∷ I64 ∷ []) (no_null (concrete 7) ∷ []) × Says (array_new_fixed 6 1) (I32 ∷ []) (no_null (concrete 6) ∷ []) × Says (array_new_fixed 9 0) [] (no_null (concrete 9) ∷ [])
array_of_each = ((refl, refl), (refl, refl), (refl, refl))

array_of_data : Says (array_new_data 5 1) (I32 ∷ I32 ∷ []) (no_null (concrete 5) ∷ []) × Says (array_new_data 7 0) (I32 ∷ I32 ∷ []) (no_null (concrete 7) ∷ [])
array_of_data = ((refl, refl), (refl, refl))

array_of_elements : Says (array_new_elem 8 1) (I32 ∷ I32 ∷ []) (no_null (concrete 8) ∷ [])
array_of_elements = (refl, refl)

array_gets : Says (array_get 7) (null (concrete 7) ∷ I32 ∷ []) (I64 ∷ []) × Says (array_get 9) (null (concrete 9) ∷ I32 ∷ []) (no_null eq ∷ [])
array_gets = ((refl, refl), (refl, refl))

array_gets_packed : Says (array_get_s 5) (null (concrete 5) ∷ I32 ∷ []) (I32 ∷ []) × Says (array_get_u 6) (null (concrete 6) ∷ I32 ∷ []) (I32 ∷ [])
array_gets_packed = ((refl, refl), (refl, refl))

array_sets : Says (array_set 7) (null (concrete 7) ∷ I32 ∷ I64 ∷ []) [] × Says (array_set 5) (null (concrete 5) ∷ I32 ∷ I32 ∷ []) []
array_sets = ((refl, refl), (refl, refl))

array_fills : Says (array_fill 7) (null (concrete 7) ∷ I32 ∷ I64 ∷ I32 ∷ []) []
array_fills = (refl, refl)

array_copies : Says (array_copy 7 11) (null (concrete 7) ∷ I32 ∷ null (concrete 11) ∷ I32 ∷ I32 ∷ []) []
array_copies = (refl, refl)

array_inits : Says (array_init_data 7 0) (null (concrete 7) ∷ I32 ∷ I32 ∷ I32 ∷ []) [] × Says (array_init_elem 8 1) (null (concrete 8) ∷ I32 ∷ I32 ∷ I32 ∷ []) []
array_inits = ((refl, refl), (refl, refl))

-- ---- arrays

-- the length is on top
array_takes : Goes (array_new 7) (I32 ∷ I64 ∷ F32 ∷ []) (no_null (exact 7) ∷ F32 ∷ [])
array_takes = refl

array_refused : NoneGoes ((array_new 7, I64 ∷ I32 ∷ []) ∷ (array_new 7, I32 ∷ []) ∷ (array_new 7, I64 ∷ I64 ∷ []) ∷ (array_new_default 7, I64 ∷ []) ∷ (array_new_default 7, []) ∷ (array_new_fixed 7 2, I64 ∷ []) ∷ (array_new_fixed 7 2, I32 ∷ I64 ∷ []) ∷ (array_new_data 7 0, I32 ∷ []) ∷ (array_new_elem 8 0, I32 ∷ I64 ∷ []) ∷ [])
array_refused = refl

fixed_takes : Goes (array_new_fixed 8 2) (no_null eq ∷ null any ∷ null any ∷ []) (no_null (exact 8) ∷ null any ∷ []) × Goes (array_new_fixed 8 0) (I32 ∷ []) (no_null (exact 8) ∷ I32 ∷ [])
fixed_takes = (refl, refl)

-- numbers and vectors are read from data, and no references; there is no third segment
data_of_each : map (premise cx) (array_new_data 5 0 ∷ array_new_data 6 0 ∷ array_new_data 7 1 ∷ array_new_data 8 0 ∷ array_new_data 9 0 ∷ array_new_data 7 2 ∷ []) ≡ true ∷ true ∷ true ∷ false ∷ false ∷ false ∷ []
data_of_each = refl

init_data_of_each : map (premise cx) (array_init_data 5 0 ∷ array_init_data 6 0 ∷ array_init_data 7 1 ∷ array_init_data 8 0 ∷ array_init_data 9 0 ∷ array_init_data 7 2 ∷ array_init_data 11 0 ∷ []) ≡ true ∷ true ∷ true ∷ false ∷ false ∷ false ∷ false ∷ []
init_data_of_each = refl

data_uncounted : map (premise without_count) (array_new_data 7 0 ∷ array_init_data 7 0 ∷ array_new 7 ∷ []) ≡ false ∷ false ∷ true ∷ []
data_uncounted = refl

-- a segment of the type, or of one below it; not of one above or another, not for numbers; there is no fifth
elements_of_each : map (premise cx) (array_new_elem 8 0 ∷ array_new_elem 8 1 ∷ array_new_elem 8 2 ∷ array_new_elem 8 3 ∷ array_new_elem 8 4 ∷ array_new_elem 9 2 ∷ array_new_elem 9 1 ∷ array_new_elem 9 0 ∷ array_new_elem 7 0 ∷ array_new_elem 5 0 ∷ []) ≡ true ∷ true ∷ true ∷ false ∷ false ∷ true ∷ false ∷ false ∷ false ∷ false ∷ []
elements_of_each = refl

init_elements_of_each : map (premise cx) (array_init_elem 8 0 ∷ array_init_elem 8 2 ∷ array_init_elem 8 3 ∷ array_init_elem 8 4 ∷ array_init_elem 9 2 ∷ array_init_elem 9 0 ∷ array_init_elem 7 0 ∷ array_init_elem 12 0 ∷ []) ≡ true ∷ true ∷ false ∷ false ∷ true ∷ false ∷ false ∷ false ∷ []
init_elements_of_each = refl

reads : Goes (array_get 8) (I32 ∷ null (concrete 8) ∷ F32 ∷ []) (null any ∷ F32 ∷ []) × Goes (array_get_u 5) (I32 ∷ no_null (concrete 5) ∷ []) (I32 ∷ [])
reads = (refl, refl)

read_refused : NoneGoes ((array_get 7, null (concrete 7) ∷ I32 ∷ []) ∷ (array_get 7, I64 ∷ null (concrete 7) ∷ []) ∷ (array_get 7, I32 ∷ null (concrete 8) ∷ []) ∷ (array_get 7, I32 ∷ null (Abstract false ArrayHeap) ∷ []) ∷ (array_get 7, I32 ∷ []) ∷ [])
read_refused = refl

packed_arrays : map (premise cx) (array_get_s 5 ∷ array_get_u 6 ∷ array_get_s 10 ∷ array_get_s 7 ∷ array_get_u 8 ∷ array_get 5 ∷ array_get 6 ∷ array_get 7 ∷ array_get 11 ∷ []) ≡ true ∷ true ∷ true ∷ false ∷ false ∷ false ∷ false ∷ true ∷ true ∷ []
packed_arrays = refl

writes : Goes (array_set 8) (no_null eq ∷ I32 ∷ null (concrete 8) ∷ []) [] × Goes (array_fill 8) (I32 ∷ no_null eq ∷ I32 ∷ null (concrete 8) ∷ []) []
writes = (refl, refl)

write_refused : NoneGoes ((array_set 7, I32 ∷ I64 ∷ null (concrete 7) ∷ []) ∷ (array_set 7, I64 ∷ null (concrete 7) ∷ I32 ∷ []) ∷ (array_set 9, null eq ∷ I32 ∷ null (concrete 9) ∷ []) ∷ (array_fill 7, I64 ∷ I32 ∷ I32 ∷ null (concrete 7) ∷ []) ∷ (array_fill 7, I64 ∷ I32 ∷ null (concrete 7) ∷ []) ∷ [])
write_refused = refl

written_arrays : map (premise cx) (array_set 5 ∷ array_fill 5 ∷ array_copy 5 10 ∷ array_set 10 ∷ array_fill 10 ∷ array_copy 10 5 ∷ array_set 11 ∷ array_fill 11 ∷ array_copy 11 7 ∷ array_copy 12 8 ∷ []) ≡ true ∷ true ∷ true ∷ false ∷ false ∷ false ∷ false ∷ false ∷ false ∷ false ∷ []
written_arrays = refl

-- i8 to i8, i16 to i16, a value to one above it; the array read may be one that can't be written
copied : AllHold (array_copy 5 5 ∷ array_copy 5 10 ∷ array_copy 6 6 ∷ array_copy 7 7 ∷ array_copy 7 11 ∷ array_copy 8 8 ∷ array_copy 8 12 ∷ array_copy 8 9 ∷ array_copy 9 9 ∷ [])
copied = refl

not_copied : NoneHolds (array_copy 5 6 ∷ array_copy 6 5 ∷ array_copy 5 7 ∷ array_copy 7 5 ∷ array_copy 6 7 ∷ array_copy 7 6 ∷ array_copy 9 8 ∷ array_copy 7 8 ∷ array_copy 8 7 ∷ [])
not_copied = refl

-- the reference written to lies under the one read from
copies : Goes (array_copy 8 9) (I32 ∷ I32 ∷ null (concrete 9) ∷ I32 ∷ null (concrete 8) ∷ F32 ∷ []) (F32 ∷ [])
copies = refl

copies_turned : NoneGoes ((array_copy 8 9, I32 ∷ I32 ∷ null (concrete 8) ∷ I32 ∷ null (concrete 9) ∷ []) ∷ (array_copy 8 9, I32 ∷ null (concrete 9) ∷ I32 ∷ null (concrete 8) ∷ []) ∷ (array_copy 8 9, I64 ∷ I32 ∷ null (concrete 9) ∷ I32 ∷ null (concrete 8) ∷ []) ∷ [])
copies_turned = refl

-- there is no fifteenth type; 0 is of functions, and 1 a struct
no_array : NoneHolds (array_new 14 ∷ array_new_default 14 ∷ array_new_fixed 14 0 ∷ array_new_data 14 0 ∷ array_new_elem 14 0 ∷ array_get 14 ∷ array_get_s 14 ∷ array_set 14 ∷ array_fill 14 ∷ array_copy 14 5 ∷ array_copy 5 14 ∷ array_init_data 14 0 ∷ array_init_elem 14 0 ∷ [])
no_array = refl

of_other_kind : NoneHolds (array_new 0 ∷ array_new 1 ∷ array_new_default 1 ∷ array_new_fixed 1 0 ∷ array_new_data 1 0 ∷ array_new_elem 1 0 ∷ array_get 1 ∷ array_get_s 1 ∷ array_set 1 ∷ array_fill 1 ∷ array_copy 1 5 ∷ array_copy 5 1 ∷ array_init_data 1 0 ∷ array_init_elem 0 0 ∷ [])
of_other_kind = refl

array_in_dead : GoesInDead (array_new 7) [] (Known (no_null (exact 7)) ∷ []) × GoesInDead (array_get 7) (Known I32 ∷ []) (Known I64 ∷ []) × GoesInDead (array_copy 7 11) (Known I32 ∷ Known I32 ∷ UnknownRef None ∷ []) []
array_in_dead = (refl, refl, refl)

array_of_other_known : NoneGoesInDead ((array_new 7, Known I64 ∷ []) ∷ (array_get 7, Known I32 ∷ Known (null (concrete 8)) ∷ []) ∷ (array_copy 5 6, []) ∷ (array_set 11, []) ∷ (array_get 5, []) ∷ (array_new_elem 7 0, []) ∷ [])
array_of_other_known = refl

-- ---- `array.len`: of any array, whatever its null and its sharedness

abbrev arrays : List ValType
arrays = null (Abstract false ArrayHeap) ∷ no_null (Abstract false ArrayHeap) ∷ null (Abstract true ArrayHeap) ∷ null (concrete 7) ∷ no_null (concrete 13) ∷ null (Abstract false NoneHeap) ∷ null (Abstract true NoneHeap) ∷ []

len_of_each : map (λ t. live_after (array_len, t ∷ F32 ∷ [])) arrays ≡ map (λ t. Some (state (Known I32 ∷ Known F32 ∷ []) false)) arrays
len_of_each = refl

len_refused : NoneGoes (map (λ t. (array_len, t ∷ [])) (null eq ∷ null any ∷ null (Abstract false StructHeap) ∷ null (Abstract true EqHeap) ∷ null (concrete 1) ∷ null (concrete 3) ∷ null func ∷ null (concrete 14) ∷ I32 ∷ V128 ∷ []))
len_refused = refl

len_of_none : NoneGoes ((array_len, []) ∷ [])
len_of_none = refl

len_in_dead : GoesInDead array_len [] (Known I32 ∷ []) × GoesInDead array_len (UnknownRef None ∷ []) (Known I32 ∷ []) × GoesInDead array_len (UnknownRef (Some ArrayHeap) ∷ []) (Known I32 ∷ []) × GoesInDead array_len (UnknownRef (Some NoneHeap) ∷ []) (Known I32 ∷ []) × GoesInDead array_len (Bottom ∷ []) (Known I32 ∷ [])
len_in_dead = (refl, refl, refl, refl, refl)

len_of_other_known : NoneGoesInDead (map (λ x. (array_len, x ∷ [])) (UnknownRef (Some Any) ∷ UnknownRef (Some EqHeap) ∷ UnknownRef (Some StructHeap) ∷ UnknownRef (Some Func) ∷ Known I32 ∷ Known (null any) ∷ []))
len_of_other_known = refl

len_closed : premise (under (every - gc) false) array_len ≡ false
len_closed = refl

-- ---- a shared function names shared types alone

shared_arrays : map (premise in_shared) (array_new 13 ∷ array_new_default 13 ∷ array_new_fixed 13 1 ∷ array_new_data 13 0 ∷ array_get_s 13 ∷ array_set 13 ∷ array_len ∷ array_fill 13 ∷ array_copy 13 13 ∷ array_init_data 13 0 ∷ []) ≡ true ∷ true ∷ true ∷ true ∷ true ∷ true ∷ true ∷ true ∷ true ∷ true ∷ []
shared_arrays = refl

unshared_arrays : map (premise in_shared) (array_new 5 ∷ array_new_default 5 ∷ array_new_fixed 5 1 ∷ array_new_data 5 0 ∷ array_new_elem 8 0 ∷ array_get_s 5 ∷ array_get 7 ∷ array_set 5 ∷ array_fill 5 ∷ array_copy 13 5 ∷ array_copy 5 13 ∷ array_init_data 5 0 ∷ array_init_elem 8 0 ∷ []) ≡ false ∷ false ∷ false ∷ false ∷ false ∷ false ∷ false ∷ false ∷ false ∷ false ∷ false ∷ false ∷ false ∷ []
unshared_arrays = refl
