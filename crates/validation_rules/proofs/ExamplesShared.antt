-- The table's operators of shared-everything threads, and their rows, computed: what each wants and pushes,
-- and what each of its premises refuses. What is expected is what the proposal's rules say of them; that a
-- global's references are unshared is upstream's.
use Rattle.std.proofs.Common.{◌≡◌, ◌-◌, ℕ, Bool, true, false, List, [], ◌∷◌, map, refl}
use Rattle.validate_resources.specs.Lists.{Declared}
use Rattle.validate_resources.specs.Named.{nothing_declared}
use Rattle.validate_types.specs.Features.{shared_everything_threads}
use Rattle.validate_types.specs.Refs.{reference}
use Rattle.validate_types.specs.declared.heap.AbstractHeapType.TheVariants.{Func as FuncHeap, Any as AnyHeap, Eq as EqHeap, I31 as I31Heap}
use Rattle.validate_types.specs.declared.heap.HeapType.{HeapType}
use Rattle.validate_types.specs.declared.heap.HeapType.TheVariants.{Abstract}
use Rattle.validate_types.specs.declared.types.CompositeInnerType.TheVariants.{Struct as StructInner}
use Rattle.validate_types.specs.declared.types.FieldType.{FieldType}
use Rattle.validate_types.specs.declared.types.GlobalType.{GlobalType}
use Rattle.validate_types.specs.declared.types.StorageType.TheVariants.{I8, I16, Val as Holds}
use Rattle.validate_types.specs.declared.types.TableType.{TableType}
use Rattle.validate_visit.specs.declared.memory.Ordering.TheVariants.{SeqCst, AcqRel}
use Rattle.validate_visit.specs.declared.numbers.Sign.TheVariants.{Signed, Unsigned}
use Rattle.validate_visit.specs.declared.op.Op.{Op}
use Rattle.validate_visit.specs.declared.op.Op.TheVariants.{Shared}
use Rattle.validate_visit.specs.declared.shared.FieldAccess.{FieldAccess}
use Rattle.validate_visit.specs.declared.shared.FieldAccess.TheVariants.{Whole, GetPacked}
use Rattle.validate_visit.specs.declared.shared.Update.{Update}
use Rattle.validate_visit.specs.declared.shared.Update.TheVariants.{Value, Rmw}
use Rattle.validate_visit.specs.declared.shared.SharedOp.TheVariants.{Global, Table, Struct, Array, RefI31Shared}
use Rattle.validate_visit.specs.declared.shared.SharedRmwOp.TheVariants.{Add, Xor}
use Rattle.validate_visit.specs.declared.shared.Exchange.{Exchange}
use Rattle.validate_visit.specs.declared.shared.Exchange.TheVariants.{Get, Set, Xchg, Cmpxchg}
use Rattle.validation_rules.specs.Context.{SubType, ValType, I32, I64, F64, Ref, Context}
use Rattle.validation_rules.specs.Operators.{row_operator, plain_row, operator}
use Rattle.validation_rules.proofs.ExampleWords.{null, null_to, a_type, written, fixed, an_array, every, within}
use Rattle.validation_rules.proofs.ExampleWords.{premise_in}

-- ---- a module of structs, arrays, globals and tables

-- references that may be null, shared or not
abbrev any : Bool → ValType
any shared = null (Abstract shared AnyHeap)

abbrev eq : Bool → ValType
eq shared = null (Abstract shared EqHeap)

abbrev func : Bool → ValType
func shared = null (Abstract shared FuncHeap)

-- what fields and globals hold, by these places: 0 to 6 can be written, 7 and 8 can't be
abbrev fields : List FieldType
fields =
    written (Holds I32) ∷ written (Holds I64) ∷ written (Holds F64) ∷ written (Holds (any true)) ∷ written (Holds (eq true)) ∷ written (Holds (eq false)) ∷ written I8 ∷ fixed I16 ∷ fixed (Holds I64) ∷ []

-- 0 and 1 are structs, of which 1 is shared; 2 to 6 are arrays, of which 6 is shared
abbrev types : List SubType
types =
    a_type false (StructInner fields)
    ∷ a_type true (StructInner (written (Holds I32) ∷ []))
    ∷ an_array false (written (Holds I64))
    ∷ an_array false (written I16)
    ∷ an_array false (written (Holds (eq true)))
    ∷ an_array false (fixed (Holds (any true)))
    ∷ an_array true (written (Holds I32))
    ∷ []

abbrev a_global : Bool → Bool → ValType → GlobalType
a_global mutable shared t = record { content_type = t; mutable = mutable; shared = shared }

-- 0 to 6 can be written, 6 and 8 are shared
abbrev globals : List GlobalType
globals =
    a_global true false I32 ∷ a_global true false I64 ∷ a_global true false F64 ∷ a_global true false (any false) ∷ a_global true false (eq false) ∷ a_global true false (eq true) ∷ a_global true true (any false) ∷ a_global false false (any false) ∷ a_global false true I32 ∷ []

abbrev a_table : Bool → Bool → HeapType → TableType
a_table table64 shared h = record { element_type = reference true h; table64 = table64; shared = shared }

-- 1 has addresses of 64 bits, 4 is shared
abbrev tables : List TableType
tables =
    a_table false false (Abstract true AnyHeap) ∷ a_table true false (Abstract true EqHeap) ∷ a_table false false (Abstract false EqHeap) ∷ a_table false false (Abstract true FuncHeap) ∷ a_table false true (Abstract true I31Heap) ∷ []

abbrev declared : Declared
declared = record nothing_declared { types = types; tables = tables; globals = globals }

-- with these proposals on
abbrev under : ℕ → Bool → Context
under bits shared = within declared bits shared

-- ---- operators

abbrev on_global : Update → ℕ → Op
on_global access i = Shared (Global access SeqCst i)

abbrev on_table : Exchange → ℕ → Op
on_table access i = Shared (Table access AcqRel i)

abbrev on_field : FieldAccess → ℕ → Op
on_field access k = Shared (Struct access SeqCst (record { struct_type_index = 0; field_index = k }))

abbrev on_array : FieldAccess → ℕ → Op
on_array access i = Shared (Array access AcqRel i)

abbrev whole : Exchange → FieldAccess
whole access = Whole (Value access)

abbrev premise : Context → Op → Bool
premise c op = premise_in c [] op

-- where the premise holds, of these places
abbrev held_at : (ℕ → Op) → List ℕ → List Bool
held_at op places = map (λ i. premise (under every false) (op i)) places

abbrev held_in_shared : (ℕ → Op) → List ℕ → List Bool
held_in_shared op places = map (λ i. premise (under every true) (op i)) places

-- With the proposal alone, the operator wants and pushes exactly these types, and does nothing else; with all
-- others its row doesn't hold.
abbrev Says : Op → List ValType → List ValType → Type 0
Says op expected pushed =
    (operator (under shared_everything_threads false) op ≡ row_operator (plain_row expected pushed)) × (premise (under (every - shared_everything_threads) false) op ≡ false)

-- ---- globals

global_takes : Says (on_global (Value Get) 7) [] (any false ∷ []) × Says (on_global (Value Set) 3) (any false ∷ []) [] × Says (on_global (Value Xchg) 1) (I64 ∷ []) (I64 ∷ []) × Says (on_global (Value Cmpxchg) 4) (eq false ∷ eq false ∷ []) (eq false ∷ []) × Says (on_global (Rmw Add) 0) (I32 ∷ []) (I32 ∷ [])
global_takes = ((refl, refl), (refl, refl), (refl, refl), (refl, refl), (refl, refl))

abbrev all_globals : List ℕ
all_globals = 0 ∷ 1 ∷ 2 ∷ 3 ∷ 4 ∷ 5 ∷ 6 ∷ 7 ∷ 8 ∷ 9 ∷ []

global_got : held_at (on_global (Value Get)) all_globals ≡ true ∷ true ∷ false ∷ true ∷ true ∷ false ∷ true ∷ true ∷ true ∷ false ∷ []
global_got = refl

global_set : held_at (on_global (Value Set)) all_globals ≡ true ∷ true ∷ false ∷ true ∷ true ∷ false ∷ true ∷ false ∷ false ∷ false ∷ []
global_set = refl

global_exchanged : held_at (on_global (Value Xchg)) all_globals ≡ true ∷ true ∷ false ∷ true ∷ true ∷ false ∷ true ∷ false ∷ false ∷ false ∷ []
global_exchanged = refl

global_compared : held_at (on_global (Value Cmpxchg)) all_globals ≡ true ∷ true ∷ false ∷ false ∷ true ∷ false ∷ false ∷ false ∷ false ∷ false ∷ []
global_compared = refl

global_added : held_at (on_global (Rmw Xor)) all_globals ≡ true ∷ true ∷ false ∷ false ∷ false ∷ false ∷ false ∷ false ∷ false ∷ false ∷ []
global_added = refl

unshared_globals : held_in_shared (on_global (Value Get)) all_globals ≡ false ∷ false ∷ false ∷ false ∷ false ∷ false ∷ true ∷ false ∷ true ∷ false ∷ []
unshared_globals = refl

-- ---- tables

table_takes : Says (on_table Get 1) (I64 ∷ []) (eq true ∷ []) × Says (on_table Set 0) (I32 ∷ any true ∷ []) [] × Says (on_table Xchg 0) (I32 ∷ any true ∷ []) (any true ∷ []) × Says (on_table Cmpxchg 1) (I64 ∷ eq true ∷ eq true ∷ []) (eq true ∷ [])
table_takes = ((refl, refl), (refl, refl), (refl, refl), (refl, refl))

abbrev all_tables : List ℕ
all_tables = 0 ∷ 1 ∷ 2 ∷ 3 ∷ 4 ∷ 5 ∷ []

table_got : held_at (on_table Get) all_tables ≡ true ∷ true ∷ false ∷ false ∷ true ∷ false ∷ []
table_got = refl

table_set : held_at (on_table Set) all_tables ≡ true ∷ true ∷ false ∷ false ∷ true ∷ false ∷ []
table_set = refl

table_exchanged : held_at (on_table Xchg) all_tables ≡ true ∷ true ∷ false ∷ false ∷ true ∷ false ∷ []
table_exchanged = refl

table_compared : held_at (on_table Cmpxchg) all_tables ≡ false ∷ true ∷ false ∷ false ∷ true ∷ false ∷ []
table_compared = refl

unshared_tables : held_in_shared (on_table Get) all_tables ≡ false ∷ false ∷ false ∷ false ∷ true ∷ false ∷ []
unshared_tables = refl

-- ---- structs

struct_takes : Says (on_field (whole Get) 1) (null_to 0 ∷ []) (I64 ∷ []) × Says (on_field (GetPacked Signed) 6) (null_to 0 ∷ []) (I32 ∷ []) × Says (on_field (whole Set) 6) (null_to 0 ∷ I32 ∷ []) [] × Says (on_field (whole Xchg) 3) (null_to 0 ∷ any true ∷ []) (any true ∷ []) × Says (on_field (whole Cmpxchg) 4) (null_to 0 ∷ eq true ∷ eq true ∷ []) (eq true ∷ []) × Says (on_field (Whole (Rmw Add)) 0) (null_to 0 ∷ I32 ∷ []) (I32 ∷ [])
struct_takes = ((refl, refl), (refl, refl), (refl, refl), (refl, refl), (refl, refl), (refl, refl))

abbrev all_fields : List ℕ
all_fields = 0 ∷ 1 ∷ 2 ∷ 3 ∷ 4 ∷ 5 ∷ 6 ∷ 7 ∷ 8 ∷ 9 ∷ []

field_got : held_at (on_field (whole Get)) all_fields ≡ true ∷ true ∷ false ∷ true ∷ true ∷ false ∷ false ∷ false ∷ true ∷ false ∷ []
field_got = refl

packed_got : held_at (on_field (GetPacked Unsigned)) all_fields ≡ false ∷ false ∷ false ∷ false ∷ false ∷ false ∷ true ∷ true ∷ false ∷ false ∷ []
packed_got = refl

field_set : held_at (on_field (whole Set)) all_fields ≡ true ∷ true ∷ false ∷ true ∷ true ∷ false ∷ true ∷ false ∷ false ∷ false ∷ []
field_set = refl

field_exchanged : held_at (on_field (whole Xchg)) all_fields ≡ true ∷ true ∷ false ∷ true ∷ true ∷ false ∷ false ∷ false ∷ false ∷ false ∷ []
field_exchanged = refl

field_compared : held_at (on_field (whole Cmpxchg)) all_fields ≡ true ∷ true ∷ false ∷ false ∷ true ∷ false ∷ false ∷ false ∷ false ∷ false ∷ []
field_compared = refl

field_added : held_at (on_field (Whole (Rmw Add))) all_fields ≡ true ∷ true ∷ false ∷ false ∷ false ∷ false ∷ false ∷ false ∷ false ∷ false ∷ []
field_added = refl

unshared_struct : held_in_shared (on_field (whole Get)) (0 ∷ 1 ∷ []) ≡ false ∷ false ∷ []
unshared_struct = refl

-- ---- arrays

array_takes : Says (on_array (whole Get) 5) (null_to 5 ∷ I32 ∷ []) (any true ∷ []) × Says (on_array (GetPacked Unsigned) 3) (null_to 3 ∷ I32 ∷ []) (I32 ∷ []) × Says (on_array (whole Set) 2) (null_to 2 ∷ I32 ∷ I64 ∷ []) [] × Says (on_array (whole Xchg) 4) (null_to 4 ∷ I32 ∷ eq true ∷ []) (eq true ∷ []) × Says (on_array (whole Cmpxchg) 4) (null_to 4 ∷ I32 ∷ eq true ∷ eq true ∷ []) (eq true ∷ []) × Says (on_array (Whole (Rmw Xor)) 2) (null_to 2 ∷ I32 ∷ I64 ∷ []) (I64 ∷ [])
array_takes = ((refl, refl), (refl, refl), (refl, refl), (refl, refl), (refl, refl), (refl, refl))

-- 0 is a struct, and there is no eighth type
abbrev all_arrays : List ℕ
all_arrays = 0 ∷ 2 ∷ 3 ∷ 4 ∷ 5 ∷ 6 ∷ 7 ∷ []

array_got : held_at (on_array (whole Get)) all_arrays ≡ false ∷ true ∷ false ∷ true ∷ true ∷ true ∷ false ∷ []
array_got = refl

array_set : held_at (on_array (whole Set)) all_arrays ≡ false ∷ true ∷ true ∷ true ∷ false ∷ true ∷ false ∷ []
array_set = refl

array_compared : held_at (on_array (whole Cmpxchg)) all_arrays ≡ false ∷ true ∷ false ∷ true ∷ false ∷ true ∷ false ∷ []
array_compared = refl

array_added : held_at (on_array (Whole (Rmw Xor))) all_arrays ≡ false ∷ true ∷ false ∷ false ∷ false ∷ true ∷ false ∷ []
array_added = refl

unshared_arrays : held_in_shared (on_array (whole Set)) all_arrays ≡ false ∷ false ∷ false ∷ false ∷ false ∷ true ∷ false ∷ []
unshared_arrays = refl

-- ---- i31

made_i31 : Says (Shared RefI31Shared) (I32 ∷ []) (Ref (reference false (Abstract true I31Heap)) ∷ [])
made_i31 = (refl, refl)
