-- The proposals, each one bit, and the proposals that types need (the crate's own).
use Rattle.std.specs.Prelude.{ℕ, Bool, true, false, ◌==◌, ◌&&◌, ◌||◌}
use Rattle.std.specs.Int.RustNames.{bit_and}
use Rattle.validate_types.specs.declared.features.WasmFeatures.{WasmFeatures}
use Rattle.validate_types.specs.declared.heap.AbstractHeapType.{AbstractHeapType}
use Rattle.validate_types.specs.declared.heap.AbstractHeapType.TheVariants.{Func, Extern, Exn, NoExn, Cont}
use Rattle.validate_types.specs.declared.heap.AbstractHeapType.TheVariants.{NoCont}
use Rattle.validate_types.specs.declared.heap.HeapType.{HeapType}
use Rattle.validate_types.specs.declared.heap.HeapType.TheVariants.{Abstract, Concrete, Exact}
use Rattle.validate_types.specs.declared.refs.RefType.{RefType}
use Rattle.validate_types.specs.declared.types.ValType.{ValType}
use Rattle.validate_types.specs.declared.types.ValType.TheVariants.{I32, I64, F32, F64, V128, Ref}

abbrev pub multi_value : ℕ
multi_value = 1

abbrev pub floats : ℕ
floats = 2

abbrev pub simd : ℕ
simd = 4

abbrev pub reference_types : ℕ
reference_types = 8

abbrev pub bulk_memory : ℕ
bulk_memory = 16

abbrev pub bulk_memory_opt : ℕ
bulk_memory_opt = 32

abbrev pub sign_extension : ℕ
sign_extension = 64

abbrev pub saturating_float_to_int : ℕ
saturating_float_to_int = 128

abbrev pub threads : ℕ
threads = 256

abbrev pub shared_everything_threads : ℕ
shared_everything_threads = 512

abbrev pub exceptions : ℕ
exceptions = 1024

abbrev pub legacy_exceptions : ℕ
legacy_exceptions = 2048

abbrev pub tail_call : ℕ
tail_call = 4096

abbrev pub function_references : ℕ
function_references = 8192

abbrev pub gc : ℕ
gc = 16384

abbrev pub custom_descriptors : ℕ
custom_descriptors = 32768

abbrev pub stack_switching : ℕ
stack_switching = 65536

abbrev pub memory_control : ℕ
memory_control = 131072

abbrev pub wide_arithmetic : ℕ
wide_arithmetic = 262144

abbrev pub acquire_release_atomics : ℕ
acquire_release_atomics = 524288

abbrev pub multibyte_array_access : ℕ
multibyte_array_access = 1048576

-- the proposal of this bit is on
abbrev pub has : WasmFeatures → ℕ → Bool
has features bit = bit_and features.0 bit == bit

-- the gate of an abstract heap type is open, by whether the reference to it is nullable
abbrev pub is_abstract_enabled : WasmFeatures → Bool → AbstractHeapType → Bool
is_abstract_enabled features true Func = true
is_abstract_enabled features true Extern = true
is_abstract_enabled features false Func = has features function_references
is_abstract_enabled features false Extern = has features function_references
is_abstract_enabled features _ Exn = has features exceptions
is_abstract_enabled features _ NoExn = has features exceptions
is_abstract_enabled features _ Cont = has features stack_switching
is_abstract_enabled features _ NoCont = has features stack_switching
is_abstract_enabled features _ _ = has features gc

-- shared types are a proposal of their own
abbrev pub is_shared_enabled : WasmFeatures → Bool → Bool
is_shared_enabled features true = has features shared_everything_threads
is_shared_enabled features false = true

abbrev pub is_heap_enabled : WasmFeatures → Bool → HeapType → Bool
is_heap_enabled features nullable (Abstract shared ty) =
    is_shared_enabled features shared && is_abstract_enabled features nullable ty
is_heap_enabled features nullable (Concrete i) = has features function_references || has features gc
is_heap_enabled features nullable (Exact i) = has features custom_descriptors

-- the gate of a reference type is open
abbrev pub is_ref_enabled : WasmFeatures → RefType → Bool
is_ref_enabled features r = has features reference_types && is_heap_enabled features r.nullable r.heap_type

-- the gate of a value type is open
abbrev pub is_type_enabled : WasmFeatures → ValType → Bool
is_type_enabled features I32 = true
is_type_enabled features I64 = true
is_type_enabled features F32 = has features floats
is_type_enabled features F64 = has features floats
is_type_enabled features V128 = has features simd
is_type_enabled features (Ref r) = is_ref_enabled features r
