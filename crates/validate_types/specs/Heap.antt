-- The indices of types, by place in the module or by id (WebAssembly core specification, "Heap Types").
use Rattle.std.specs.Prelude.{ℕ, Bool, Option, Some, None, nat_lt, if◌then◌else◌}
use Rattle.validate_types.specs.declared.heap.TheConstants.PackedIndex.{LIMIT}
use Rattle.validate_types.specs.declared.heap.CoreTypeId.{CoreTypeId}
use Rattle.validate_types.specs.declared.heap.HeapType.{HeapType}
use Rattle.validate_types.specs.declared.heap.HeapType.TheVariants.{Abstract, Concrete, Exact}
use Rattle.validate_types.specs.declared.heap.UnpackedIndex.{UnpackedIndex}
use Rattle.validate_types.specs.declared.heap.UnpackedIndex.TheVariants.{Module, Id}

-- the number of an index of either kind
abbrev pub number_of : UnpackedIndex → ℕ
number_of (Module n) = n
number_of (Id id) = id.index

abbrev pub module_index : UnpackedIndex → Option ℕ
module_index (Module n) = Some n
module_index (Id id) = None

abbrev pub id_of : UnpackedIndex → Option CoreTypeId
id_of (Module n) = None
id_of (Id id) = Some id

-- below 2^20: a reference can be made to it
abbrev pub is_small : UnpackedIndex → Bool
is_small i = nat_lt (number_of i) LIMIT

abbrev pub packed_index : UnpackedIndex → Option UnpackedIndex
packed_index i = if is_small i then Some i else None

-- the index in a heap type, if it has one
abbrev pub index_in : HeapType → Option UnpackedIndex
index_in (Abstract shared ty) = None
index_in (Concrete i) = Some i
index_in (Exact i) = Some i
