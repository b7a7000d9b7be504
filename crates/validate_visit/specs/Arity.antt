-- What a reference names, and how many operands a type takes and gives (the crate's own).
use Rattle.std.specs.Prelude.{ℕ, ◌^◌, ◌&&◌, nat_lt, length, Option, Some, None, if◌then◌else◌}
use Rattle.validate_types.specs.Heap.{id_of}
use Rattle.validate_types.specs.Types.{Signature}
use Rattle.validate_types.specs.declared.heap.CoreTypeId.{CoreTypeId}
use Rattle.validate_types.specs.declared.heap.HeapType.{HeapType}
use Rattle.validate_types.specs.declared.heap.HeapType.TheVariants.{Abstract, Concrete, Exact}

-- the id in a heap type, if it has one
abbrev pub id_in : HeapType → Option CoreTypeId
id_in (Abstract shared ty) = None
id_in (Concrete i) = id_of i
id_in (Exact i) = id_of i

-- how many operands a type takes and gives, where both numbers fit in 32 bits
abbrev pub arity_of : Signature → Option (ℕ × ℕ)
arity_of f =
    if nat_lt (length f.params) (2 ^ 32) && nat_lt (length f.results) (2 ^ 32)
    then Some (length f.params, length f.results)
    else None
