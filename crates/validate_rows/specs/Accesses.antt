-- Loads and stores of numbers, among the operators on memories (WebAssembly core specification, "Memory
-- Instructions").
use Rattle.std.specs.Prelude.{Bool, true, false}
use Rattle.validate_visit.specs.declared.op.MemoryOp.{MemoryOp}
use Rattle.validate_visit.specs.declared.op.MemoryOp.TheVariants.{Load, LoadPacked, Store, StorePacked}

abbrev pub is_load : MemoryOp → Bool
is_load (Load t arg) = true
is_load (LoadPacked packed sign arg) = true
is_load _ = false

abbrev pub is_store : MemoryOp → Bool
is_store (Store t arg) = true
is_store (StorePacked packed arg) = true
is_store _ = false
