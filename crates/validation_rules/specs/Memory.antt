-- The rows of operators on memories (WebAssembly core specification, "Validation: Memory
-- Instructions").
use Rattle.validate_visit.specs.Numbers.{number_type, packed_type}
use Rattle.validate_visit.specs.declared.op.MemoryOp.{MemoryOp}
use Rattle.validate_visit.specs.declared.op.MemoryOp.TheVariants.{Load, LoadPacked, Store, StorePacked}
use Rattle.validate_visit.specs.declared.op.MemoryOp.TheVariants.{MemorySize, MemoryGrow, MemoryInit}
use Rattle.validate_visit.specs.declared.op.MemoryOp.TheVariants.{DataDrop, MemoryCopy, MemoryFill}
use Rattle.validate_visit.specs.declared.op.MemoryOp.TheVariants.{MemoryDiscard}
use Rattle.validation_rules.specs.Access.{load_row, store_row}
use Rattle.validation_rules.specs.Context.{Context}
use Rattle.validation_rules.specs.Memories.{memory_size_row, memory_grow_row, memory_init_row}
use Rattle.validation_rules.specs.Memories.{data_drop_row, memory_copy_row, memory_fill_row}
use Rattle.validation_rules.specs.Memories.{memory_discard_row}
use Rattle.validation_rules.specs.Rows.{Row}

abbrev pub memory_row : Context → MemoryOp → Row
memory_row cx (Load t arg) = load_row cx arg (number_type t)
memory_row cx (LoadPacked packed sign arg) = load_row cx arg (packed_type packed)
memory_row cx (Store t arg) = store_row cx arg (number_type t)
memory_row cx (StorePacked packed arg) = store_row cx arg (packed_type packed)
memory_row cx (MemorySize m) = memory_size_row cx m
memory_row cx (MemoryGrow m) = memory_grow_row cx m
memory_row cx (MemoryInit segment m) = memory_init_row cx segment m
memory_row cx (DataDrop segment) = data_drop_row cx segment
memory_row cx (MemoryCopy dst src) = memory_copy_row cx dst src
memory_row cx (MemoryFill m) = memory_fill_row cx m
memory_row cx (MemoryDiscard m) = memory_discard_row cx m
