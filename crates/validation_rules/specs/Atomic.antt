-- The rows of atomic operators on memories (the threads proposal, "Validation"; `pause` and the weaker
-- fence are those of the shared-everything-threads proposal).
-- `rmw` takes a value and gives the one that was there. `cmpxchg` takes what is expected, and above it what
-- replaces it; `wait` takes what is expected, and above it an i64, the time.
use Rattle.std.specs.Prelude.{[]}
use Rattle.validate_visit.specs.Numbers.{integer_type, access_type}
use Rattle.validate_visit.specs.declared.op.AtomicOp.{AtomicOp}
use Rattle.validate_visit.specs.declared.op.AtomicOp.TheVariants.{AtomicNotify, AtomicWait, AtomicFence}
use Rattle.validate_visit.specs.declared.op.AtomicOp.TheVariants.{AtomicLoad, AtomicStore, AtomicRmw}
use Rattle.validate_visit.specs.declared.op.AtomicOp.TheVariants.{AtomicCmpxchg, Pause}
use Rattle.validation_rules.specs.Access.{atomic_load_row, atomic_store_row, atomic_rmw_row}
use Rattle.validation_rules.specs.Access.{atomic_cmpxchg_row, atomic_wait_row, atomic_notify_row}
use Rattle.validation_rules.specs.Access.{atomic_fence_row}
use Rattle.validation_rules.specs.Context.{Context}
use Rattle.validation_rules.specs.Rows.{Row}
use Rattle.validation_rules.specs.Shapes.{plain_row}

abbrev pub atomic_row : Context → AtomicOp → Row
atomic_row cx (AtomicNotify arg) = atomic_notify_row cx arg
atomic_row cx (AtomicWait t arg) = atomic_wait_row cx arg (integer_type t)
atomic_row cx (AtomicFence ordering) = atomic_fence_row cx ordering
atomic_row cx (AtomicLoad access arg) = atomic_load_row cx arg (access_type access)
atomic_row cx (AtomicStore access arg) = atomic_store_row cx arg (access_type access)
atomic_row cx (AtomicRmw access op arg) = atomic_rmw_row cx arg (access_type access)
atomic_row cx (AtomicCmpxchg access arg) = atomic_cmpxchg_row cx arg (access_type access)
atomic_row cx Pause = plain_row [] []
