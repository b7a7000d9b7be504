-- Atomic operators by their codes, behind the prefix 0xfe, which stands above them (the proposals "Threads"
-- and "Shared-Everything Threads"): each list has what codes that follow one another mean.
use Rattle.std.specs.Prelude.{ℕ, ◌%◌, ◌/◌, List, [], ◌∷◌, Option, Some}
use Rattle.binary_operators.specs.Codes.{at, natural}
use Rattle.binary_operators.specs.Forms.{from}
use Rattle.binary_operators.specs.Values.{◌>>=◌}
use Rattle.validate_visit.specs.declared.memory.AtomicAccess.{AtomicAccess}
use Rattle.validate_visit.specs.declared.memory.AtomicAccess.TheVariants.{Whole, Packed}
use Rattle.validate_visit.specs.declared.memory.AtomicRmwOp.TheVariants.{Add, Sub, And, Or, Xor, Xchg}
use Rattle.validate_visit.specs.declared.memory.MemArg.{MemArg}
use Rattle.validate_visit.specs.declared.numbers.IntegerType.TheVariants.{I32, I64}
use Rattle.validate_visit.specs.declared.numbers.PackedInteger.TheVariants.{I32Bits8, I32Bits16, I64Bits8}
use Rattle.validate_visit.specs.declared.numbers.PackedInteger.TheVariants.{I64Bits16, I64Bits32}
use Rattle.validate_visit.specs.declared.numbers.Sign.TheVariants.{Signed, Unsigned}
use Rattle.validate_visit.specs.declared.op.AtomicOp.{AtomicOp}
use Rattle.validate_visit.specs.declared.op.AtomicOp.TheVariants.{AtomicLoad, AtomicStore, AtomicRmw}
use Rattle.validate_visit.specs.declared.op.AtomicOp.TheVariants.{AtomicCmpxchg}
use Rattle.validate_visit.specs.declared.op.Op.{Op}
use Rattle.validate_visit.specs.declared.op.Op.TheVariants.{Atomic}
use Rattle.validate_visit.specs.declared.shared.FieldAccess.{FieldAccess}
use Rattle.validate_visit.specs.declared.shared.FieldAccess.TheVariants.{Whole as WholeField, GetPacked}
use Rattle.validate_visit.specs.declared.shared.Update.{Update}
use Rattle.validate_visit.specs.declared.shared.Update.TheVariants.{Value, Rmw}
use Rattle.validate_visit.specs.declared.shared.SharedRmwOp.TheVariants.{Add as AddS, Sub as SubS}
use Rattle.validate_visit.specs.declared.shared.SharedRmwOp.TheVariants.{And as AndS}
use Rattle.validate_visit.specs.declared.shared.SharedRmwOp.TheVariants.{Or as OrS, Xor as XorS}
use Rattle.validate_visit.specs.declared.shared.Exchange.{Exchange}
use Rattle.validate_visit.specs.declared.shared.Exchange.TheVariants.{Get, Set, Xchg as XchgS, Cmpxchg}

-- what is done with a memory, from code 0xfe10 on: seven codes for each
abbrev pub atomic_families : List (ℕ × (AtomicAccess → MemArg → AtomicOp))
atomic_families =
    (0, λ a m. AtomicLoad a m) ∷ (1, λ a m. AtomicStore a m) ∷ (2, λ a m. AtomicRmw a Add m)
    ∷ (3, λ a m. AtomicRmw a Sub m) ∷ (4, λ a m. AtomicRmw a And m) ∷ (5, λ a m. AtomicRmw a Or m)
    ∷ (6, λ a m. AtomicRmw a Xor m) ∷ (7, λ a m. AtomicRmw a Xchg m) ∷ (8, λ a m. AtomicCmpxchg a m) ∷ []

-- what the seven access, each with its natural alignment
unfoldable pub accessed : List (AtomicAccess × ℕ)
accessed =
    (Whole I32, 2) ∷ (Whole I64, 3) ∷ (Packed I32Bits8, 0) ∷ (Packed I32Bits16, 1)
    ∷ (Packed I64Bits8, 0) ∷ (Packed I64Bits16, 1) ∷ (Packed I64Bits32, 2) ∷ []

-- the operator at this place behind code 0xfe10
unfoldable pub atomic_at : ℕ → MemArg → Option Op
atomic_at place m = do
  access ← from 0 accessed (place % 7)
  family ← at (place / 7) atomic_families
  Some (Atomic (family access.0 (natural access.1 m)))

-- what is done with a global, from code 0xfe4f on
unfoldable pub global_accesses : List Update
global_accesses =
    Value Get ∷ Value Set ∷ Rmw AddS ∷ Rmw SubS ∷ Rmw AndS ∷ Rmw OrS ∷ Rmw XorS
    ∷ Value XchgS ∷ Value Cmpxchg ∷ []

-- what is done with an element of a table, from code 0xfe58 on
unfoldable pub table_accesses : List Exchange
table_accesses = Get ∷ Set ∷ XchgS ∷ Cmpxchg ∷ []

-- what is done with a field, from code 0xfe5c on, and with a place of an array, from code 0xfe67 on
unfoldable pub field_accesses : List FieldAccess
field_accesses =
    WholeField (Value Get) ∷ GetPacked Signed ∷ GetPacked Unsigned ∷ WholeField (Value Set)
    ∷ WholeField (Rmw AddS) ∷ WholeField (Rmw SubS) ∷ WholeField (Rmw AndS) ∷ WholeField (Rmw OrS)
    ∷ WholeField (Rmw XorS) ∷ WholeField (Value XchgS) ∷ WholeField (Value Cmpxchg) ∷ []
