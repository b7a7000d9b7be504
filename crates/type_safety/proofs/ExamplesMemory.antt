-- Runs of small bodies that access memories, one of 32 bits and one of 64, and arrays.
use Rattle.std.proofs.Common.{◌≡◌, ◌+◌, ℕ, true, false, List, [], ◌∷◌, None, refl, sym, subst}
use Rattle.validate_resources.specs.Lists.{Declared, context_of}
use Rattle.validate_resources.specs.Lawful.{lawful_lists}
use Rattle.validate_resources.specs.Named.{nothing_declared}
use Rattle.validate_types.specs.Features.{bulk_memory_opt, reference_types, gc, multibyte_array_access}
use Rattle.validate_types.specs.Refs.{nullable_reference}
use Rattle.validate_types.specs.declared.heap.HeapType.TheVariants.{Concrete}
use Rattle.validate_types.specs.declared.types.CompositeInnerType.TheVariants.{Array as ArrayInner}
use Rattle.validate_types.specs.declared.types.StorageType.TheVariants.{I8}
use Rattle.validate_visit.specs.declared.memory.MemArg.{MemArg}
use Rattle.validate_visit.specs.declared.memory.MemArgTarget.TheVariants.{Memory as InMemory, Array as InArray}
use Rattle.validate_visit.specs.declared.numbers.NumberType.TheVariants.{I64 as NumberI64}
use Rattle.validate_visit.specs.declared.op.MemoryOp.TheVariants.{Load, Store, MemorySize, MemoryCopy}
use Rattle.validate_visit.specs.declared.op.Op.{Op}
use Rattle.validate_visit.specs.declared.op.Op.TheVariants.{Memory}
use Rattle.validation_rules.specs.Context.{SubType, ValType, I32, I64, Ref, Empty, Context}
use Rattle.validation_rules.specs.Rows.{Operator}
use Rattle.validation_rules.specs.Operators.{operators, operator}
use Rattle.validation_rules.proofs.Steps.{some_injective}
use Rattle.validation_rules.proofs.ExampleWords.{id, within, end, i32_const, i64_const, null_of}
use Rattle.type_safety.specs.Machine.{Machine, At, Trapped, Demand, configuration, IsNotStuck, Step}
use Rattle.type_safety.specs.Machine.Outcome.{traps}
use Rattle.type_safety.proofs.Outcomes.{holding, by_going_on}
use Rattle.type_safety.specs.Theorem.{IsTypeSafe}
use Rattle.type_safety.proofs.Bodies.{body_safety}
use Rattle.type_safety.proofs.ExampleWords.{outermost, demands_operands, is_no_value}

abbrev declared : Declared
declared = record nothing_declared { memories = record { memory64 = false; shared = false } ∷ record { memory64 = true; shared = false } ∷ [] }

abbrev cx : Context
cx = within declared bulk_memory_opt false

abbrev at_memory : ℕ → MemArg
at_memory m = record { align = 3; max_align = 3; offset = 8; target = InMemory m }

abbrev load : ℕ → Op
load m = Memory (Load NumberI64 (at_memory m))

abbrev store : ℕ → Op
store m = Memory (Store NumberI64 (at_memory m))

-- ---- what is loaded from memory 1 is stored in memory 0

abbrev moving_ops : List Op
moving_ops = i32_const ∷ i64_const ∷ load 1 ∷ store 0 ∷ end ∷ []

abbrev moving : List Operator
moving = operators cx moving_ops

abbrev standing : ℕ → List ValType → Machine
standing k own = At k (outermost Empty own ∷ []) []

-- the address of 64 bits goes, and an i64 comes; that of 32 stays below it
loads : Step cx moving (standing 2 (I64 ∷ I32 ∷ [])) (standing 3 (I64 ∷ I32 ∷ []))
loads = (
  operator cx (load 1),
  refl,
  demands_operands (holding _ refl refl) refl refl refl,
  by_going_on (I64 ∷ []) (I64 ∷ []) refl refl refl (refl, tt) refl,
)

-- the value and the address go, and nothing comes
stores : Step cx moving (standing 3 (I64 ∷ I32 ∷ [])) (standing 4 [])
stores = (
  operator cx (store 0),
  refl,
  demands_operands (holding _ refl refl) refl refl refl,
  by_going_on [] [] refl refl refl tt refl,
)

-- or it traps, as where the address lies outside the memory
may_trap : Step cx moving (standing 3 (I64 ∷ I32 ∷ [])) Trapped
may_trap = (
  operator cx (store 0),
  refl,
  demands_operands (holding _ refl refl) refl refl refl,
  traps refl,
)

-- an address of the other memory's type is stuck
stuck : IsNotStuck cx moving (standing 2 (I32 ∷ I32 ∷ [])) → ⊥
stuck d =
    let e : operator cx (load 1) ≡ d.0 = some_injective _ _ d.1 in
    let d' = subst (λ op. Demand cx moving (configuration 2 (outermost Empty (I32 ∷ I32 ∷ [])) [] [] op)) (sym e) d.2 in
    is_no_value d'.row.1

moving_safe : IsTypeSafe cx moving Empty
moving_safe = body_safety (context_of declared) (lawful_lists declared refl) cx moving_ops Empty refl ([], refl)

-- ---- a copy from memory 1 to memory 0, of a length of 32 bits

abbrev copying_ops : List Op
copying_ops = Memory (MemorySize 0) ∷ Memory (MemorySize 1) ∷ i32_const ∷ Memory (MemoryCopy 0 1) ∷ end ∷ []

copying_safe : IsTypeSafe cx (operators cx copying_ops) Empty
copying_safe = body_safety (context_of declared) (lawful_lists declared refl) cx copying_ops Empty refl ([], refl)

-- ---- what is loaded from memory 1 is stored in an array of type 0

abbrev byte_array : SubType
byte_array = record { is_final = true; supertype_idx = None; composite_type = record { inner = ArrayInner (record { 0 = record { element_type = I8; mutable = true } }); shared = false; descriptor_idx = None; describes_idx = None } }

abbrev declared_array : Declared
declared_array = record declared { types = byte_array ∷ [] }

abbrev array_cx : Context
array_cx = within declared_array (reference_types + (gc + multibyte_array_access)) false

abbrev in_array : MemArg
in_array = record (at_memory 0) { target = InArray 0 }

abbrev to_array : ValType
to_array = Ref (nullable_reference (Concrete (id 0)))

abbrev filling_ops : List Op
filling_ops = null_of 0 ∷ i32_const ∷ i64_const ∷ load 1 ∷ Memory (Store NumberI64 in_array) ∷ end ∷ []

abbrev filling : List Operator
filling = operators array_cx filling_ops

-- the value, the place and the reference go
fills : Step array_cx filling (standing 4 (I64 ∷ I32 ∷ to_array ∷ [])) (standing 5 [])
fills = (
  operator array_cx (Memory (Store NumberI64 in_array)),
  refl,
  demands_operands (holding _ refl refl) refl refl refl,
  by_going_on [] [] refl refl refl tt refl,
)

-- or it traps, as where the reference is null
fill_may_trap : Step array_cx filling (standing 4 (I64 ∷ I32 ∷ to_array ∷ [])) Trapped
fill_may_trap = (
  operator array_cx (Memory (Store NumberI64 in_array)),
  refl,
  demands_operands (holding _ refl refl) refl refl refl,
  traps refl,
)

-- a memory's address is stuck: no reference lies below it
fill_stuck : IsNotStuck array_cx filling (standing 4 (I64 ∷ I32 ∷ [])) → ⊥
fill_stuck d =
    let e : operator array_cx (Memory (Store NumberI64 in_array)) ≡ d.0 = some_injective _ _ d.1 in
    let d' = subst (λ op. Demand array_cx filling (configuration 4 (outermost Empty (I64 ∷ I32 ∷ [])) [] [] op)) (sym e) d.2 in
    is_no_value d'.row.1

filling_safe : IsTypeSafe array_cx filling Empty
filling_safe = body_safety (context_of declared_array) (lawful_lists declared_array refl) array_cx filling_ops Empty refl ([], refl)
