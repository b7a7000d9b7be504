-- What the operators are that most code is made of, by their first byte (the crate's own).
use Rattle.std.specs.Prelude.{◌≡◌, ◌⊎◌, ℕ, false, ◌-◌, List, [], ◌∷◌, ◌++◌, ◌<◌, ◌≤◌, Some, drop, length, replicate}
use Rattle.binary_operators.specs.Instructions.{operator}
use Rattle.binary_operators.specs.Integers.{unsigned}
use Rattle.binary_operators.specs.Unplaced.{unplaced}
use Rattle.binary_operators.specs.declared.types.CanonicalTypes.{CanonicalTypes}
use Rattle.validate_visit.specs.Order.{is_part_closer, nesting}
use Rattle.validate_visit.specs.declared.memory.MemArg.{MemArg}
use Rattle.validate_visit.specs.declared.memory.MemArgTarget.TheVariants.{Memory as InMemory}
use Rattle.validate_visit.specs.declared.op.MemoryOp.{MemoryOp}
use Rattle.validate_visit.specs.declared.op.Op.{Op}
use Rattle.validate_visit.specs.declared.op.Op.TheVariants.{Memory}
use Rattle.validation_rules.specs.Context.{Context}
use Rattle.validation_rules.specs.Operators.{operator as row_of}
use Rattle.module_check.specs.declared.first_bytes.Common.{Common}
use Rattle.module_check.specs.declared.first_bytes.Common.TheVariants.{Rare, Nop, Block, Loop, If, End, Indexed, Return, Drop, Select, LocalGet, LocalSet, LocalTee, Constant32, Constant64, Test32, Compare32, Compare64, Binary32, Binary64, BinaryF32, BinaryF64, Load32, Load64, LoadF32, LoadF64, Store32, Store64, StoreF32, StoreF64}

-- The kinds of all bytes below an end. A row has the kind of the bytes from its own on, up to that of the next row.
abbrev pub kinds_end : ℕ → List (ℕ × Common) → ℕ
kinds_end end [] = end
kinds_end end (row ∷ rows) = row.0

abbrev pub kinds_below : ℕ → List (ℕ × Common) → List Common
kinds_below end [] = []
kinds_below end (row ∷ rows) = replicate (kinds_end end rows - row.0) row.1 ++ kinds_below end rows

-- what an operator is, by its first byte
unfoldable pub kinds : List Common
kinds = kinds_below 0x100
    ((0x00, Rare) ∷ (0x01, Nop) ∷ (0x02, Block) ∷ (0x03, Loop) ∷ (0x04, If) ∷ (0x05, Rare) ∷ (0x0b, End)
    ∷ (0x0c, Indexed) ∷ (0x0e, Rare) ∷ (0x0f, Return) ∷ (0x10, Indexed) ∷ (0x11, Rare) ∷ (0x1a, Drop)
    ∷ (0x1b, Select) ∷ (0x1c, Rare) ∷ (0x20, LocalGet) ∷ (0x21, LocalSet) ∷ (0x22, LocalTee)
    ∷ (0x23, Indexed) ∷ (0x25, Rare)
    ∷ (0x28, Load32 2) ∷ (0x29, Load64 3) ∷ (0x2a, LoadF32 2) ∷ (0x2b, LoadF64 3)
    ∷ (0x2c, Load32 0) ∷ (0x2e, Load32 1) ∷ (0x30, Load64 0) ∷ (0x32, Load64 1) ∷ (0x34, Load64 2)
    ∷ (0x36, Store32 2) ∷ (0x37, Store64 3) ∷ (0x38, StoreF32 2) ∷ (0x39, StoreF64 3)
    ∷ (0x3a, Store32 0) ∷ (0x3b, Store32 1) ∷ (0x3c, Store64 0) ∷ (0x3d, Store64 1) ∷ (0x3e, Store64 2)
    ∷ (0x3f, Rare)
    ∷ (0x41, Constant32) ∷ (0x42, Constant64) ∷ (0x43, Rare) ∷ (0x45, Test32) ∷ (0x46, Compare32) ∷ (0x50, Rare)
    ∷ (0x51, Compare64) ∷ (0x5b, Rare) ∷ (0x6a, Binary32) ∷ (0x79, Rare) ∷ (0x7c, Binary64) ∷ (0x8b, Rare)
    ∷ (0x92, BinaryF32) ∷ (0x99, Rare) ∷ (0xa0, BinaryF64) ∷ (0xa7, Rare) ∷ [])

-- The bytes begin with an operator, behind which these are left, and its row is that of this one.
pub record BeginLike (bytes : List ℕ) (op : Op) (behind : List ℕ) : Type 0 where
  pub actual : Op
  pub is_read : (types : CanonicalTypes) → operator types bytes ≡ Some (unplaced actual, behind)
  pub same_row : (cx : Context) → row_of cx actual ≡ row_of cx op

-- The bytes begin with an operator that is so many bytes, and its row is that of this one, which closes no frame.
pub record BeginAs (bytes : List ℕ) (op : Op) (count : ℕ) : Type 0 where
  pub are_there : count ≤ length bytes
  pub closes_none : is_part_closer (nesting op) ≡ false
  pub like : BeginLike bytes op (drop count bytes)

-- a place in the first memory, with the natural alignment of the operator
abbrev pub near : ℕ → ℕ → ℕ → MemArg
near natural align offset = record { align = align; max_align = natural; offset = offset; target = InMemory 0 }

-- a number begins with this byte, and ends with it or with the next one, behind which these are left
abbrev pub EndsNear : ℕ → List ℕ → List ℕ → Type 0
EndsNear first rest behind =
    ((first < 128) × (behind ≡ rest)) ⊎ ((128 ≤ first) × ((last : ℕ) × (last < 128) × (rest ≡ last ∷ behind)))

-- the bytes begin with this place, whose alignment is a byte, and behind it these are left
pub record IsNear (bytes : List ℕ) (natural : ℕ) (place : MemArg) (behind : List ℕ) : Type 0 where
  pub align : ℕ
  pub offset : ℕ
  pub begins : bytes ≡ align ∷ drop 1 bytes
  pub is_offset : unsigned 64 (drop 1 bytes) ≡ Some (offset, behind)
  pub is_place : place ≡ near natural align offset
  pub one_byte : align < 64

-- The bytes begin with a code. With such a place behind it, it is an operator whose row is that of this one.
pub record BeginAccess (bytes : List ℕ) (op : MemArg → MemoryOp) (natural : ℕ) : Type 0 where
  pub code : ℕ
  pub begins : bytes ≡ code ∷ drop 1 bytes
  pub like : (align offset : ℕ) (rest behind : List ℕ) → align < 64 → unsigned 64 rest ≡ Some (offset, behind)
      → BeginLike (code ∷ align ∷ rest) (Memory (op (near natural align offset))) behind
