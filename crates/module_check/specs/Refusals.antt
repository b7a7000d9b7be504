-- When an answer other than yes is a no (the crate's own).
use Rattle.std.specs.Prelude.{◌≡◌, ◌≢◌, ℕ, false}
use Rattle.binary_operators.specs.declared.error.Cause.TheVariants.{Malformed, OutOfMemory, VectorOperator}
use Rattle.binary_operators.specs.declared.error.Fault.{Fault}
use Rattle.module_check.specs.declared.verdict.CheckError.{CheckError}
use Rattle.module_check.specs.declared.verdict.CheckError.TheVariants.{Unread, Refused}

-- memory didn't run out
abbrev pub IsRefusal : CheckError → Type 0
IsRefusal (Unread e) = e.cause ≢ OutOfMemory
IsRefusal (Refused e) = e.wants_memory ≡ false

-- it could be read, and is refused: memory didn't run out
abbrev pub IsInvalid : CheckError → Type 0
IsInvalid (Unread e) = ⊥
IsInvalid (Refused e) = e.wants_memory ≡ false

-- a vector operator stands there, which isn't read
abbrev pub IsVector : CheckError → Type 0
IsVector (Unread e) = e.cause ≡ VectorOperator
IsVector (Refused e) = ⊥

-- it isn't of the binary format
abbrev pub IsMalformed : CheckError → Type 0
IsMalformed (Unread e) = (fault : Fault) × (e.cause ≡ Malformed fault)
IsMalformed (Refused e) = ⊥

-- the offset that it tells
abbrev pub error_offset : CheckError → ℕ
error_offset (Unread e) = e.offset
error_offset (Refused e) = e.offset

-- the validator refuses it for this, at this offset, unless memory ran out
abbrev pub IsRefusedFor : Type 0 → ℕ → CheckError → Type 0
IsRefusedFor reason offset (Unread e) = ⊥
IsRefusedFor reason offset (Refused e) = e.wants_memory ≡ false → reason × (e.offset ≡ offset)
