-- What a whole block leaves of the locals that are set (WebAssembly core specification, "Validation:
-- Instruction Sequences": what a block initializes isn't part of its type).
use Rattle.std.specs.Prelude.{◌≡◌, ℕ, suc, List, Some, slice_get}
use Rattle.validation_rules.specs.Context.{BlockType, Context}
use Rattle.validation_rules.specs.Rows.{Head, Opens, Operator}
use Rattle.validation_rules.specs.Static.{State, heads, locals_set, start, state_before, RowsHoldBefore}
use Rattle.type_safety.specs.Machine.{IsCloser}

-- a block of the list: its opener at place k, and its closer at place c
pub record IsBlock (code : List Operator) (k c : ℕ) : Type 0 where
  pub opener : Operator
  pub is_opener : slice_get code k ≡ Some opener
  pub head : Head
  pub opens : opener.form ≡ Opens head
  pub closes : IsCloser code k c

-- before place n frames of the same heads are open as before place k, and the same locals are set
pub record IsAsBefore (cx : Context) (code : List Operator) (ty : BlockType) (k n : ℕ) : Type 0 where
  pub opening : State
  pub is_before : state_before cx code (start ty) k ≡ Some opening
  pub closed : State
  pub is_after : state_before cx code (start ty) n ≡ Some closed
  pub same_heads : heads closed.frames ≡ heads opening.frames
  pub same_locals : locals_set closed.frames ≡ locals_set opening.frames

-- Where all rows hold up to the closer of a block, it leaves the frames that were open before its
-- opener, and the locals set that were set there.
abbrev pub BlocksKeepLocals : Context → Type 0
BlocksKeepLocals cx =
    (code : List Operator) (ty : BlockType) (k c : ℕ) →
    IsBlock code k c → RowsHoldBefore cx code (start ty) (suc c) → IsAsBefore cx code ty k (suc c)
