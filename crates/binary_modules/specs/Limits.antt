-- Limits, and the types of tables and memories that have them (WebAssembly core specification, "Binary
-- Format: Types", "Limits", "Memory Types" and "Table Types"; shared ones are of proposals, "Threads" and
-- "Shared-Everything Threads", the size of pages of another, "Custom Page Sizes").
use Rattle.std.specs.Prelude.{ℕ, ◌/◌, ◌%◌, Bool, true, false, List, Option, Some, None, nat_eq, nat_lt}
use Rattle.std.specs.Prelude.{if◌then◌else◌}
use Rattle.binary_operators.specs.Integers.{unsigned}
use Rattle.binary_operators.specs.Types.{ref_type}
use Rattle.binary_operators.specs.Values.{◌>>=◌, byte}
use Rattle.binary_operators.specs.declared.types.CanonicalTypes.{CanonicalTypes}
use Rattle.module_rules.specs.declared.items.DeclaredMemory.{DeclaredMemory}
use Rattle.module_rules.specs.declared.items.DeclaredTable.{DeclaredTable}
use Rattle.module_rules.specs.declared.items.TableInit.{TableInit}
use Rattle.binary_modules.specs.Parts.{if_so}
use Rattle.binary_modules.specs.declared.limits.FlaggedLimits.{FlaggedLimits}

-- one of the bits 1, 2, 4 and 8 is set in flags
abbrev pub has_flag : ℕ → ℕ → Bool
has_flag bit flags = nat_eq (flags / bit % 2) 1

-- a size has as many bits as an address
abbrev pub size : Bool → List ℕ → Option (ℕ × List ℕ)
size true bytes = unsigned 64 bytes
size false bytes = unsigned 32 bytes

-- Flag 1 says that a maximum follows, flag 2 that it is shared, flag 4 that addresses have 64 bits, and flag
-- 8 that the size of pages follows.
abbrev pub limits_behind : ℕ → List ℕ → Option (FlaggedLimits × List ℕ)
limits_behind flags bytes = do
  initial ← size (has_flag 4 flags) bytes
  maximum ← if_so (has_flag 1 flags) (size (has_flag 4 flags)) initial.1
  page_size ← if_so (has_flag 8 flags) (unsigned 32) maximum.1
  Some (
    record {
      limits = record { initial = initial.0; maximum = maximum.0 };
      is_64 = has_flag 4 flags;
      shared = has_flag 2 flags;
      page_size_log2 = page_size.0;
    },
    page_size.1,
  )

-- limits with flags up to these
unfoldable pub limits : ℕ → List ℕ → Option (FlaggedLimits × List ℕ)
limits most bytes = do
  flags ← byte bytes
  if nat_lt most flags.0 then None else limits_behind flags.0 flags.1

-- A table has no pages, so flag 8 is none of its flags. (Where a table or a memory stands says nothing.)
unfoldable pub table_type : TableInit → CanonicalTypes → List ℕ → Option (DeclaredTable × List ℕ)
table_type init types bytes = do
  element ← ref_type types bytes
  l ← limits 7 element.1
  Some (
    record {
      ty = record { element_type = element.0; table64 = l.0.is_64; shared = l.0.shared };
      limits = l.0.limits;
      init = init;
      offset = 0;
    },
    l.1,
  )

unfoldable pub memory_type : List ℕ → Option (DeclaredMemory × List ℕ)
memory_type bytes = do
  l ← limits 15 bytes
  Some (
    record {
      ty = record { memory64 = l.0.is_64; shared = l.0.shared };
      limits = l.0.limits;
      page_size_log2 = l.0.page_size_log2;
      offset = 0;
    },
    l.1,
  )
