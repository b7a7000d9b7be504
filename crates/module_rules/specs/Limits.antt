-- Sizes that tables and memories may have (WebAssembly core specification, "Validation: Types", limits).
use Rattle.std.specs.Prelude.{ℕ, ◌-◌, ◌^◌, Bool, true, false, ◌&&◌, nat_le, Option, Some, None}
use Rattle.std.specs.Prelude.{min, unwrap_or}
use Rattle.module_rules.specs.declared.items.Limits.{Limits}

-- the maximum, if there is one, is at most the bound, and not below the minimum
abbrev pub is_valid_maximum : ℕ → ℕ → Option ℕ → Bool
is_valid_maximum bound initial None = true
is_valid_maximum bound initial (Some maximum) = nat_le initial maximum && nat_le maximum bound

-- limits within a bound
abbrev pub are_within : ℕ → Limits → Bool
are_within bound l = nat_le l.initial bound && is_valid_maximum bound l.initial l.maximum

-- the bits of an address
abbrev pub address_bits : Bool → ℕ
address_bits true = 64
address_bits false = 32

-- so many elements a table may have (Specification, "Table Types")
abbrev pub table_bound : Bool → ℕ
table_bound table64 = 2 ^ address_bits table64 - 1

-- the size of a page is 2^16 bytes where none is set (a proposal, "Custom Page Sizes")
abbrev pub page_size_log2 : Option ℕ → ℕ
page_size_log2 set = unwrap_or set 16

-- so many pages a memory may have: all their bytes have an address (Specification, "Memory Types"). A size
-- has 64 bits.
abbrev pub memory_bound : Bool → Option ℕ → ℕ
memory_bound memory64 set = min (2 ^ (address_bits memory64 - page_size_log2 set)) (2 ^ 64 - 1)
