-- The rows of operators on whole memories and on data segments (WebAssembly core specification,
-- "Validation: Memory Instructions").
-- Addresses, sizes and lengths are of the type of the memory's addresses; the byte that `memory.fill`
-- writes, and a place and a length in a segment, are i32. A data segment is one of the count that the
-- module says; where it says none, there is none.
use Rattle.std.specs.Prelude.{ℕ, Bool, false, nat_lt, [], ◌∷◌, Option, Some, None}
use Rattle.std.specs.Option.{option_map}
use Rattle.validate_types.specs.Types.{address_type_of_memory}
use Rattle.validation_rules.specs.Context.{ModuleContext, ValType, I32, Context}
use Rattle.validation_rules.specs.Rows.{Row}
use Rattle.validation_rules.specs.Shapes.{plain_row, plain_row_if, lookup_row}

-- the type of the addresses of a memory, where there is one
abbrev pub memory_address_type : ModuleContext → ℕ → Option ValType
memory_address_type md m = option_map address_type_of_memory (md.memory_at m)

abbrev pub memory_size_row : Context → ℕ → Row
memory_size_row cx m = lookup_row (memory_address_type cx.of_module m) (λ it. plain_row [] (it ∷ []))

abbrev pub memory_grow_row : Context → ℕ → Row
memory_grow_row cx m =
    lookup_row (memory_address_type cx.of_module m) (λ it. plain_row (it ∷ []) (it ∷ []))

abbrev pub memory_fill_row : Context → ℕ → Row
memory_fill_row cx m =
    lookup_row (memory_address_type cx.of_module m) (λ it. plain_row (it ∷ I32 ∷ it ∷ []) [])

abbrev pub memory_discard_row : Context → ℕ → Row
memory_discard_row cx m =
    lookup_row (memory_address_type cx.of_module m) (λ it. plain_row (it ∷ it ∷ []) [])

-- a length that fits both memories: of 32 bits, where one has addresses of 32
abbrev pub narrower_type : ValType → ValType → ValType
narrower_type I32 from = I32
narrower_type to from = from

-- to an address, from an address, so long
abbrev pub memory_copy_row_for : ValType → ValType → Row
memory_copy_row_for to from = plain_row (to ∷ from ∷ narrower_type to from ∷ []) []

abbrev pub memory_copy_row : Context → ℕ → ℕ → Row
memory_copy_row cx dst src =
    lookup_row (memory_address_type cx.of_module dst)
    (λ to. lookup_row (memory_address_type cx.of_module src) (memory_copy_row_for to))

-- the segment is one of so many, where the module says how many
abbrev pub is_segment : Option ℕ → ℕ → Bool
is_segment None i = false
is_segment (Some count) i = nat_lt i count

abbrev pub memory_init_row : Context → ℕ → ℕ → Row
memory_init_row cx segment m =
    lookup_row (memory_address_type cx.of_module m)
    (λ it. plain_row_if (is_segment cx.of_module.data_count segment) (it ∷ I32 ∷ I32 ∷ []) [])

abbrev pub data_drop_row : Context → ℕ → Row
data_drop_row cx segment = plain_row_if (is_segment cx.of_module.data_count segment) [] []
