-- The memories of a module (WebAssembly core specification, "Memory Types", and "Modules": memories).
use Rattle.std.specs.Prelude.{ℕ, Bool, true, List, ◌&&◌, ◌||◌, ◌==◌, not, nat_le, length}
use Rattle.std.specs.Prelude.{Option, Some, None, is_some}
use Rattle.std.specs.List.{list_all}
use Rattle.validate_types.specs.Features.{has, threads}
use Rattle.module_rules.specs.Limits.{are_within, memory_bound}
use Rattle.module_rules.specs.declared.features.ModuleFeatures.{ModuleFeatures}
use Rattle.module_rules.specs.declared.items.DeclaredMemory.{DeclaredMemory}

module _ (features : ModuleFeatures) where
  -- pages of 1 byte and of 2^16 may be set (a proposal, "Custom Page Sizes")
  abbrev pub is_valid_page_size : Option ℕ → Bool
  is_valid_page_size None = true
  is_valid_page_size (Some size_log2) =
      features.custom_page_sizes && (size_log2 == 0 || size_log2 == 16)

  -- addresses of 64 bits are of a proposal; so are shared memories, which have a maximum (a proposal,
  -- "Threads")
  abbrev pub is_memory_enabled : DeclaredMemory → Bool
  is_memory_enabled m =
      (not m.ty.memory64 || features.memory64)
      && (not m.ty.shared || has features.operators threads && is_some m.limits.maximum)

  abbrev pub is_valid_memory : DeclaredMemory → Bool
  is_valid_memory m =
      is_memory_enabled m && is_valid_page_size m.page_size_log2
      && are_within (memory_bound m.ty.memory64 m.page_size_log2) m.limits

  -- several memories are of a proposal
  abbrev pub may_be_so_many : ℕ → Bool
  may_be_so_many memories = nat_le memories 1 || features.multi_memory

  abbrev pub are_valid_memories : List DeclaredMemory → Bool
  are_valid_memories memories = may_be_so_many (length memories) && list_all is_valid_memory memories
