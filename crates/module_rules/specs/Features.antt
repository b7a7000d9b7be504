-- The proposals that a module's check asks for (the crate's own; the names are wasmparser's): those that
-- operators ask for, and those that declarations alone ask for.
use Rattle.std.specs.Prelude.{ℕ, Bool, ◌==◌, if◌then◌else◌}
use Rattle.std.specs.Int.RustNames.{bit_and, bit_or}
use Rattle.validate_types.specs.Features.{has, bulk_memory, bulk_memory_opt}
use Rattle.validate_types.specs.declared.features.WasmFeatures.{WasmFeatures}
use Rattle.module_rules.specs.declared.features.ModuleFeatures.{ModuleFeatures}

-- the bit is one of these
abbrev pub is_among : ℕ → ℕ → Bool
is_among bits bit = bit_and bits bit == bit

-- the proposals that bits stand for: the bits below 2^21 are of operators, as in a set of these, and five above
-- them of declarations; any other bit says nothing
abbrev pub of_bits : ℕ → ModuleFeatures
of_bits bits =
    record {
      operators = record { 0 = bit_and bits 0x1f_ffff };
      mutable_global = is_among bits 2097152;
      memory64 = is_among bits 4194304;
      multi_memory = is_among bits 8388608;
      extended_const = is_among bits 16777216;
      custom_page_sizes = is_among bits 33554432;
    }

-- those that operators ask for: the proposal of bulk memory brings its copies and fills, which may be on
-- without the rest
abbrev pub operator_features : ModuleFeatures → WasmFeatures
operator_features features =
    record {
      0 =
          if has features.operators bulk_memory then bit_or features.operators.0 bulk_memory_opt
          else features.operators.0;
    }
