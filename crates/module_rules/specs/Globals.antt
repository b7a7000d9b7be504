-- The globals of a module (WebAssembly core specification, "Global Types", and "Modules": globals, imports).
use Rattle.std.specs.Prelude.{ℕ, Bool, List, ◌&&◌, ◌||◌, not, nat_lt, length}
use Rattle.std.specs.List.{list_all, enumerate_from}
use Rattle.validate_types.specs.Features.{has, shared_everything_threads, is_type_enabled}
use Rattle.validate_types.specs.declared.types.SubType.{SubType}
use Rattle.validate_types.specs.declared.types.ValType.{ValType}
use Rattle.validate_resources.specs.Indices.{is_known, type_indices_pass}
use Rattle.module_rules.specs.Features.{operator_features}
use Rattle.module_rules.specs.Types.{is_type_shared}
use Rattle.module_rules.specs.declared.features.ModuleFeatures.{ModuleFeatures}
use Rattle.module_rules.specs.declared.items.DeclaredGlobal.{DeclaredGlobal}

module _ (features : ModuleFeatures) (types : List SubType) where
  -- its proposal is on, and the type that it names is there
  abbrev pub is_valid_value_type : ValType → Bool
  is_valid_value_type t =
      is_type_enabled (operator_features features) t && type_indices_pass (is_known (length types)) t

  -- shared globals are of a proposal, and hold what is shared
  abbrev pub is_valid_global_type : DeclaredGlobal → Bool
  is_valid_global_type g =
      is_valid_value_type g.ty.content_type
      && (not g.ty.shared
      || has features.operators shared_everything_threads && is_type_shared types g.ty.content_type)

  -- that an imported global can be written is of a proposal
  abbrev pub is_valid_global : ℕ → ℕ → DeclaredGlobal → Bool
  is_valid_global imported i g =
      is_valid_global_type g
      && (not g.ty.mutable || not (nat_lt i imported) || features.mutable_global)

  abbrev pub are_valid_globals : ℕ → List DeclaredGlobal → Bool
  are_valid_globals imported globals =
      list_all (λ (e : ℕ × DeclaredGlobal). is_valid_global imported e.0 e.1) (enumerate_from 0 globals)
