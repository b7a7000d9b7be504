-- The functions and tags of a module, and its start function (WebAssembly core specification, "Modules":
-- functions, tags, start function; "Tag Types").
use Rattle.std.specs.Prelude.{ℕ, Bool, true, false, List, ◌&&◌, ◌||◌, ◌==◌, not, nat_lt, length}
use Rattle.std.specs.Prelude.{Option, Some, None, slice_get}
use Rattle.std.specs.List.{list_all, enumerate_from}
use Rattle.std.specs.Option.{option_and_then}
use Rattle.validate_types.specs.Features.{has, exceptions, custom_descriptors, stack_switching}
use Rattle.validate_types.specs.Kinds.{signature_of}
use Rattle.validate_types.specs.Types.{Signature}
use Rattle.validate_types.specs.declared.types.SubType.{SubType}
use Rattle.validate_resources.specs.Lists.{is_func_type}
use Rattle.module_rules.specs.declared.features.ModuleFeatures.{ModuleFeatures}
use Rattle.module_rules.specs.declared.items.DeclaredFunction.{DeclaredFunction}
use Rattle.module_rules.specs.declared.items.DeclaredTag.{DeclaredTag}
use Rattle.module_rules.specs.declared.items.Start.{Start}

-- what the type at an index takes and gives, if it is one of functions
abbrev pub signature_at : List SubType → ℕ → Option Signature
signature_at types i = option_and_then signature_of (slice_get types i)

-- ---- functions

-- function i, where so many are imported: it is of a function type; exact imports are of a proposal, "Custom
-- Descriptors"
abbrev pub is_valid_function : ModuleFeatures → List SubType → ℕ → ℕ → DeclaredFunction → Bool
is_valid_function features types imported i f =
    is_func_type (slice_get types f.type_index)
    && (not (nat_lt i imported && f.exact) || has features.operators custom_descriptors)

abbrev pub are_valid_functions : ModuleFeatures → List SubType → ℕ → List DeclaredFunction → Bool
are_valid_functions features types imported functions =
    list_all (λ (e : ℕ × DeclaredFunction). is_valid_function features types imported e.0 e.1)
    (enumerate_from 0 functions)

-- ---- tags

-- it is of a function type, which gives something only where continuations can give it back
abbrev pub is_tag_signature : ModuleFeatures → Option Signature → Bool
is_tag_signature features None = false
is_tag_signature features (Some f) = length f.results == 0 || has features.operators stack_switching

abbrev pub is_valid_tag : ModuleFeatures → List SubType → DeclaredTag → Bool
is_valid_tag features types t =
    has features.operators exceptions && is_tag_signature features (signature_at types t.func_type_idx)

abbrev pub are_valid_tags : ModuleFeatures → List SubType → List DeclaredTag → Bool
are_valid_tags features types tags = list_all (is_valid_tag features types) tags

-- ---- the start function

-- it takes nothing and gives nothing
abbrev pub is_start_signature : Option Signature → Bool
is_start_signature None = false
is_start_signature (Some f) = length f.params == 0 && length f.results == 0

-- a function is there, and is of such a type
abbrev pub may_start : List SubType → Option DeclaredFunction → Bool
may_start types None = false
may_start types (Some f) = is_start_signature (signature_at types f.type_index)

abbrev pub is_valid_start : List SubType → List DeclaredFunction → Option Start → Bool
is_valid_start types functions None = true
is_valid_start types functions (Some s) = may_start types (slice_get functions s.function)
