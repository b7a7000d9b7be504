-- The function of a module that is begun with the locals of its body (the crate's own).
use Rattle.std.specs.Prelude.{◌≡◌, ℕ, ◌+◌, ◌-◌, ◌^◌, ◌<◌, List, length}
use Rattle.binary_operators.specs.Unread.{Unread}
use Rattle.binary_operators.specs.declared.types.CanonicalTypes.{CanonicalTypes}
use Rattle.module_check.specs.Begin.{DefinesRead}
use Rattle.module_check.specs.Loaded.{HasBody, declared, features_of}
use Rattle.module_check.specs.declared.loaded.LoadedModule.{LoadedModule}
use Rattle.module_rules.specs.Features.{operator_features}
use Rattle.validate_operators.specs.Start.{IsFuncStart}
use Rattle.wasmparser_validate.specs.Functions.{function_from}
use Rattle.validate_stacks.specs.State.{BodyState}
use Rattle.c_api.specs.Functions.{InProgress, module_under}
use Rattle.c_api.specs.declared.shared.HeldModule.TheVariants.{Whole}

-- A function of the type at this index starts in this state, with the locals that the bytes begin with; these
-- are behind them.
pub record StartsWithLocals
    (m : LoadedModule) (type_index : ℕ) (types : CanonicalTypes) (bytes behind : List ℕ) (v : BodyState)
    : Type 0 where
  pub start : BodyState
  pub of_type : IsFuncStart (declared m) (operator_features (features_of m)) type_index start
  pub has_locals : DefinesRead (declared m) types bytes behind start v

-- The body of this function starts in this state, with its locals. Behind them its operators stand from the
-- offset first up to the offset behind.
pub record StartsBody (m : LoadedModule) (function first behind : ℕ) (v : BodyState) : Type 0 where
  pub type_index : ℕ
  pub body : Unread
  pub types : CanonicalTypes
  pub is_body : HasBody m function type_index body types
  pub operators : List ℕ
  pub has_locals : StartsWithLocals m type_index types body.left operators v
  pub ends : body.offset + length body.left < 2 ^ 64 → behind ≡ body.offset + length body.left
  pub begins : first ≡ behind - length operators

-- the function in progress is this one, whose body starts so, and has accepted no operator
pub record IsBodyBegun (m : LoadedModule) (function first behind : ℕ) (f : InProgress) : Type 0 where
  pub is_module : module_under f ≡ Whole m
  pub is_start : f ≡ function_from f.resources f.starting
  pub starts : StartsBody m function first behind f.starting
