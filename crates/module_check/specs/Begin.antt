-- The locals that the bytes of a function begin with (the crate's own).
use Rattle.std.specs.Prelude.{◌≡◌, ℕ, List, Some}
use Rattle.binary_operators.specs.Functions.{locals}
use Rattle.binary_operators.specs.Values.{list_of}
use Rattle.binary_operators.specs.declared.types.CanonicalTypes.{CanonicalTypes}
use Rattle.validate_types.specs.declared.types.ValType.{ValType}
use Rattle.validate_resources.specs.Context.{ModuleContext}
use Rattle.validate_stacks.specs.State.{BodyState}
use Rattle.validate_operators.specs.Begin.{DefinesEach}
use Rattle.validate_operators.specs.Start.{DefinesLocals}

-- the bytes begin with a group, which defines its locals, and these bytes are behind it
pub record DefinesGroup
    (md : ModuleContext) (types : CanonicalTypes) (bytes rest : List ℕ) (v w : BodyState) : Type 0 where
  pub group : ℕ × ValType
  pub is_read : locals types bytes ≡ Some (group, rest)
  pub defines : DefinesLocals md group.0 group.1 v w

-- the bytes begin with the locals of a function, which are defined, and these bytes are behind them
pub record DefinesRead
    (md : ModuleContext) (types : CanonicalTypes) (bytes rest : List ℕ) (v w : BodyState) : Type 0 where
  pub groups : List (ℕ × ValType)
  pub are_read : list_of (locals types) bytes ≡ Some (groups, rest)
  pub define : DefinesEach md groups v w
