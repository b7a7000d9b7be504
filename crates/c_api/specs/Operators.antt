-- The operator that some bytes begin with, in a module (the crate's own).
use Rattle.std.specs.Prelude.{◌≡◌, ℕ, ◌+◌, List, Some, None, length}
use Rattle.binary_operators.specs.Instructions.{operator as read_operator}
use Rattle.binary_operators.specs.Unplaced.{unplaced}
use Rattle.binary_operators.specs.declared.types.CanonicalTypes.{CanonicalTypes}
use Rattle.validate_stacks.specs.State.{BodyState, body_context}
use Rattle.validate_visit.specs.declared.op.Op.{Op}
use Rattle.validation_rules.specs.Operators.{operator}
use Rattle.validation_rules.specs.Static.{step, RowFails}
use Rattle.c_api.specs.Modules.{context_in, AreTypesIn}
use Rattle.c_api.specs.declared.shared.HeldModule.{HeldModule}

-- The bytes begin with this operator, which has so many of them.
pub record IsOperatorOf (h : HeldModule) (bytes : List ℕ) (op : Op) (taken : ℕ) : Type 0 where
  pub types : CanonicalTypes
  pub are_types : AreTypesIn h types
  pub behind : List ℕ
  pub is_read : read_operator types bytes ≡ Some (unplaced op, behind)
  pub has_length : length bytes ≡ taken + length behind

-- they begin with no operator
abbrev pub BeginsWithNone : HeldModule → List ℕ → Type 0
BeginsWithNone h bytes = (types : CanonicalTypes) → AreTypesIn h types → read_operator types bytes ≡ None

-- they begin with none whose row holds in this state
abbrev pub HasNoRow : HeldModule → List ℕ → BodyState → Type 0
HasNoRow h bytes v =
    (types : CanonicalTypes) (op : Op) (behind : List ℕ) → AreTypesIn h types
    → read_operator types bytes ≡ Some (op, behind)
    → let cx = body_context (context_in h) v in RowFails (step cx (operator cx op) v.present)
