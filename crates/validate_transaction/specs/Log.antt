-- The log of an attempt (the crate's own; wasmparser's RollbackLog).
use Rattle.std.specs.Prelude.{ℕ, List, [], Bool, false, Option, ◌||◌, ◌&&◌, not, nat_lt}
use Rattle.validate_types.specs.declared.types.ValType.{ValType}
use Rattle.validate_types.specs.declared.types.MaybeType.{MaybeType}
use Rattle.validate_visit.specs.declared.frame.Frame.{Frame}
use Rattle.validate_transaction.specs.TakeBack.{is_empty}

-- what was recorded: operands and frames newest first, a push as None and a pop as what was popped; the
-- initialisations that were unset, in order; how many there were at the start; whether a frame was marked
pub record Log : Type 0 where
  pub operands : List (Option (MaybeType ValType))
  pub frames : List (Option Frame)
  pub inits : List ℕ
  pub init_height : ℕ
  pub unreachable : Bool

-- nothing recorded
abbrev pub empty_log : ℕ → Log
empty_log n = record { operands = []; frames = []; inits = []; init_height = n; unreachable = false }

-- there is something to undo, where so many locals were first set since the body began
abbrev pub has_changes : ℕ → Log → Bool
has_changes n log =
    (log.unreachable || nat_lt log.init_height n)
    || not (is_empty log.operands && (is_empty log.frames && is_empty log.inits))
