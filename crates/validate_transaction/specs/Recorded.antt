-- The log after one more entry (the crate's own).
use Rattle.std.specs.Prelude.{ℕ, List, [], ◌∷◌, ◌++◌, Bool, true, false, Option, Some, None, map, replicate}
use Rattle.validate_types.specs.declared.types.ValType.{ValType}
use Rattle.validate_types.specs.declared.types.MaybeType.{MaybeType}
use Rattle.validate_visit.specs.declared.frame.Frame.{Frame}
use Rattle.validate_transaction.specs.declared.log.Closed.{Closed}
use Rattle.validate_transaction.specs.declared.log.Entry.{Entry}
use Rattle.validate_transaction.specs.declared.log.Transaction.{Transaction}
use Rattle.validate_transaction.specs.declared.log.Transaction.TheVariants.{Active, Inactive}
use Rattle.validate_transaction.specs.Log.{Log, has_changes}

-- the log of an attempt
abbrev pub log_of : Transaction → Option Log
log_of (Active log) = Some log
log_of (Inactive allocs) = None

abbrev pub with_push : Transaction → Transaction
with_push (Active log) = Active (record log { operands = None ∷ log.operands })
with_push (Inactive allocs) = Inactive allocs

abbrev pub with_pop : MaybeType ValType → Transaction → Transaction
with_pop ty (Active log) = Active (record log { operands = Some ty ∷ log.operands })
with_pop ty (Inactive allocs) = Inactive allocs

abbrev pub with_opened : Transaction → Transaction
with_opened (Active log) = Active (record log { frames = None ∷ log.frames })
with_opened (Inactive allocs) = Inactive allocs

abbrev pub with_closed : Frame → List ℕ → Transaction → Transaction
with_closed frame inits (Active log) =
    Active (record log { frames = Some frame ∷ log.frames; inits = log.inits ++ inits })
with_closed frame inits (Inactive allocs) = Inactive allocs

abbrev pub with_mark : Transaction → Transaction
with_mark (Active log) = Active (record log { unreachable = true })
with_mark (Inactive allocs) = Inactive allocs

-- an attempt is pending that has something to undo, where so many locals were first set since the body began
abbrev pub has_changes_now : ℕ → Transaction → Bool
has_changes_now n (Active log) = has_changes n log
has_changes_now n (Inactive allocs) = false

-- ---- all that a call does: operands are popped, a frame is closed, one is opened, and operands are pushed

abbrev pub frames_with_closed : Option Closed → List (Option Frame) → List (Option Frame)
frames_with_closed None trace = trace
frames_with_closed (Some c) trace = Some c.frame.now ∷ trace

abbrev pub frames_with_opened : Bool → List (Option Frame) → List (Option Frame)
frames_with_opened true trace = None ∷ trace
frames_with_opened false trace = trace

-- the locals that it unsets
abbrev pub unset_by : Option Closed → List ℕ
unset_by None = []
unset_by (Some c) = c.unset.now

abbrev pub log_with_entry : Entry → Log → Log
log_with_entry e log =
    record log {
      operands = replicate e.pushed None ++ (map Some e.popped.now ++ log.operands);
      frames = frames_with_opened e.opened (frames_with_closed e.closed log.frames);
      inits = log.inits ++ unset_by e.closed;
    }

-- the log of an attempt, if one is pending
abbrev pub with_entry : Entry → Transaction → Transaction
with_entry e (Active log) = Active (log_with_entry e log)
with_entry e (Inactive allocs) = Inactive allocs
