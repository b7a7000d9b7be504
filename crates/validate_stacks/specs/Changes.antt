-- What one call does to a body: some operands go, the frame is closed or not, a local is set or not, another frame
-- is opened or not, and operands come (Specification, appendix "Validation Algorithm": pop_vals, pop_ctrl,
-- set_local, push_ctrl, push_vals, in this order).
use Rattle.std.specs.Prelude.{◌≡◌, ◌≢◌, ◌<◌, ◌≤◌, ◌+◌, ◌⊎◌, ℕ, Bool, true, false, if◌then◌else◌}
use Rattle.std.specs.Prelude.{List, [], ◌∷◌, ◌++◌, Option, Some, None, length, is_some, take, drop}
use Rattle.std.specs.Option.{ForSome}
use Rattle.validate_locals.specs.Inits.{Inits, is_local_set}
use Rattle.validate_transaction.specs.declared.log.Closed.{Closed}
use Rattle.validate_transaction.specs.declared.log.Transaction.{Transaction}
use Rattle.validate_transaction.specs.Recorded.{with_push, with_pop, with_opened, with_closed}
use Rattle.validate_types.specs.declared.types.ValType.{ValType}
use Rattle.validate_visit.specs.declared.frame.BlockType.{BlockType}
use Rattle.validate_visit.specs.declared.frame.Frame.{Frame as FlatFrame}
use Rattle.validate_visit.specs.declared.frame.FrameKind.{FrameKind}
use Rattle.validation_rules.specs.Fits.{MaybeType, Known}
use Rattle.validate_stacks.specs.AtOnce.{body_dropped}
use Rattle.validate_stacks.specs.Attempts.{Stacked, may_frame, may_set, may_unset}
use Rattle.validate_stacks.specs.Pops.{body_pushed_each}
use Rattle.validate_stacks.specs.State.{BodyState}
use Rattle.validate_stacks.specs.Steps.{innermost_operands, body_pushed, body_with_frame, body_without_frame}
use Rattle.validate_stacks.specs.Steps.{body_with_local_set}
use Rattle.validate_stacks.specs.declared.change.Change.{Change}

-- ---- on a body

abbrev pub body_closed : Bool → BodyState → BodyState
body_closed true v = body_without_frame v
body_closed false v = v

abbrev pub body_setting : Option ℕ → BodyState → BodyState
body_setting (Some i) v = body_with_local_set i v
body_setting None v = v

abbrev pub body_opened : Option (FrameKind × BlockType) → BodyState → BodyState
body_opened (Some opened) v = body_with_frame opened.0 opened.1 v
body_opened None v = v

abbrev pub body_topped : Option MaybeType → BodyState → BodyState
body_topped (Some t) v = body_pushed t v
body_topped None v = v

abbrev pub body_changed : Change → BodyState → BodyState
body_changed c v =
    let left = body_setting c.sets (body_closed c.closes (body_dropped c.popped v)) in
    body_topped c.top (body_pushed_each c.pushed.now (body_opened c.opens left))

-- how many operands come
abbrev pub pushed_count : Change → ℕ
pushed_count c = length c.pushed.now + (if is_some c.top then 1 else 0)

-- It may be made: the innermost frame has as many own operands, and no others where it is closed; a local that is set
-- is declared, and no frame is closed or opened then. An attempt that is pending allows it.
pub record MayChange (c : Change) (v : Stacked) : Type 0 where
  pub own : c.popped ≤ length (innermost_operands v.body.present.frames)
  pub whole : c.closes ≡ true → length (innermost_operands v.body.present.frames) ≡ c.popped
  pub open_frame : c.closes ≡ true → v.body.present.frames ≢ []
  pub closing : c.closes ≡ true → may_frame v ≡ true
  pub unsets : c.closes ≡ true → may_unset v ≡ true
  pub opening : c.opens ≢ None → may_frame v ≡ true
  pub setting : c.sets ≢ None → may_set v ≡ true
  pub declared : ForSome c.sets (λ i. i < length v.body.locals)
  pub set_within : c.sets ≢ None → v.body.present.frames ≢ []
  pub set_alone : c.sets ≢ None → (c.closes ≡ false) × (c.opens ≡ None)

-- ---- on the flat lists

-- one more operand for each type, the first of the list first
abbrev pub operands_given : List ValType → List MaybeType → List MaybeType
operands_given [] operands = operands
operands_given (t ∷ ts) operands = operands_given ts (Known t ∷ operands)

abbrev pub operands_topped : Option MaybeType → List MaybeType → List MaybeType
operands_topped None operands = operands
operands_topped (Some t) operands = t ∷ operands

abbrev pub frames_closed : Bool → List FlatFrame → List FlatFrame
frames_closed true (f ∷ fs) = fs
frames_closed _ fs = fs

-- the locals that are set once the innermost frame is closed, if it is
abbrev pub order_closed : Bool → List FlatFrame → List ℕ → List ℕ
order_closed true (f ∷ fs) order = take f.init_height order
order_closed _ fs order = order

-- the locals that are set once another is, if one is
abbrev pub order_set : Option ℕ → List Bool → List ℕ → List ℕ
order_set None set_at_entry order = order
order_set (Some i) set_at_entry order = if is_local_set set_at_entry order i then order else order ++ i ∷ []

-- setting it takes no memory: it is set, or there is room
abbrev pub HasRoomToSet : ℕ → Inits → Type 0
HasRoomToSet i v = (is_local_set v.set_at_entry v.order i ≡ true) ⊎ (length v.order < v.room)

abbrev pub frames_opened : Option (FrameKind × BlockType) → ℕ → ℕ → List FlatFrame → List FlatFrame
frames_opened None height init_height fs = fs
frames_opened (Some opened) height init_height fs =
    record {
      kind = opened.0;
      block_type = opened.1;
      height = height;
      unreachable = false;
      init_height = init_height;
    }
    ∷ fs

-- ---- in the log

-- the attempt's log once each of these was popped, the first of the list first
abbrev pub log_popped : List MaybeType → Transaction → Transaction
log_popped [] t = t
log_popped (x ∷ xs) t = log_popped xs (with_pop x t)

-- once this frame was closed, if one was
abbrev pub log_with_closed : Option Closed → Transaction → Transaction
log_with_closed None t = t
log_with_closed (Some c) t = with_closed c.frame.now c.unset.now t

abbrev pub log_closed : Bool → List FlatFrame → List ℕ → Transaction → Transaction
log_closed true (f ∷ fs) order t = with_closed f (drop f.init_height order) t
log_closed _ fs order t = t

abbrev pub log_opened : Option (FrameKind × BlockType) → Transaction → Transaction
log_opened None t = t
log_opened (Some opened) t = with_opened t

-- once so many were pushed
abbrev pub log_pushed : List ValType → Transaction → Transaction
log_pushed [] t = t
log_pushed (g ∷ gs) t = log_pushed gs (with_push t)

abbrev pub log_topped : Option MaybeType → Transaction → Transaction
log_topped None t = t
log_topped (Some x) t = with_push t

abbrev pub log_changed : Change → List FlatFrame → List MaybeType → List ℕ → Transaction → Transaction
log_changed c fs operands order t =
    let left = log_closed c.closes fs order (log_popped (take c.popped operands) t) in
    log_topped c.top (log_pushed c.pushed.now (log_opened c.opens left))
