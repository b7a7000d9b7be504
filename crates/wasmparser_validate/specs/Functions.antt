-- What a function validator stands for, and what becomes of it at an operator (the crate's own).
use Rattle.std.specs.Prelude.{◌≡◌, ℕ, Bool, true, false, List, [], ◌∷◌, ◌++◌, Some, None, length}
use Rattle.validate_resources.specs.Context.{ModuleContext}
use Rattle.validate_types.specs.ErrorValue.{ErrorValue}
use Rattle.validate_visit.specs.declared.frame.Frame.{Frame as FlatFrame}
use Rattle.validate_visit.specs.declared.op.Op.{Op}
use Rattle.validation_rules.specs.Operators.{operator}
use Rattle.validation_rules.specs.Static.{State, start, step, RowHolds, RowFails}
use Rattle.validate_stacks.specs.State.{BodyState, body_context, IsStarting, IsValidBody}
use Rattle.validate_stacks.specs.Steps.{frame_at}
use Rattle.validate_operators.specs.Runs.{body_before}

-- a function validator over a lookup of this type
pub record FunctionState (R : Type 0) : Type 0 where
  -- the lookup
  pub resources : R
  -- the state in which its body starts, which an operator doesn't change
  pub starting : BodyState
  -- the operators that were accepted, with their offsets
  pub accepted : List (Op × ℕ)
  -- the open frames with their operands
  pub present : State
  -- an operator was refused that wasn't attempted
  pub failed : Bool

-- one that was handed this state, and has accepted no operator
abbrev pub function_from : {R : Type 0} → R → BodyState → FunctionState R
function_from r v =
    record { resources = r; starting = v; accepted = []; present = v.present; failed = false }

-- the state of the body
abbrev pub body_state : {R : Type 0} → FunctionState R → BodyState
body_state f = record f.starting { present = f.present }

-- the same, as if no operator had been refused
abbrev pub unmarked : {R : Type 0} → FunctionState R → FunctionState R
unmarked f = record f { failed = false }

-- the state is that of the static run over the accepted operators, from the starting state
abbrev pub IsStaticRun : {R : Type 0} → ModuleContext → FunctionState R → Type 0
IsStaticRun md f = body_before md f.starting f.accepted (length f.accepted) ≡ Some f.present

-- An operator is accepted, so that f becomes g: none was refused, its row holds, and it joins the list.
pub record Accepts {R : Type 0} (md : ModuleContext) (p : Op × ℕ) (f g : FunctionState R) : Type 0 where
  pub none_failed : f.failed ≡ false
  pub row : let cx = body_context md f.starting in RowHolds (step cx (operator cx p.0) f.present) g.present
  pub joins : g ≡ record f { accepted = f.accepted ++ p ∷ []; present = g.present }

-- An operator is refused in f: one was refused before, memory is wanting, or its row doesn't hold. The
-- refusal carries its offset.
pub record Refuses
    {R : Type 0} (md : ModuleContext) (p : Op × ℕ) (f : FunctionState R) (refusal : ErrorValue) : Type 0 where
  pub row :
      let cx = body_context md f.starting in
      f.failed ≡ false → refusal.wants_memory ≡ false → RowFails (step cx (operator cx p.0) f.present)
  pub at_offset : refusal.offset ≡ p.1

-- f becomes g, which has failed: the starting state and the accepted operators stay
abbrev pub Fails : {R : Type 0} → FunctionState R → FunctionState R → Type 0
Fails f g = g ≡ record f { present = g.present; failed = true }

-- ---- what a function validator keeps, and what that stands for

-- the state in which a body started that is in state v now, where this was its one frame
abbrev pub state_from : FlatFrame → BodyState → BodyState
state_from first v = record v { present = start first.block_type; undone = None }

abbrev pub function_state :
    {R : Type 0} → R → FlatFrame → BodyState → List (Op × ℕ) → Bool → FunctionState R
function_state r first v accepted failed =
    record {
      resources = r;
      starting = state_from first v;
      accepted = accepted;
      present = v.present;
      failed = failed;
    }

-- No attempt is pending, the types are valid, and the body started in a starting state with this frame. While
-- no operator was refused, its state is that of the static run over the accepted ones.
pub record IsSound
    (md : ModuleContext) (first : FlatFrame) (v : BodyState) (accepted : List (Op × ℕ))
    (failed : Bool) : Type 0 where
  pub idle : v.undone ≡ None
  pub valid : IsValidBody md v
  pub first_frame : frame_at (state_from first v) 0 ≡ Some first
  pub starts : IsStarting md (state_from first v)
  pub run :
      failed ≡ false → body_before md (state_from first v) accepted (length accepted) ≡ Some v.present
