-- Moves by the row that an operator has now: it shows no context and no heads, so that what was found rewrites it.
use Rattle.std.proofs.Common.{◌≡◌, ◌≢◌, Bool, true, false, ◌&&◌, List, [], ◌∷◌, None, Result, Ok, Err, OnOk, IfErr, refl, sym, ap, ◌∙◌, subst}
use Rattle.std.specs.List.{AllByRecursion}
use Rattle.std.specs.Option.{option_map}
use Rattle.validate_resources.specs.Context.{ModuleContext, Valid}
use Rattle.validate_types.specs.declared.types.ValType.{ValType}
use Rattle.validation_rules.specs.Context.{Context}
use Rattle.validation_rules.specs.Operators.{plain_row, row_operator}
use Rattle.validation_rules.specs.Rows.{Form, Stays, Opens, BeginsElse, BeginsCatch, Ends, Delegates, Operator, Row}
use Rattle.validation_rules.specs.Static.{Frame, State, heads, step_in}
use Rattle.validate_stacks.specs.Attempts.{Stacked}
use Rattle.validate_stacks.specs.Moves.{Moves, Exchanges}
use Rattle.validate_stacks.specs.State.{BodyState, IsValidBody, body_context}
use Rattle.validate_stacks.specs.Visits.{step_body}
use Rattle.validation_rules.proofs.Valid.{checked_valid}
use Rattle.validate_stacks.proofs.AtOnce.{was_made, was_not_made}
use Rattle.validate_stacks.proofs.Moves.{fits_now, given_alone, not_popped, takes_done}
use Rattle.validate_shapes.proofs.Moves.{exchange_moves, moves_as, never_refused, plain_is, unmoved}
use Rattle.validate_shapes.proofs.OpenerSteps.{by_check, not_opened, entered_moves}

-- an operator of this form, with this row whatever frames are open
abbrev fixed : Form → Row → Operator
fixed form row = record { form = form; row = λ hs. row }

-- a body's move by an operator of this form and row
unfoldable pub MovesBy : {E : Type 0} → ModuleContext → (E → Type 0) → Form → Row → Stacked → Result (Unit {0}) E → Stacked → Type 0
MovesBy md tells form row s r w = Moves md tells (λ c. fixed form row) s r w

module _ (md : ModuleContext) (v : BodyState) where
  abbrev stepped : Operator → List Frame → Type 0
  stepped op fs = option_map (λ (s : State). record v { present = s }) (step_in (body_context md v) op fs v.present.left) ≡ option_map (λ (s : State). record v { present = s }) (step_in (body_context md v) (fixed op.form (op.row (heads fs))) fs v.present.left)

  fixed_in : (op : Operator) (fs : List Frame) → stepped op fs
  fixed_in op [] = refl
  fixed_in op (f ∷ fs) = refl

  barred_in : (form : Form) (row : Row) (fs : List Frame) → option_map (λ (s : State). record v { present = s }) (step_in (body_context md v) (fixed form (record row { premise = false })) fs v.present.left) ≡ None
  barred_in form row [] = refl
  barred_in Stays row (f ∷ fs) = refl
  barred_in (Opens h) row (f ∷ fs) = refl
  barred_in BeginsElse row (f ∷ fs) = refl
  barred_in (BeginsCatch all types) row (f ∷ fs) = refl
  barred_in Ends row (f ∷ fs) = refl
  barred_in Delegates row (f ∷ fs) = refl

  barred_by : (form : Form) (row : Row) → row.premise ≡ false → step_body md (λ c. fixed form row) v ≡ None
  barred_by form row h = ap (λ b. step_body md (λ c. fixed form (record row { premise = b })) v) h ∙ barred_in form row v.present.frames

module _ {E : Type 0} (md : ModuleContext) (tells : E → Type 0) (op : Context → Operator) (s : Stacked) (r : Result (Unit {0}) E) (w : Stacked) where
  abbrev now : Operator
  now = op (body_context md s.body)

  abbrev AtRow : Type 0
  AtRow = MovesBy md tells now.form (now.row (heads s.body.present.frames)) s r w

  to_row : Moves md tells op s r w → AtRow
  unfolding MovesBy
  to_row m = moves_as md tells (λ c. fixed now.form (now.row (heads s.body.present.frames))) op s w (sym (fixed_in md s.body now s.body.present.frames)) r m

  from_row : AtRow → Moves md tells op s r w
  unfolding MovesBy
  from_row m = moves_as md tells op (λ c. fixed now.form (now.row (heads s.body.present.frames))) s w (fixed_in md s.body now s.body.present.frames) r m

  pub by_row : (Moves md tells op s r w → AtRow) × (AtRow → Moves md tells op s r w)
  by_row = (to_row, from_row)

module _ {E : Type 0} (md : ModuleContext) (tells : E → Type 0) (form : Form) (row : Row) (s : Stacked) (r : Result (Unit {0}) E) where
  -- a refusal by a row whose premise doesn't hold
  pub refused_by_row : OnOk r ⊥ → IfErr r (λ e. tells e → row.premise ≡ false) → MovesBy md tells form row s r s
  unfolding MovesBy
  refused_by_row never h = unmoved md tells (λ c. fixed form row) s s r never refl (barred r h)
    where
      barred : (r : Result (Unit {0}) E) → IfErr r (λ e. tells e → row.premise ≡ false) → IfErr r (λ e. tells e → step_body md (λ c. fixed form row) s.body ≡ None)
      barred (Ok u) h = tt
      barred (Err e) h = λ t. barred_by md s.body form row (h t)

  -- a row behind a gate that is open
  pub open_row : (w : Stacked) (b : Bool) → b ≡ true → MovesBy md tells form row s r w → MovesBy md tells form (record row { premise = b && row.premise }) s r w
  open_row w b h m = subst (λ b. MovesBy md tells form (record row { premise = b && row.premise }) s r w) (sym h) m

-- a refusal where the operator has no step
pub refused_step : {E : Type 0} (md : ModuleContext) (tells : E → Type 0) (op : Context → Operator) (s : Stacked) (r : Result (Unit {0}) E) → OnOk r ⊥ → IfErr r (λ e. tells e → step_body md op s.body ≡ None) → Moves md tells op s r s
refused_step md tells op s r never none = unmoved md tells op s s r never refl none

-- an exchange is the step of a plain row
pub exchanged : {E : Type 0} (md : ModuleContext) (tells : E → Type 0) (expected ts : List ValType) (s : Stacked) (r : Result (Unit {0}) E) (w : Stacked) → s.body.present.frames ≢ [] → AllByRecursion (Valid md) ts → IsValidBody md s.body → Exchanges md tells expected ts s r w → MovesBy md tells Stays (plain_row expected ts) s r w
unfolding MovesBy
exchanged md tells expected ts s r w o valid state x = exchange_moves md tells (λ c. row_operator (plain_row expected ts)) s w expected ts (plain_is md s.body expected ts o) valid state r x

pub ruleset known_rows = (by_row, refused_by_row)

pub ruleset gated_rows = (known_rows, open_row)

pub ruleset exchanges = (known_rows, exchanged, was_made, was_not_made, takes_done, given_alone)

pub ruleset openers = (known_rows, refused_step, by_check, not_opened, checked_valid, entered_moves)

-- operands that don't fit
pub ruleset unfit_steps = (refused_step, fits_now, not_popped, never_refused)
