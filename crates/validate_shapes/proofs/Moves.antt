-- What a body's answers show of its row.
use Rattle.std.proofs.Common.{◌≡◌, ◌≢◌, ℕ, Bool, true, false, List, [], ◌∷◌, Some, None, Result, Ok, Err, MatchResult, IsOk, OnOk, OnErr, IfErr, reverse, is_ok, refl, sym, ap, ◌∙◌, subst}
use Rattle.std.specs.List.{AllByRecursion}
use Rattle.std.specs.Option.{option_map}
use Rattle.validate_resources.specs.Context.{ModuleContext, Valid}
use Rattle.validate_types.specs.ErrorValue.{ErrorValue}
use Rattle.validate_types.specs.declared.types.ValType.{ValType}
use Rattle.validation_rules.specs.Context.{Context}
use Rattle.validation_rules.specs.Rows.{Operator, Head, Row}
use Rattle.validation_rules.specs.Operators.{plain_row, row_operator, staying_operator}
use Rattle.validation_rules.specs.Static.{Frame, heads}
use Rattle.validate_stacks.specs.AtOnce.{MeetsOrUnchanged}
use Rattle.validate_stacks.specs.Attempts.{Stacked}
use Rattle.validate_stacks.specs.Moves.{Moves, Takes, Exchanges}
use Rattle.validate_stacks.specs.Pops.{IsKept, body_popped_each, body_pushed_each, has_operands_fitting}
use Rattle.validate_stacks.specs.State.{BodyState, IsValidBody, body_context, body_with_frames}
use Rattle.validate_stacks.specs.Steps.{body_unreachable, frames_unreachable}
use Rattle.validate_stacks.specs.Visits.{step_body, Meets}
use Rattle.validate_stacks.proofs.AtOnce.{ended_whole, exchange_parts, mapped_some, popped_each_kept}
use Rattle.validate_stacks.proofs.Validity.{kept_on}
use Rattle.validate_shapes.proofs.LastSteps.{meets_done, meets_stated}
use Rattle.validate_shapes.proofs.LookupRows.{barred, found_as}
use Rattle.validate_shapes.proofs.Rows.{row_then}

-- what the end of the live part leaves is valid
unreachable_valid_in : (md : ModuleContext) (fs : List Frame) (v : BodyState) → IsValidBody md (body_with_frames fs v) → IsValidBody md (body_with_frames (frames_unreachable fs) v)
unreachable_valid_in md [] v h = h
unreachable_valid_in md (f ∷ fs) v h = record { locals_valid = h.locals_valid; frames = (record { block = h.frames.0.block; operands = tt }, h.frames.1); left = h.left }

pub unreachable_valid : (md : ModuleContext) (v : BodyState) → IsValidBody md v → IsValidBody md (body_unreachable v)
unreachable_valid md v h = unreachable_valid_in md v.present.frames v h

module _ {E : Type 0} (md : ModuleContext) (tells : E → Type 0) (op : Context → Operator) (s w : Stacked) where
  -- nothing was changed
  pub unmoved : (r : Result (Unit {0}) E) → OnOk r ⊥ → w ≡ s → IfErr r (λ e. tells e → step_body md op s.body ≡ None) → Moves md tells op s r w
  unfolding Moves
  unmoved (Ok u) never same none = absurd never
  unmoved (Err e) never same none = (same, none)

  -- an exchange is the row's step
  pub exchange_moves : (expected ts : List ValType) → step_body md op s.body ≡ option_map (body_pushed_each ts) (body_popped_each md (reverse expected) s.body) → AllByRecursion (Valid md) ts → IsValidBody md s.body → (r : Result (Unit {0}) E) → Exchanges md tells expected ts s r w → Moves md tells op s r w
  unfolding Moves Takes
  exchange_moves expected ts is valid state (Ok u) x =
      let p = exchange_parts md (reverse expected) ts s.body w.body x in
      record { step = is ∙ x; valid = p.valid valid state; kept = p.kept }
  exchange_moves expected ts is valid state (Err e) x = (x.0, λ t. is ∙ ap (option_map (body_pushed_each ts)) (x.1 t))

  -- what is taken, and becomes what f says, is the row's step
  pub takes_moves : (expected : List ValType) (f : BodyState → BodyState) → step_body md op s.body ≡ option_map f (body_popped_each md (reverse expected) s.body) → ((u : BodyState) → IsValidBody md u → IsValidBody md (f u)) → ((u : BodyState) → IsKept u (f u)) → IsValidBody md s.body → (r : Result (Unit {0}) E) → Takes md tells expected f s r w → Moves md tells op s r w
  unfolding Moves Takes
  takes_moves expected f is valid kept state (Ok u) x =
      let between = mapped_some f (body_popped_each md (reverse expected) s.body) w.body x in
      let v = between.0 in
      let p = popped_each_kept md (reverse expected) s.body v between.1 in
      record { step = is ∙ x; valid = subst (IsValidBody md) between.2 (valid v (p.1 state)); kept = subst (IsKept s.body) between.2 (kept_on s.body v (f v) p.0 (kept v)) }
  takes_moves expected f is valid kept state (Err e) x = (x.0, λ t. is ∙ ap (option_map f) (x.1 t))

  -- at an answer that never tells
  pub moves_at_once : (r : Result (Unit {0}) E) (b : Bool) → b ≡ is_ok r → Moves md tells op s r w → MeetsOrUnchanged md op s b w
  unfolding Moves MeetsOrUnchanged
  moves_at_once (Ok u) true e m = λ offset. meets_done md op offset s.body w.body m.step m.valid m.kept
  moves_at_once (Ok u) false e m = absurd cc
  moves_at_once (Err x) true e m = absurd cc
  moves_at_once (Err x) false e m = m.0

  -- with a refusal at its place, and what upstream leaves then
  pub moves_placed : (offset : ℕ) (e : E) (f : ErrorValue) (x : BodyState) → Moves md tells op s (Err e) w → IsValidBody md s.body → f.offset ≡ offset → (f.wants_memory ≡ false → tells e) → (IsValidBody md w.body → IsValidBody md x) → IsKept w.body x → Meets md op offset s.body (Err f) x
  unfolding Moves
  moves_placed offset e f x m state at told valid kept =
      meets_stated md op offset s.body x (Err f) tt (λ h. m.1 (told h)) at (valid (subst (λ (y : Stacked). IsValidBody md y.body) (sym m.0) state)) (subst (λ (y : Stacked). IsKept y.body x) m.0 kept)

  pub moves_accepted : (offset : ℕ) (u : Unit {0}) → Moves md tells op s (Ok u) w → Meets md op offset s.body (Ok tt) w.body
  unfolding Moves
  moves_accepted offset u m = meets_done md op offset s.body w.body m.step m.valid m.kept

pub plain_is : (md : ModuleContext) (v : BodyState) (expected ts : List ValType) → v.present.frames ≢ [] → step_body md (λ c. row_operator (plain_row expected ts)) v ≡ option_map (body_pushed_each ts) (body_popped_each md (reverse expected) v)
plain_is md v expected ts o = row_then md v None None expected ts o

-- another row with the same step
pub moves_as : {E : Type 0} (md : ModuleContext) (tells : E → Type 0) (op op' : Context → Operator) (s w : Stacked) → step_body md op s.body ≡ step_body md op' s.body → (r : Result (Unit {0}) E) → Moves md tells op' s r w → Moves md tells op s r w
unfolding Moves
moves_as md tells op op' s w same (Ok u) m = record { step = same ∙ m.step; valid = m.valid; kept = m.kept }
moves_as md tells op op' s w same (Err e) m = (m.0, λ t. same ∙ m.1 t)

-- ---- rows that are known once something was looked up

module _ {E : Type 0} (md : ModuleContext) (tells : E → Type 0) (s : Stacked) (row : Context → List Head → Row) where
  abbrev row_now : Row
  row_now = row (body_context md s.body) (heads s.body.present.frames)

  -- a look refused, so the premise doesn't hold
  pub moves_barred : (r : Result (Unit {0}) E) → OnOk r ⊥ → IfErr r (λ e. tells e → row_now.premise ≡ false) → Moves md tells (λ c. staying_operator (row c)) s r s
  unfolding Moves
  moves_barred (Ok u) never h = absurd never
  moves_barred (Err e) never h = (refl, λ t. barred md s.body row (h t))

  -- the row is the one that was found
  pub moves_found : (w : Stacked) (other : Context → List Head → Row) (r : Result (Unit {0}) E) → row_now ≡ other (body_context md s.body) (heads s.body.present.frames) → Moves md tells (λ c. staying_operator (other c)) s r w → Moves md tells (λ c. staying_operator (row c)) s r w
  unfolding Moves
  moves_found w other (Ok u) e m = record { step = sym (found_as md s.body row other e) ∙ m.step; valid = m.valid; kept = m.kept }
  moves_found w other (Err x) e m = (m.0, λ t. sym (found_as md s.body row other e) ∙ m.1 t)

-- ---- rows whose step is known, and what can't be refused

-- a move that wants no memory
pub never_refused : {E : Type 0} (P : Type 0) (a : Result (Unit {0}) E) → IsOk a → OnErr a P
never_refused P (Ok u) h = tt
never_refused P (Err e) h = absurd cc

module _ {E : Type 0} (md : ModuleContext) (tells : E → Type 0) (op : Context → Operator) (s w : Stacked) where
  -- the move makes the step
  pub made_moves : (x : BodyState) → step_body md op s.body ≡ Some x → IsValidBody md x → IsKept s.body x → (a : Result (Unit {0}) E) → IfErr a (λ e. tells e → ⊥) → MatchResult a (λ _. w.body ≡ x) (λ _. w ≡ s) → Moves md tells op s a w
  unfolding Moves
  made_moves x is valid kept (Ok u) told m = record { step = is ∙ ap Some (sym m); valid = subst (IsValidBody md) (sym m) valid; kept = subst (IsKept s.body) (sym m) kept }
  made_moves x is valid kept (Err e) told m = (m, λ t. absurd (told t))

  -- the live part ends, of operands that fit
  pub ended_moves : (expected : List ValType) → step_body md op s.body ≡ option_map body_unreachable (body_popped_each md (reverse expected) s.body) → has_operands_fitting (body_context md s.body) expected s.body ≡ true → IsValidBody md s.body → (a : Result (Unit {0}) E) → IfErr a (λ e. tells e → ⊥) → MatchResult a (λ _. w.body ≡ body_unreachable s.body) (λ _. w ≡ s) → Moves md tells op s a w
  ended_moves expected is fit state = made_moves (body_unreachable s.body) (is ∙ ended_whole md expected s.body (body_unreachable s.body) fit refl) (unreachable_valid md s.body state) refl
