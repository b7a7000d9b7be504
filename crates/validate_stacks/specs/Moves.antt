-- What the one body of an operator does, whatever it answers where it refuses (the crate's own).
use Rattle.std.specs.Prelude.{◌≡◌, ℕ, List, Some, None, Result, MatchResult, reverse}
use Rattle.std.specs.Option.{option_map}
use Rattle.validate_resources.specs.Context.{ModuleContext}
use Rattle.validate_types.specs.declared.types.ValType.{ValType}
use Rattle.validation_rules.specs.Context.{Context}
use Rattle.validation_rules.specs.Rows.{Operator}
use Rattle.validation_rules.specs.Static.{RowHolds, RowFails}
use Rattle.validate_stacks.specs.Attempts.{Stacked}
use Rattle.validate_stacks.specs.Pops.{IsKept, body_popped_each, body_pushed_each}
use Rattle.validate_stacks.specs.State.{BodyState, IsValidBody}
use Rattle.validate_stacks.specs.Steps.{body_with_local_set}
use Rattle.validate_stacks.specs.Visits.{step_body}

-- the row's step was made
pub record Moved (md : ModuleContext) (op : Context → Operator) (v w : BodyState) : Type 0 where
  pub step : RowHolds (step_body md op v) w
  pub valid : IsValidBody md w
  pub kept : IsKept v w

-- The row's step is made, or nothing is changed; and a refusal that tells is one of the row.
unfoldable pub Moves :
    {E : Type 0} → ModuleContext → (E → Type 0) → (Context → Operator) → Stacked → Result (Unit {0}) E →
    Stacked → Type 0
Moves md tells op v answer w =
    MatchResult answer
    (λ _. Moved md op v.body w.body) (λ e. (w ≡ v) × (tells e → RowFails (step_body md op v.body)))

-- Operands of the expected types are popped, the last of them first, and the rest becomes what f says; or
-- nothing is changed, and a refusal that tells is one of those pops.
unfoldable pub Takes :
    {E : Type 0} → ModuleContext → (E → Type 0) → List ValType → (BodyState → BodyState) → Stacked →
    Result (Unit {0}) E → Stacked → Type 0
Takes md tells expected f v answer w =
    MatchResult answer
    (λ _. option_map f (body_popped_each md (reverse expected) v.body) ≡ Some w.body)
    (λ e. (w ≡ v) × (tells e → body_popped_each md (reverse expected) v.body ≡ None))

-- and operands of the pushed types come
abbrev pub Exchanges :
    {E : Type 0} → ModuleContext → (E → Type 0) → List ValType → List ValType → Stacked →
    Result (Unit {0}) E → Stacked → Type 0
Exchanges md tells expected pushed v answer w = Takes md tells expected (body_pushed_each pushed) v answer w

-- with a local set, and operands of these types above that
abbrev pub body_set_then : ℕ → List ValType → BodyState → BodyState
body_set_then i pushed v = body_pushed_each pushed (body_with_local_set i v)
