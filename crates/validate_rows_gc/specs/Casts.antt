-- Branches by a cast: their types and rows, and the moves of operators that are like another one below some
-- operands (the crate's own; WebAssembly core specification, "Validation: Control Instructions").
use Rattle.std.specs.Prelude.{◌≡◌, ℕ, List, Result}
use Rattle.validate_resources.specs.Context.{ModuleContext}
use Rattle.validate_types.specs.declared.refs.RefType.{RefType}
use Rattle.validate_visit.specs.declared.op.BranchCast.{BranchCast}
use Rattle.validation_rules.specs.Casts.{CastTypes, checked_cast, cast_branch_row}
use Rattle.validation_rules.specs.Casts.{types_on_cast, types_on_cast_fail}
use Rattle.validation_rules.specs.Context.{Context}
use Rattle.validation_rules.specs.Operators.{lookup_row}
use Rattle.validation_rules.specs.Rows.{Head, Operator, Row}
use Rattle.validate_stacks.specs.AtOnce.{body_dropped}
use Rattle.validate_stacks.specs.Attempts.{Stacked}
use Rattle.validate_stacks.specs.Moves.{Moves}
use Rattle.validate_stacks.specs.Visits.{step_body}
use Rattle.validate_rows_gc.specs.declared.casts.CastBranch.{CastBranch}
use Rattle.validate_rows_gc.specs.declared.casts.CastBranch.TheVariants.{OnCast, OnCastFail}
use Rattle.validate_rows_gc.specs.declared.casts.CastTypes.{CastTypes as CheckedTypes}

-- the types of a branch by a cast, as the rules have them
abbrev pub cast_types : CheckedTypes → CastTypes
cast_types cast = record { from = cast.from; carried = cast.carried; left = cast.left }

-- those of either branch, by those of the cast
abbrev pub branch_types : CastBranch → (RefType × RefType) → CastTypes
branch_types OnCast = types_on_cast
branch_types OnCastFail = types_on_cast_fail

abbrev pub branch_row : CastBranch → Context → List Head → BranchCast → Row
branch_row branch cx hs cast =
    lookup_row (checked_cast cx cast) (λ p. cast_branch_row cx hs cast.relative_depth (branch_types branch p))

-- Any operator whose step is that of this one below so many operands makes its step, or changes nothing.
abbrev pub MovesBelow :
    {E : Type 0} → ModuleContext → (E → Type 0) → ℕ → (Context → Operator) → Stacked → Result (Unit {0}) E →
    Stacked → Type 0
MovesBelow md tells above op v answer w =
    (whole : Context → Operator) → step_body md whole v.body ≡ step_body md op (body_dropped above v.body)
    → Moves md tells whole v answer w
