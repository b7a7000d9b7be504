-- What the check of an operator asks and answers, of a body's stacks with their lookup (the crate's own).
use Rattle.std.specs.Prelude.{Result}
use Rattle.std.specs.Borrow.{MutBor}
use Rattle.validate_resources.specs.Context.{ModuleContext}
use Rattle.validation_rules.specs.Context.{Context}
use Rattle.validation_rules.specs.Rows.{Operator}
use Rattle.validate_stacks.specs.Attempts.{Stacked}
use Rattle.validate_stacks.specs.Moves.{Moves}
use Rattle.validate_stacks.specs.State.{body_context}
use Rattle.validate_stacks.specs.Visits.{MayVisit}
use Rattle.validate_stacks.specs.declared.context.OperatorContext.{OperatorContext}

-- what rows look at: the module, the features, the locals
abbrev pub context_of : {R : Type 0} → (R → ModuleContext) → OperatorContext R → Context
context_of context b = body_context (context b.resources.now) b.stacks.now.body

-- a visit may be made
abbrev pub CanCheck : {R : Type 0} → (R → ModuleContext) → OperatorContext R → Type 0
CanCheck context b = MayVisit (context b.resources.now) b.stacks.now

-- the row's step is made in its stacks, or nothing is changed; `left` is what its references leave
abbrev pub Checks :
    {E R X : Type 0} → (R → ModuleContext) → (E → Type 0) → (Context → Operator) → OperatorContext R →
    Result (Unit {0}) E → MutBor Stacked × X → Type 0
Checks context tells op b answer left = Moves (context b.resources.now) tells op b.stacks.now answer left.0.now
