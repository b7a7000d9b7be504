-- The types of operands between operators, and what a run holds there (the crate's own).
use Rattle.std.specs.Prelude.{◌≡◌, ℕ, List, Option, map, reverse}
use Rattle.std.specs.List.{flat_map}
use Rattle.std.specs.Option.{option_map}
use Rattle.validate_resources.specs.Context.{ModuleContext}
use Rattle.validate_visit.specs.declared.frame.BlockType.{BlockType}
use Rattle.validate_visit.specs.declared.op.Op.{Op}
use Rattle.validation_rules.specs.Context.{ValType, Context}
use Rattle.validation_rules.specs.Fits.{MaybeType}
use Rattle.validation_rules.specs.Rows.{Operator}
use Rattle.validation_rules.specs.Static.{State}
use Rattle.validate_stacks.specs.State.{BodyState, body_context}
use Rattle.validate_stacks.specs.Steps.{all_operands, known_type}
use Rattle.type_safety.specs.Machine.{Label, At, Run, initial_machine}
use Rattle.type_safety.specs.Theorem.{OperandsBelow}
use Rattle.validate_operators.specs.Runs.{body_before, body_operators}

-- all operands of a state, the lowest first
abbrev pub operands_in : State → List MaybeType
operands_in s = reverse (all_operands s.frames s.left)

-- their types, where they are known
abbrev pub types_in : State → List (Option ValType)
types_in s = map known_type (operands_in s)

-- the types of the operands before operator k of the static run, where the rows of all operators before it
-- hold
abbrev pub types_before : ModuleContext → BodyState → List (Op × ℕ) → ℕ → Option (List (Option ValType))
types_before md v ops k = option_map types_in (body_before md v ops k)

-- all operands of these labels, the lowest first
abbrev pub operands_of_labels : List Label → List ValType
operands_of_labels labels = reverse (flat_map (λ (l : Label). l.operands) labels)

-- Wherever a run of the code stands at place k it holds operands below those of these types: as many, in
-- order, each below the known type in its place.
abbrev pub RunsHoldBelow : Context → List Operator → BlockType → ℕ → List (Option ValType) → Type 0
RunsHoldBelow cx code ty k types =
    (n : ℕ) (labels : List Label) (set : List ℕ) →
    Run cx code n (initial_machine ty) (At k labels set) →
    (own : List MaybeType) × (types ≡ map known_type own) × OperandsBelow cx (operands_of_labels labels) own

-- the same of the body of these operators, from the state v
abbrev pub AreTypesOfRuns :
    ModuleContext → BodyState → List (Op × ℕ) → BlockType → ℕ → List (Option ValType) → Type 0
AreTypesOfRuns md v ops ty k types = RunsHoldBelow (body_context md v) (body_operators md v ops) ty k types
