-- What a validator of operators stands for (the crate's own).
use Rattle.std.specs.Prelude.{Option}
use Rattle.std.specs.Option.{option_map}
use Rattle.validate_stacks.specs.Attempts.{Stacked}
use Rattle.validate_stacks.specs.State.{BodyState}
use Rattle.validate_stacks.specs.Steps.{label_at}
use Rattle.validate_visit.specs.declared.frame.BlockType.{BlockType}
use Rattle.validate_visit.specs.declared.frame.FrameKind.{FrameKind}
use Rattle.validate_operators.specs.declared.validator.OperatorValidator.{OperatorValidator}

-- what a validator stands for, with how far a pending attempt has come
abbrev pub stacks_of : OperatorValidator → Stacked
stacks_of v = v.stacks

-- what a validator stands for
abbrev pub state : OperatorValidator → BodyState
state v = v.stacks.body

-- the kind of the innermost open frame
abbrev pub current_kind : BodyState → Option FrameKind
current_kind v = option_map (λ (l : BlockType × FrameKind). l.1) (label_at v 0)
