-- Which operators may stand in a body, beside what their rows ask (the crate's own).
use Rattle.std.specs.Prelude.{ℕ, Bool, true, List, Option, Some, None}
use Rattle.std.specs.List.{list_all}
use Rattle.validate_visit.specs.declared.op.Op.{Op}
use Rattle.module_rules.specs.Constants.{is_constant_in}
use Rattle.module_rules.specs.Declarations.{declarations_of}
use Rattle.module_check.specs.declared.constant.ConstantPlace.{ConstantPlace}

-- any in the body of a function, constant ones in a constant expression
abbrev pub may_stand : Option ConstantPlace → Op → Bool
may_stand None op = true
may_stand (Some at) op =
    is_constant_in at.context.features (declarations_of at.context.declared.now) at.context.place op

-- each of these, beside its offset
abbrev pub each_may_stand : (Op → Bool) → List (Op × ℕ) → Bool
each_may_stand may ops = list_all (λ (e : Op × ℕ). may e.0) ops
