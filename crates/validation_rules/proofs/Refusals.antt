-- Lists that are refused at their last operator, and no sooner: what the examples mean by refused.
use Rattle.std.specs.Prelude.{◌≡◌, ℕ, suc, List, [], ◌∷◌, length, Option, Some, None}
use Rattle.validate_visit.specs.declared.op.Op.{Op}
use Rattle.validation_rules.specs.Context.{BlockType, Context}
use Rattle.validation_rules.specs.Operators.{operator}
use Rattle.validation_rules.specs.Static.{State, start, step}

-- how many states it comes to: this one, and one after each operator up to the first whose row doesn't hold
abbrev pub states_from : Context → Option State → List Op → ℕ
states_from cx None ops = 0
states_from cx (Some s) [] = 1
states_from cx (Some s) (op ∷ ops) = suc (states_from cx (step cx (operator cx op) s) ops)

-- those of a body
abbrev pub states_of : Context → BlockType → List Op → ℕ
states_of cx ty ops = states_from cx (Some (start ty)) ops

-- the row of the last operator doesn't hold, and those of all before it do
abbrev pub IsRefusedAtLast : Context → BlockType → List Op → Type 0
IsRefusedAtLast cx ty ops = states_of cx ty ops ≡ length ops
