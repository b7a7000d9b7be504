-- A function in progress that takes an operator.
use Rattle.std.proofs.Common.{◌≡◌, ℕ, Bool, false, List, ◌∷◌, [], length, Some, ap, arith, length-append}
use Rattle.validate_operators.proofs.Listed.{visited}
use Rattle.validate_operators.specs.Runs.{body_before}
use Rattle.validate_operators.specs.Validator.{state}
use Rattle.wasmparser_validate.proofs.Accepted.{sound_accepted, accepts}
use Rattle.wasmparser_validate.specs.Functions.{state_from, function_state, IsSound}
use Rattle.validate_stacks.specs.Pops.{IsKept}
use Rattle.validate_stacks.specs.State.{body_context, IsValidBody}
use Rattle.validate_visit.specs.declared.frame.Frame.{Frame as FlatFrame}
use Rattle.validation_rules.specs.Operators.{operator}
use Rattle.validation_rules.specs.Static.{step}
use Rattle.c_api.specs.Functions.{Takes}
use Rattle.c_api.specs.Modules.{module_of, context_in}
use Rattle.c_api.specs.VisitsMade.{IsVisited}
use Rattle.c_api.specs.declared.shared.SharedModule.{SharedModule}
use Rattle.c_api.specs.declared.visits.Visits.{Visits}

module _ (s : SharedModule) (first : FlatFrame) (v w : Visits) (bytes : List ℕ) (offset taken : ℕ) (b c : Bool) (x : IsVisited (module_of s) bytes offset taken v w) (kept : IsKept (state v.validator) (state w.validator)) (is : c ≡ false) where
  row : let cx = body_context (context_in (module_of s)) (state v.validator) in step cx (operator cx x.op) (state v.validator).present ≡ Some (state w.validator).present
  row = visited (context_in (module_of s)) x.op offset (state v.validator) (state w.validator) tt x.meets

  -- it is sound with the operator in its list
  pub sound : IsSound (context_in (module_of s)) first (state v.validator) v.accepted.operators b → body_before (context_in (module_of s)) (state_from first (state v.validator)) v.accepted.operators (length v.accepted.operators) ≡ Some (state v.validator).present → IsValidBody (context_in (module_of s)) (state w.validator) → IsSound (context_in (module_of s)) first (state w.validator) w.accepted.operators c
  sound = sound_accepted (context_in (module_of s)) first (state v.validator) (state w.validator) v.accepted.operators w.accepted.operators (x.op, offset) b c kept x.joins row is

  -- and contracts see it take the operator
  pub takes : b ≡ false → Takes bytes offset taken (function_state s first (state v.validator) v.accepted.operators b) (function_state s first (state w.validator) w.accepted.operators c)
  takes was = record {
    op = x.op;
    is_operator = x.is_operator;
    accepts = accepts (context_in (module_of s)) first (state v.validator) (state w.validator) v.accepted.operators w.accepted.operators (x.op, offset) b c kept x.joins row is s was;
  }

  -- the list has an operator
  pub some_taken : w.accepted.operators ≡ [] → ⊥
  some_taken none = omega (arith, length-append v.accepted.operators ((x.op, offset) ∷ []), ap length x.joins, ap length none)
