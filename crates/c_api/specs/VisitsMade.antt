-- What becomes of a body at a visit (the crate's own).
use Rattle.std.specs.Prelude.{◌≡◌, ℕ, List, [], ◌∷◌, ◌++◌, Ok}
use Rattle.validate_operators.specs.Validator.{state}
use Rattle.validate_stacks.specs.Visits.{Meets}
use Rattle.validate_visit.specs.declared.op.Op.{Op}
use Rattle.validation_rules.specs.Operators.{operator}
use Rattle.module_check.specs.declared.verdict.CheckError.{CheckError}
use Rattle.module_check.specs.declared.verdict.CheckError.TheVariants.{Unread, Refused}
use Rattle.c_api.specs.Modules.{context_in}
use Rattle.c_api.specs.Operators.{IsOperatorOf}
use Rattle.c_api.specs.declared.shared.HeldModule.{HeldModule}
use Rattle.c_api.specs.declared.visits.Visits.{Visits}

-- the operator that the bytes begin with is accepted, and joins the list
pub record IsVisited (h : HeldModule) (bytes : List ℕ) (offset taken : ℕ) (v w : Visits) : Type 0 where
  pub op : Op
  pub is_operator : IsOperatorOf h bytes op taken
  pub meets :
      Meets (context_in h) (λ cx. operator cx op) offset (state v.validator) (Ok tt) (state w.validator)
  pub joins : w.accepted.operators ≡ v.accepted.operators ++ (op, offset) ∷ []

-- nothing is changed
pub record IsUnvisited (v w : Visits) : Type 0 where
  pub same_state : state w.validator ≡ state v.validator
  pub same_list : w.accepted ≡ v.accepted

-- it couldn't be read
abbrev pub IsUnread : CheckError → Type 0
IsUnread (Unread e) = Unit {0}
IsUnread (Refused e) = ⊥
