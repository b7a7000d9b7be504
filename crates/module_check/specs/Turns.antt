-- What one turn of the check of a body comes to: an operator is read and accepted (the crate's own).
use Rattle.std.specs.Prelude.{◌≡◌, ◌≢◌, ℕ, Bool, true, false, List, [], Some, Ok, MatchBool}
use Rattle.binary_operators.specs.Instructions.{operator}
use Rattle.binary_operators.specs.Unplaced.{unplaced}
use Rattle.binary_operators.specs.Unread.{Unread}
use Rattle.binary_operators.specs.declared.types.CanonicalTypes.{CanonicalTypes}
use Rattle.validate_visit.specs.declared.op.Op.{Op}
use Rattle.validate_resources.specs.Context.{ModuleContext}
use Rattle.validation_rules.specs.Operators.{operator as row_of}
use Rattle.validate_stacks.specs.Attempts.{Stacked}
use Rattle.validate_stacks.specs.State.{BodyState}
use Rattle.validate_stacks.specs.Visits.{Meets}
use Rattle.module_check.specs.declared.common.Turn.{Turn}
use Rattle.module_check.specs.declared.common.Turn.TheVariants.{Open, Closed, NotPassed}

-- the bytes begin with an operator, behind which these are left; it is accepted, and this state is behind it
pub record IsTurn
    (md : ModuleContext) (types : CanonicalTypes) (bytes left : List ℕ) (v w : BodyState) : Type 0 where
  pub op : Op
  pub offset : ℕ
  pub is_read : operator types bytes ≡ Some (unplaced op, left)
  pub meets : Meets md (λ cx. row_of cx op) offset v (Ok tt) w

-- an operator is read and accepted, or nothing is changed
unfoldable pub Passes : ModuleContext → Bool → Unread → Unread → Stacked → Stacked → Type 0
Passes md answer r s v w =
    MatchBool answer ((types : CanonicalTypes) → IsTurn md types r.left s.left v.body w.body) ((s ≡ r) × (w ≡ v))

-- an operator is read and accepted, and a frame is open behind it, or none is; or nothing is changed
unfoldable pub Turns : ModuleContext → Turn → Unread → Unread → Stacked → Stacked → Type 0
Turns md Open r s v w = Passes md true r s v w × (w.body.present.frames ≢ [])
Turns md Closed r s v w = Passes md true r s v w × (w.body.present.frames ≡ [])
Turns md NotPassed r s v w = Passes md false r s v w
