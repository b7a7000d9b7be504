-- The heights of the open frames, in whatever state a body is left (the crate's own: the standard's
-- algorithm keeps heights into one stack, where the rules have lists).
use Rattle.std.specs.Prelude.{◌≡◌, ℕ, suc, ◌≤◌, Some}
use Rattle.validate_visit.specs.declared.frame.Frame.{Frame as FlatFrame}
use Rattle.validation_rules.specs.Static.{operand_count}
use Rattle.validate_stacks.specs.State.{BodyState}
use Rattle.validate_stacks.specs.Steps.{frame_at}

-- they don't fall from a frame to the one inside it, and none passes the number of operands
pub record HeightsRise (v : BodyState) : Type 0 where
  pub rising :
      (depth : ℕ) (inner outer : FlatFrame) → frame_at v depth ≡ Some inner →
      frame_at v (suc depth) ≡ Some outer → outer.height ≤ inner.height
  pub within : (depth : ℕ) (f : FlatFrame) → frame_at v depth ≡ Some f → f.height ≤ operand_count v.present
