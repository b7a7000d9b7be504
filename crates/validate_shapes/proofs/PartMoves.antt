-- Moves that close the innermost frame, or begin a part in its place.
use Rattle.std.proofs.Common.{◌≡◌, ◌≢◌, List, [], Some, Result, MatchResult, IfErr, refl, subst}
use Rattle.std.specs.List.{AllByRecursion}
use Rattle.std.specs.Option.{ForSome}
use Rattle.validate_resources.specs.Context.{ModuleContext, IsLawful, Valid}
use Rattle.validate_types.specs.declared.types.ValType.{ValType}
use Rattle.validate_visit.specs.declared.frame.BlockType.{BlockType}
use Rattle.validation_rules.specs.Context.{Context, block_signature}
use Rattle.validation_rules.specs.Rows.{FrameKind, Operator}
use Rattle.validation_rules.specs.Static.{opened_frame}
use Rattle.validation_rules.specs.Valid.{IsValidBlock}
use Rattle.validate_stacks.specs.Attempts.{Stacked}
use Rattle.validate_stacks.specs.Moves.{Moves}
use Rattle.validate_stacks.specs.Pops.{body_pushed_each}
use Rattle.validate_stacks.specs.State.{BodyState, IsValidBody}
use Rattle.validate_stacks.specs.Steps.{body_with_frame, body_without_frame, frame_at, head_of}
use Rattle.validate_stacks.specs.Visits.{step_body}
use Rattle.validate_stacks.proofs.AtOnce.{pushed_each_kept, without_valid}
use Rattle.validate_stacks.proofs.ClosedFrames.{block_valid, frame_found, opened_valid, wants_valid}
use Rattle.validate_stacks.proofs.Validity.{kept_on}
use Rattle.validate_stacks.proofs.Whole.{pushed_whole}
use Rattle.validate_shapes.proofs.Moves.{made_moves}
use Rattle.validate_shapes.proofs.Parts.{body_with_part}

-- a part that has begun, with its types pushed
pub begun_whole : (kind : FrameKind) (bt : BlockType) (ts : List ValType) (u : BodyState) → body_pushed_each ts (body_with_frame kind bt u) ≡ body_with_part kind bt ts u
begun_whole kind bt ts u =
    pushed_whole ts (body_with_frame kind bt u) (opened_frame (head_of kind bt) []) u.present.frames refl

module _ {E : Type 0} (md : ModuleContext) (tells : E → Type 0) (op : Context → Operator) (s w : Stacked) (o : s.body.present.frames ≢ []) (laws : IsLawful md) (state : IsValidBody md s.body) where
  -- the frame is closed, and its results pass to the next outer one
  pub closed_moves : (rs : List ValType) → ForSome (frame_at s.body 0) (λ f. rs ≡ (block_signature md f.block_type).results) → step_body md op s.body ≡ Some (body_pushed_each rs (body_without_frame s.body)) → (a : Result (Unit {0}) E) → IfErr a (λ e. tells e → ⊥) → MatchResult a (λ _. w.body ≡ body_pushed_each rs (body_without_frame s.body)) (λ _. w ≡ s) → Moves md tells op s a w
  closed_moves rs same is =
      let there = frame_found s.body o in
      let left = body_without_frame s.body in
      let up = pushed_each_kept md rs left in
      made_moves md tells op s w (body_pushed_each rs left) is
      (up.1 (wants_valid md s.body there.0 rs laws there.1 state (same there.0 there.1)) (without_valid md s.body state))
      (kept_on s.body left (body_pushed_each rs left) refl up.0)

  -- a part begins in its place, with these types
  pub begun_moves : (kind : FrameKind) (bt : BlockType) (ts : List ValType) → ForSome (frame_at s.body 0) (λ f. f.block_type ≡ bt) → AllByRecursion (Valid md) ts → step_body md op s.body ≡ Some (body_pushed_each ts (body_with_frame kind bt (body_without_frame s.body))) → (a : Result (Unit {0}) E) → IfErr a (λ e. tells e → ⊥) → MatchResult a (λ _. w.body ≡ body_pushed_each ts (body_with_frame kind bt (body_without_frame s.body))) (λ _. w ≡ s) → Moves md tells op s a w
  begun_moves kind bt ts same valid is =
      let there = frame_found s.body o in
      let left = body_without_frame s.body in
      let begun = body_with_frame kind bt left in
      let block = subst (IsValidBlock md s.body.shared) (same there.0 there.1) (block_valid md s.body there.0 there.1 state) in
      let up = pushed_each_kept md ts begun in
      made_moves md tells op s w (body_pushed_each ts begun) is
      (up.1 valid (opened_valid md kind bt left begun refl block (without_valid md s.body state)))
      (kept_on s.body begun (body_pushed_each ts begun) refl up.0)
