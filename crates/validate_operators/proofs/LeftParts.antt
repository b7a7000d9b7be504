-- A part that was closed, or begun in the place of another, is valid.
use Rattle.std.proofs.Common.{◌≡◌, ◌≢◌, ℕ, false, List, [], Result, Ok, Err, MatchResult, OnErr, IfErr, is_ok, refl, sym, subst}
use Rattle.std.specs.List.{AllByRecursion}
use Rattle.std.specs.Option.{ForSome}
use Rattle.validate_resources.specs.Context.{ModuleContext, Valid}
use Rattle.validate_types.specs.ErrorValue.{ErrorValue}
use Rattle.validate_types.specs.Told.{IsRowRefused}
use Rattle.validate_types.specs.declared.refusal.Told.{Told}
use Rattle.validate_types.specs.declared.types.ValType.{ValType}
use Rattle.validate_visit.specs.declared.frame.BlockType.{BlockType}
use Rattle.validation_rules.specs.Context.{Context}
use Rattle.validation_rules.specs.Rows.{FrameKind, Operator}
use Rattle.validation_rules.specs.Valid.{IsValidBlock}
use Rattle.validate_stacks.specs.Attempts.{Stacked}
use Rattle.validate_stacks.specs.Moves.{Moves}
use Rattle.validate_stacks.specs.Pops.{IsKept, body_pushed_each}
use Rattle.validate_stacks.specs.State.{BodyState, IsValidBody}
use Rattle.validate_stacks.specs.Steps.{body_with_frame, body_without_frame, frame_at}
use Rattle.validate_stacks.specs.Visits.{Meets}
use Rattle.validate_stacks.proofs.AtOnce.{pushed_each_kept, without_valid}
use Rattle.validate_stacks.proofs.ClosedFrames.{block_valid, frame_found, opened_valid}
use Rattle.validate_stacks.proofs.Validity.{kept_on}
use Rattle.validate_shapes.proofs.Moves.{moves_accepted, moves_placed}

-- valid, and nothing but the static state has changed
abbrev pub Fine : ModuleContext → BodyState → BodyState → Type 0
Fine md v w = IsValidBody md w × IsKept v w

-- whether the move was made or not
pub fine_moved : {E : Type 0} (md : ModuleContext) (s w : Stacked) (x : BodyState) → IsValidBody md s.body → Fine md s.body x → (r : Result (Unit {0}) E) → MatchResult r (λ _. w.body ≡ x) (λ _. w ≡ s) → Fine md s.body w.body
fine_moved md s w x state fine (Ok u) m = subst (Fine md s.body) (sym m) fine
fine_moved md s w x state fine (Err e) m = subst (λ (y : Stacked). Fine md s.body y.body) (sym m) (state, refl)

module _ (md : ModuleContext) (v : BodyState) (state : IsValidBody md v) where
  pub closed_fine : Fine md v (body_pushed_each [] (body_without_frame v))
  closed_fine =
      let left = body_without_frame v in
      let up = pushed_each_kept md [] left in (up.1 tt (without_valid md v state), kept_on v left (body_pushed_each [] left) refl up.0)

  pub begun_fine : (kind : FrameKind) (bt : BlockType) (ts : List ValType) → v.present.frames ≢ [] → ForSome (frame_at v 0) (λ f. f.block_type ≡ bt) → AllByRecursion (Valid md) ts → Fine md v (body_pushed_each ts (body_with_frame kind bt (body_without_frame v)))
  begun_fine kind bt ts o same valid =
      let there = frame_found v o in
      let left = body_without_frame v in
      let begun = body_with_frame kind bt left in
      let block = subst (IsValidBlock md v.shared) (same there.0 there.1) (block_valid md v there.0 there.1 state) in
      let up = pushed_each_kept md ts begun in (up.1 valid (opened_valid md kind bt left begun refl block (without_valid md v state)), kept_on v begun (body_pushed_each ts begun) refl up.0)

-- a body that refuses changes nothing
pub not_moved : {E : Type 0} (md : ModuleContext) (tells : E → Type 0) (op : Context → Operator) (s w : Stacked) (e : E) → Moves md tells op s (Err e) w → w ≡ s
unfolding Moves
not_moved md tells op s w e m = m.0

-- its refusal, with a text and a place
module _ (md : ModuleContext) (op : Context → Operator) (s w : Stacked) (offset : ℕ) where
  pub told_meets : (a : Result (Unit {0}) Told) (r : Result (Unit {0}) ErrorValue) → Moves md IsRowRefused op s a w → IsValidBody md s.body → is_ok r ≡ is_ok a → IfErr a (λ told. IfErr r (λ e. e.wants_memory ≡ false → IsRowRefused told)) → IfErr r (λ e. e.offset ≡ offset) → Meets md op offset s.body r w.body
  told_meets (Ok u) (Ok x) m state same told at = moves_accepted md IsRowRefused op s w offset u m
  told_meets (Err t) (Err e) m state same told at = moves_placed md IsRowRefused op s w offset t e w.body m state at told (λ v. v) refl
  told_meets (Ok u) (Err e) m state same told at = cc
  told_meets (Err t) (Ok x) m state same told at = cc

  pub told_back : (a : Result (Unit {0}) Told) (r : Result (Unit {0}) ErrorValue) → Moves md IsRowRefused op s a w → is_ok r ≡ is_ok a → OnErr r (w ≡ s)
  told_back a (Ok x) m same = tt
  told_back (Err t) (Err e) m same = not_moved md IsRowRefused op s w t m
  told_back (Ok u) (Err e) m same = cc
