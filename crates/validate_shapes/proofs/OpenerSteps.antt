-- The step of an operator that opens a frame.
use Rattle.std.proofs.Common.{◌≡◌, ◌≢◌, Bool, true, false, ◌&&◌, List, [], ◌∷◌, ◌++◌, reverse, length, Option, Some, None, Result, Ok, Err, IsOk, refl, sym, ap, subst, ◌∙◌}
use Rattle.std.specs.Option.{option_map}
use Rattle.std.proofs.lemmas.List.{append-nil}
use Rattle.validate_resources.specs.Context.{ModuleContext, IsLawful}
use Rattle.validate_types.specs.declared.types.ValType.{ValType}
use Rattle.validate_visit.specs.declared.frame.BlockType.{BlockType}
use Rattle.validation_rules.specs.Context.{block_signature}
use Rattle.validation_rules.specs.Fits.{all_fit}
use Rattle.validation_rules.specs.Rows.{FrameKind, Opens, guard}
use Rattle.validation_rules.specs.Static.{Frame, State, operands_found, operands_under, state_after, open_frames, step_in}
use Rattle.validation_rules.specs.Valid.{IsValidBlock}
use Rattle.validation_rules.specs.Operators.{opening_operator, opening_operator_if, opener, checked_block}
use Rattle.validate_stacks.specs.Blocks.{body_with_block}
use Rattle.validate_stacks.specs.Steps.{head_of, body_with_frame}
use Rattle.validate_stacks.specs.Pops.{IsKept, body_popped_each, body_pushed_each}
use Rattle.validate_stacks.specs.State.{BodyState, IsValidBody, body_context}
use Rattle.validate_stacks.specs.Attempts.{Stacked}
use Rattle.validate_stacks.specs.Moves.{Moved, Moves}
use Rattle.validate_stacks.specs.Visits.{step_body}
use Rattle.validate_stacks.proofs.AtOnce.{mapped_some, popped_each_kept, pushed_each_kept}
use Rattle.validate_stacks.proofs.ClosedFrames.{entered_is, opened_valid, takes_valid}
use Rattle.validate_stacks.proofs.Validity.{kept_on}
use Rattle.validate_stacks.proofs.Whole.{with_frame, popped_whole}

module _ (md : ModuleContext) (v : BodyState) (kind : FrameKind) (above : List ValType) (bt : BlockType) where
  abbrev ps : List ValType
  ps = (block_signature md bt).params ++ above

  -- a block type that didn't pass
  pub not_opened : step_body md (λ c. opening_operator_if false c kind above bt) v ≡ None
  not_opened = by v.present.frames
    where
      by : (fs : List Frame) → option_map (λ (s : State). record v { present = s }) (step_in (body_context md v) (opening_operator_if false (body_context md v) kind above bt) fs v.present.left) ≡ None
      by [] = refl
      by (f ∷ fs) = refl

  opened_in : (f : Frame) (fs : List Frame) → v.present.frames ≡ f ∷ fs → step_body md (λ c. opening_operator c kind above bt) v ≡ guard (all_fit (body_context md v) (operands_found (length ps) f) ps) (Some (body_with_block md kind bt (with_frame v (record f { operands = operands_under (length ps) f }) fs)))
  opened_in f fs e =
      ap (λ gs. option_map (λ (s : State). record v { present = s }) (step_in (body_context md v) (opening_operator (body_context md v) kind above bt) gs v.present.left)) e
      ∙ guarded (all_fit (body_context md v) (operands_found (length ps) f) ps)
    where
      guarded : (b : Bool) → option_map (λ (s : State). record v { present = s }) (option_map (state_after (body_context md v) ((opening_operator (body_context md v) kind above bt).row []) (open_frames f fs v.present.left) (Opens (head_of kind bt))) (guard true (guard (b && true) (Some [])))) ≡ guard b (Some (body_with_block md kind bt (with_frame v (record f { operands = operands_under (length ps) f }) fs)))
      guarded true = refl
      guarded false = refl

  -- pops of the parameters, and a frame over them: the row's step
  pub opened_is : v.present.frames ≢ [] → step_body md (λ c. opening_operator c kind above bt) v ≡ option_map (λ u. body_with_block md kind bt u) (body_popped_each md (reverse ps) v)
  opened_is o = by v.present.frames refl
    where
      through : (b : Bool) (u : BodyState) → guard b (Some (body_with_block md kind bt u)) ≡ option_map (λ w. body_with_block md kind bt w) (guard b (Some u))
      through true u = refl
      through false u = refl

      by : (fs : List Frame) → v.present.frames ≡ fs → step_body md (λ c. opening_operator c kind above bt) v ≡ option_map (λ u. body_with_block md kind bt u) (body_popped_each md (reverse ps) v)
      by [] e = absurd (o e)
      by (f ∷ fs) e =
          opened_in f fs e
          ∙ through (all_fit (body_context md v) (operands_found (length ps) f) ps) (with_frame v (record f { operands = operands_under (length ps) f }) fs)
          ∙ ap (option_map (λ u. body_with_block md kind bt u)) (sym (popped_whole md v f fs ps e))

-- the row of an opener, by what the check of its block type answers
pub by_check : (md : ModuleContext) (v : BodyState) (kind : FrameKind) (above : List ValType) (declared : BlockType) (o : Option BlockType) → checked_block (body_context md v) declared ≡ o → step_body md (λ c. opener c kind above declared (checked_block c declared)) v ≡ step_body md (λ c. opener c kind above declared o) v
by_check md v kind above declared o e = ap (λ r. step_body md (λ c. opener c kind above declared r) v) e

-- ---- what was expected is taken, and a frame stands over the parameters

module _ (md : ModuleContext) (v : BodyState) (kind : FrameKind) (above : List ValType) (bt : BlockType) (o : v.present.frames ≢ []) (laws : IsLawful md) (valid : IsValidBody md v) (block : IsValidBlock md v.shared bt) where
  pub opened_moved : (u : BodyState) → body_popped_each md (reverse ((block_signature md bt).params ++ above)) v ≡ Some u → Moved md (λ c. opening_operator c kind above bt) v (body_with_block md kind bt u)
  opened_moved u p =
      let popped : List ValType = (block_signature md bt).params in
      let down = popped_each_kept md (reverse (popped ++ above)) v u p in
      let shared : u.shared ≡ v.shared = ap (λ (x : BodyState). x.shared) down.0 in
      let block_in_u = subst (λ s. IsValidBlock md s bt) (sym shared) block in
      let bare = body_with_frame kind bt u in
      let up = pushed_each_kept md popped bare in
      let entered = entered_is md kind bt u bare popped refl refl in
      record {
        step = opened_is md v kind above bt o ∙ ap (option_map (λ w. body_with_block md kind bt w)) p;
        valid = subst (IsValidBody md) entered (up.1 (takes_valid md u.shared bt popped laws block_in_u refl) (opened_valid md kind bt u bare refl block_in_u (down.1 valid)));
        kept = subst (IsKept v) entered (kept_on v u (body_pushed_each popped bare) down.0 (kept_on u bare (body_pushed_each popped bare) refl up.0));
      }

-- over parameters that stand there
pub entered_moves : {E : Type 0} (md : ModuleContext) (tells : E → Type 0) (s w : Stacked) (kind : FrameKind) (above : List ValType) (bt : BlockType) → above ≡ [] → s.body.present.frames ≢ [] → IsLawful md → IsValidBody md s.body → IsValidBlock md s.body.shared bt → (r : Result (Unit {0}) E) → IsOk r → option_map (body_with_block md kind bt) (body_popped_each md (reverse (block_signature md bt).params) s.body) ≡ Some w.body → Moves md tells (λ c. opening_operator c kind above bt) s r w
unfolding Moves
entered_moves md tells s w kind above bt none o laws valid block (Ok x) ok h =
    let popped : List ValType = (block_signature md bt).params in
    let parts = mapped_some (body_with_block md kind bt) (body_popped_each md (reverse popped) s.body) w.body h in
    let whole = ap (λ ts. body_popped_each md (reverse ts) s.body) (ap (λ ts. popped ++ ts) none ∙ append-nil popped) ∙ parts.1 in
    subst (Moved md (λ c. opening_operator c kind above bt) s.body) parts.2 (opened_moved md s.body kind above bt o laws valid block parts.0 whole)
entered_moves md tells s w kind above bt none o laws valid block (Err e) ok h = absurd cc
