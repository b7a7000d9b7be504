-- Closing a frame whose own operands are its results, and opening one.
use Rattle.std.proofs.Common.{◌≡◌, ◌≢◌, ◌<◌, ◌≤◌, ◌&&◌, inl, inr, Bool, true, false, List, [], ◌∷◌, length, slice_get, Option, Some, None, refl, sym, ap, ap₂, ◌∙◌, subst, arith}
use Rattle.std.specs.Prelude.{nat_le}
use Rattle.std.specs.List.{AllByRecursion}
use Rattle.std.specs.Option.{ForSome}
use Rattle.std.proofs.lemmas.Bool.{le-leb}
use Rattle.std.proofs.lemmas.Bool.Decides.{leb_tells}
use Rattle.validate_resources.specs.Context.{ModuleContext, IsLawful, Valid}
use Rattle.validate_types.specs.declared.types.ValType.{ValType}
use Rattle.validate_visit.specs.declared.frame.BlockType.{BlockType}
use Rattle.validate_visit.specs.declared.frame.Frame.{Frame as FlatFrame}
use Rattle.validate_visit.specs.declared.frame.FrameKind.{FrameKind}
use Rattle.validation_rules.specs.Context.{Context, block_signature}
use Rattle.validation_rules.specs.Fits.{all_fit}
use Rattle.validation_rules.specs.Rows.{results, guard}
use Rattle.validation_rules.specs.Static.{Frame, operands_found, opened_frame}
use Rattle.validation_rules.specs.Valid.{IsValidBlock}
use Rattle.validation_rules.proofs.Pops.{and_false}
use Rattle.validation_rules.proofs.Steps.{some_injective}
use Rattle.validation_rules.proofs.Valid.{params_valid, results_valid}
use Rattle.validate_stacks.specs.Blocks.{closed_body_in, closed_body, body_with_block}
use Rattle.validate_stacks.specs.Flat.{with_heights}
use Rattle.validate_stacks.specs.Pops.{body_pushed_each, has_operands_fitting, operands_found_in}
use Rattle.validate_stacks.specs.State.{BodyState, body_context, body_with_frames, IsValidBody}
use Rattle.validate_stacks.specs.Steps.{innermost_operands, outer_frames, head_of, body_with_frame, body_without_frame, frame_at}
use Rattle.validate_stacks.proofs.Whole.{pushed_whole}

-- an open frame is found
pub some_frame : (v : BodyState) → v.present.frames ≢ [] → frame_at v 0 ≡ None → ⊥
some_frame v o h = by v.present.frames refl
  where
    by : (fs : List Frame) → v.present.frames ≡ fs → ⊥
    by [] e = o e
    by (f ∷ fs) e =
        let k : slice_get (with_heights (f ∷ fs) (length v.present.left)) 0 ≡ None = subst (λ gs. slice_get (with_heights gs (length v.present.left)) 0 ≡ None) e h in
        cc

pub frame_found : (v : BodyState) → v.present.frames ≢ [] → (r : FlatFrame) × (frame_at v 0 ≡ Some r)
frame_found v o = by (frame_at v 0) refl
  where
    by : (q : Option FlatFrame) → frame_at v 0 ≡ q → (r : FlatFrame) × (frame_at v 0 ≡ Some r)
    by None e = absurd (some_frame v o e)
    by (Some r) e = (r, e)

-- what holds of the frame that was found
pub frame_told : (v : BodyState) (r : FlatFrame) (P : FlatFrame → Type 0) → frame_at v 0 ≡ Some r → P r → ForSome (frame_at v 0) P
frame_told v r P h p q e = subst P (some_injective r q (sym h ∙ e)) p

-- the innermost frame, and what is found of it
pub record Innermost (v : BodyState) (operands_found : FlatFrame) : Type 0 where
  pub frame : Frame
  pub outer : List Frame
  pub is : v.present.frames ≡ frame ∷ outer
  pub kind : frame.head.kind ≡ operands_found.kind
  pub block_type : frame.head.block_type ≡ operands_found.block_type

pub innermost : (v : BodyState) (r : FlatFrame) → frame_at v 0 ≡ Some r → Innermost v r
innermost v r h = by v.present.frames refl
  where
    by : (fs : List Frame) → v.present.frames ≡ fs → Innermost v r
    by [] e =
        let k : None ≡ Some r = subst (λ gs. slice_get (with_heights gs (length v.present.left)) 0 ≡ Some r) e h in
        absurd cc
    by (f ∷ fs) e =
        let k : slice_get (with_heights (f ∷ fs) (length v.present.left)) 0 ≡ Some r = subst (λ gs. slice_get (with_heights gs (length v.present.left)) 0 ≡ Some r) e h in
        record { frame = f; outer = fs; is = e; kind = cc; block_type = cc }

-- its block type resolves
pub block_valid : (md : ModuleContext) (v : BodyState) (r : FlatFrame) → frame_at v 0 ≡ Some r → IsValidBody md v → IsValidBlock md v.shared r.block_type
block_valid md v r h w =
    let i = innermost v r h in
    let all = rw i.is at w.frames in
    subst (IsValidBlock md v.shared) i.block_type all.0.block

-- its results are valid
pub wants_valid : (md : ModuleContext) (v : BodyState) (r : FlatFrame) (rs : List ValType) → IsLawful md → frame_at v 0 ≡ Some r → IsValidBody md v → rs ≡ (block_signature md r.block_type).results → AllByRecursion (Valid md) rs
wants_valid md v r rs laws h w e = subst (AllByRecursion (Valid md)) (sym e) (results_valid md laws v.shared r.block_type (block_valid md v r h w))

pub guarded_some : {A : Type 0} (b : Bool) (x y : A) → guard b (Some x) ≡ Some y → (b ≡ true) × (x ≡ y)
guarded_some true x y h = (refl, cc)
guarded_some false x y h = absurd cc

pub guarded_none : {A : Type 0} (b : Bool) (x : A) → guard b (Some x) ≡ None → b ≡ false
guarded_none true x h = absurd cc
guarded_none false x h = refl

-- ---- closing

module _ (md : ModuleContext) (v : BodyState) (rs : List ValType) (o : v.present.frames ≢ []) (same : ForSome (frame_at v 0) (λ f. rs ≡ (block_signature md f.block_type).results)) where
  abbrev cx : Context
  cx = body_context md v

  -- it closes where its own operands are its results
  closes_by : closed_body md v ≡ guard (nat_le (length (innermost_operands v.present.frames)) (length rs) && has_operands_fitting cx rs v) (Some (body_without_frame v))
  closes_by =
      let there = frame_found v o in
      let i = innermost v there.0 there.1 in
      let rs_is : rs ≡ results cx i.frame.head = same there.0 there.1 ∙ ap (λ bt. (block_signature md bt).results) (sym i.block_type) in
      ap (closed_body_in cx v) i.is
      ∙ ap (λ (ts : List ValType). guard (nat_le (length i.frame.operands) (length ts) && all_fit cx (operands_found (length ts) i.frame) ts) (Some (body_with_frames i.outer v))) (sym rs_is)
      ∙ ap (λ gs. guard (nat_le (length (innermost_operands gs)) (length rs) && all_fit cx (operands_found_in (length rs) gs) rs) (Some (body_with_frames (outer_frames gs) v))) (sym i.is)

  pub closes_whole : has_operands_fitting cx rs v ≡ true → length (innermost_operands v.present.frames) ≤ length rs → closed_body md v ≡ Some (body_without_frame v)
  closes_whole fit within =
      closes_by ∙ ap₂ (λ a b. guard (a && b) (Some (body_without_frame v))) (le-leb (length (innermost_operands v.present.frames)) (length rs) within) fit

  -- one of its results isn't there
  pub stays_unfit : has_operands_fitting cx rs v ≡ false → closed_body md v ≡ None
  stays_unfit unfit =
      let few = nat_le (length (innermost_operands v.present.frames)) (length rs) in
      closes_by
      ∙ ap (λ b. guard (few && b) (Some (body_without_frame v))) unfit
      ∙ ap (λ b. guard b (Some (body_without_frame v))) (and_false few)

  -- more operands are there
  pub stays_over : length rs < length (innermost_operands v.present.frames) → closed_body md v ≡ None
  stays_over over =
      let own = length (innermost_operands v.present.frames) in
      let more : nat_le own (length rs) ≡ false = elim (leb_tells own (length rs)) [ inl w ↦ absurd (omega (arith, w.1)) | inr w ↦ w.0 ] in
      closes_by ∙ ap (λ b. guard (b && has_operands_fitting cx rs v) (Some (body_without_frame v))) more

-- ---- opening

-- its parameters pushed in the frame that was opened
pub entered_is : (md : ModuleContext) (kind : FrameKind) (bt : BlockType) (v u : BodyState) (ps : List ValType) → ps ≡ (block_signature md bt).params → u ≡ body_with_frame kind bt v → body_pushed_each ps u ≡ body_with_block md kind bt v
entered_is md kind bt v u ps e o =
    ap (λ (w : BodyState). body_pushed_each ps w) o
    ∙ pushed_whole ps (body_with_frame kind bt v) (opened_frame (head_of kind bt) []) v.present.frames refl
    ∙ ap (λ (ts : List ValType). record v { present = record { frames = opened_frame (head_of kind bt) ts ∷ v.present.frames; left = v.present.left } }) e

pub opened_valid : (md : ModuleContext) (kind : FrameKind) (bt : BlockType) (v u : BodyState) → u ≡ body_with_frame kind bt v → IsValidBlock md v.shared bt → IsValidBody md v → IsValidBody md u
opened_valid md kind bt v u o b w =
    let opens : IsValidBody md (body_with_frame kind bt v) = record { locals_valid = w.locals_valid; frames = (record { block = b; operands = tt }, w.frames); left = w.left } in
    subst (IsValidBody md) (sym o) opens

-- its parameters are valid
pub takes_valid : (md : ModuleContext) (shared : Bool) (bt : BlockType) (ps : List ValType) → IsLawful md → IsValidBlock md shared bt → ps ≡ (block_signature md bt).params → AllByRecursion (Valid md) ps
takes_valid md shared bt ps laws b e = subst (AllByRecursion (Valid md)) (sym e) (params_valid md laws shared bt b)
