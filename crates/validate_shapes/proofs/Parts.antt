-- The step of an operator that begins the next part of a block: it closes the part that is open, and begins
-- another.
use Rattle.std.proofs.Common.{◌≡◌, ◌≢◌, Bool, true, false, ◌&&◌, if◌then◌else◌, List, [], ◌∷◌, Option, Some, None, refl, sym, ap, ap₂, ◌∙◌}
use Rattle.std.specs.Option.{option_map}
use Rattle.validate_resources.specs.Context.{ModuleContext}
use Rattle.validate_types.specs.declared.types.ValType.{ValType}
use Rattle.validate_visit.specs.declared.frame.BlockType.{BlockType}
use Rattle.validate_visit.specs.declared.frame.Frame.{Frame as FlatFrame}
use Rattle.validation_rules.specs.Context.{Context, block_signature}
use Rattle.validation_rules.specs.Fits.{MaybeType}
use Rattle.validation_rules.specs.Rows.{FrameKind, Else, is_if, Form, BeginsElse, guard, is_instruction}
use Rattle.validation_rules.specs.Static.{Frame, State, OpenFrames, state_with, delimiter_fits, may_close, head_with_kind, opened_frame, state_after, open_frames, pushed_by_row, pushed_by_delimiter, heads, locals_set, step_in}
use Rattle.validation_rules.specs.Operators.{plain_row, delimiter_operator}
use Rattle.validation_rules.proofs.Pops.{and_false}
use Rattle.validate_stacks.specs.Blocks.{closed_body, closed_body_in}
use Rattle.validate_stacks.specs.State.{BodyState, body_context, body_with_frames}
use Rattle.validate_stacks.specs.Steps.{frame_at, head_of}
use Rattle.validate_stacks.specs.Visits.{step_body}
use Rattle.validate_stacks.proofs.ClosedFrames.{Innermost, innermost, some_frame, guarded_some, guarded_none}

-- a form that begins a part of one kind after a part of some kind, with these types for its block type
pub record BeginsPart (form : Form) (after : FrameKind → Bool) (kind : FrameKind) (types : Context → BlockType → List ValType) : Type 0 where
  pub delimits : is_instruction form ≡ false
  pub fits : (cx : Context) (f : Frame) → delimiter_fits cx form f ≡ after f.head.kind
  pub leaves : (cx : Context) (o : OpenFrames) → state_after cx (plain_row [] []) o form [] ≡ state_with o.left (opened_frame (head_with_kind kind o.innermost.head) (types cx o.innermost.head.block_type) ∷ o.outer)

-- a part of a block that has just begun, over the frames of a state
abbrev pub body_with_part : FrameKind → BlockType → List ValType → BodyState → BodyState
body_with_part kind bt types u = body_with_frames (opened_frame (head_of kind bt) types ∷ u.present.frames) u

module _ (form : Form) (after : FrameKind → Bool) (kind : FrameKind) (types : Context → BlockType → List ValType) (begins : BeginsPart form after kind types) where
  module _ (md : ModuleContext) (v : BodyState) (r : FlatFrame) (h : frame_at v 0 ≡ Some r) where
    abbrev cx : Context
    cx = body_context md v

    abbrev inner : Innermost v r
    inner = innermost v r h

    -- the next part, begun
    abbrev begun : BodyState
    begun = record v { present = state_with v.present.left (opened_frame (head_with_kind kind inner.frame.head) (types cx inner.frame.head.block_type) ∷ inner.outer) }

    part_row : step_body md (λ c. delimiter_operator form) v ≡ guard (after inner.frame.head.kind && may_close cx inner.frame) (Some begun)
    part_row =
        ap (λ gs. option_map (λ (s : State). record v { present = s }) (step_in cx (delimiter_operator form) gs v.present.left)) inner.is
        ∙ ap (λ b. put (if b then pushed_by_row cx (plain_row [] []) (heads (inner.frame ∷ inner.outer)) (locals_set (inner.frame ∷ inner.outer)) inner.frame else pushed_by_delimiter cx (plain_row [] []) form inner.frame)) begins.delimits
        ∙ ap (λ b. put (guard (b && may_close cx inner.frame) (Some []))) (begins.fits cx inner.frame)
        ∙ through (after inner.frame.head.kind && may_close cx inner.frame)
      where
        put : Option (List MaybeType) → Option BodyState
        put o = option_map (λ (s : State). record v { present = s }) (option_map (state_after cx (plain_row [] []) (open_frames inner.frame inner.outer v.present.left) form) o)

        through : (b : Bool) → put (guard b (Some [])) ≡ guard b (Some begun)
        through true = ap (λ (s : State). Some (record v { present = s })) (begins.leaves cx (open_frames inner.frame inner.outer v.present.left))
        through false = refl

    closed_by : closed_body md v ≡ guard (may_close cx inner.frame) (Some (record v { present = record { frames = inner.outer; left = v.present.left } }))
    closed_by = ap (closed_body_in cx v) inner.is

    -- the frame doesn't close
    part_refused : closed_body md v ≡ None → step_body md (λ c. delimiter_operator form) v ≡ None
    part_refused n =
        part_row
        ∙ ap (λ b. guard (after inner.frame.head.kind && b) (Some begun)) (guarded_none _ _ (sym closed_by ∙ n))
        ∙ ap (λ b. guard b (Some begun)) (and_false (after inner.frame.head.kind))

    -- the part doesn't stand after one of this kind
    pub part_of_another : after r.kind ≡ false → step_body md (λ c. delimiter_operator form) v ≡ None
    part_of_another k =
        part_row ∙ ap (λ b. guard (b && may_close cx inner.frame) (Some begun)) (ap after inner.kind ∙ k)

    begun_is : (u : BodyState) → record v { present = record { frames = inner.outer; left = v.present.left } } ≡ u → begun ≡ body_with_part kind r.block_type (types (body_context md u) r.block_type) u
    begun_is u e =
        ap (λ (bt : BlockType). body_with_part kind bt (types cx bt) (record v { present = record { frames = inner.outer; left = v.present.left } })) inner.block_type
        ∙ ap (λ (w : BodyState). body_with_part kind r.block_type (types (body_context md w) r.block_type) w) e

    pub part_passes : (u w : BodyState) → closed_body md v ≡ Some u → after r.kind ≡ true → w ≡ body_with_part kind r.block_type (types (body_context md u) r.block_type) u → step_body md (λ c. delimiter_operator form) v ≡ Some w
    part_passes u w c k q =
        let s = guarded_some _ _ u (sym closed_by ∙ c) in
        part_row
        ∙ ap₂ (λ b d. guard (b && d) (Some begun)) (ap after inner.kind ∙ k) s.0
        ∙ ap Some (begun_is u s.1 ∙ sym q)

  -- without a frame that closes the row doesn't hold
  pub part_none : (md : ModuleContext) (v : BodyState) → v.present.frames ≢ [] → closed_body md v ≡ None → step_body md (λ c. delimiter_operator form) v ≡ None
  part_none md v o n = by (frame_at v 0) refl
    where
      by : (r : Option FlatFrame) → frame_at v 0 ≡ r → step_body md (λ c. delimiter_operator form) v ≡ None
      by None e = absurd (some_frame v o e)
      by (Some r) e = part_refused md v r e n

-- `else` begins the second part of an `if`, with its parameters
abbrev pub params_of : Context → BlockType → List ValType
params_of cx bt = (block_signature cx.of_module bt).params

pub else_begins : BeginsPart BeginsElse is_if Else params_of
else_begins = record { delimits = refl; fits = λ cx f. refl; leaves = λ cx o. refl }
