-- The innermost frame, as `else` and `end` find it, and a second part that is missing.
use Rattle.std.proofs.Common.{◌≡◌, Bool, true, List, map, sym, ap, ap₂, ◌∙◌}
use Rattle.std.specs.Prelude.{if◌then◌else◌}
use Rattle.validate_resources.specs.Context.{ModuleContext}
use Rattle.validate_types.specs.declared.types.ValType.{ValType}
use Rattle.validate_visit.specs.declared.frame.BlockType.{BlockType}
use Rattle.validate_visit.specs.declared.frame.Frame.{Frame as FlatFrame}
use Rattle.validation_rules.specs.Context.{Context, block_signature}
use Rattle.validation_rules.specs.Fits.{Known, all_fit}
use Rattle.validation_rules.specs.Rows.{FrameKind, is_if, params, results}
use Rattle.validation_rules.specs.Static.{missing_else_fits}
use Rattle.validate_stacks.specs.Blocks.{may_close_as_if}
use Rattle.validate_stacks.specs.State.{BodyState, body_context}
use Rattle.validate_stacks.specs.Steps.{head_of}

-- an `if` lacks its second part where its parameters are these results
pub missing_fits : (cx : Context) (kind : FrameKind) (bt : BlockType) (rs : List ValType) (b : Bool) → is_if kind ≡ true → rs ≡ (block_signature cx.of_module bt).results → all_fit cx (map Known (block_signature cx.of_module bt).params) rs ≡ b → missing_else_fits cx (head_of kind bt) ≡ b
missing_fits cx kind bt rs b k same fit =
    ap (λ q. if q then all_fit cx (map Known (params cx (head_of kind bt))) (results cx (head_of kind bt)) else true) k
    ∙ ap (all_fit cx (map Known (block_signature cx.of_module bt).params)) (sym same)
    ∙ fit

module _ (md : ModuleContext) (v : BodyState) (r : FlatFrame) (kind : FrameKind) (bt : BlockType) (is : (r.kind ≡ kind) × (r.block_type ≡ bt)) where
  -- what it asks of the frame that was found
  pub fits_as : may_close_as_if md r v ≡ missing_else_fits (body_context md v) (head_of kind bt)
  fits_as = ap₂ (λ k b. missing_else_fits (body_context md v) (head_of k b)) is.0 is.1

  -- the results of that frame
  pub results_as : (rs : List ValType) → rs ≡ (block_signature md bt).results → rs ≡ (block_signature md r.block_type).results
  results_as rs same = same ∙ ap (λ b. (block_signature md b).results) (sym is.1)
