-- The steps of `catch`, `catch_all` and `delegate`.
use Rattle.std.proofs.Common.{◌≡◌, ◌≢◌, ℕ, zero, suc, ◌+◌, Bool, true, false, ◌&&◌, List, [], ◌∷◌, length, slice_get, Option, Some, None, is_some, refl, sym, ap, ap₂, ◌∙◌, arith}
use Rattle.std.specs.Option.{option_map}
use Rattle.validate_resources.specs.Context.{ModuleContext}
use Rattle.validate_types.specs.declared.types.ValType.{ValType}
use Rattle.validate_visit.specs.declared.frame.Frame.{Frame as FlatFrame}
use Rattle.validation_rules.specs.Branches.{has_label}
use Rattle.validation_rules.specs.Context.{Context, block_signature}
use Rattle.validation_rules.specs.Exceptions.{exception_types, catch_operator, delegate_operator}
use Rattle.validation_rules.specs.Operators.{delimiter_operator}
use Rattle.validation_rules.specs.Rows.{is_try, may_catch, catch_kind, results, BeginsCatch, guard}
use Rattle.validation_rules.specs.Static.{Frame, State, heads, head_with_kind, opened_frame, may_close, delimiter_fits, state_after_exit, step_in}
use Rattle.validation_rules.proofs.Pops.{and_false}
use Rattle.validate_stacks.specs.Blocks.{closed_body, closed_body_in}
use Rattle.validate_stacks.specs.Flat.{with_heights}
use Rattle.validate_stacks.specs.Pops.{body_pushed_each}
use Rattle.validate_stacks.specs.State.{BodyState, body_context}
use Rattle.validate_stacks.specs.Steps.{frame_at}
use Rattle.validate_stacks.specs.Visits.{step_body}
use Rattle.validate_stacks.proofs.ClosedFrames.{Innermost, innermost, some_frame, guarded_some, guarded_none}
use Rattle.validate_stacks.proofs.Whole.{with_frame, pushed_whole, pushed_over}
use Rattle.validate_shapes.proofs.Parts.{BeginsPart}

-- ---- `catch` and `catch_all`

-- each begins a part, with nothing
pub catch_begins : (all : Bool) → BeginsPart (BeginsCatch all []) may_catch (catch_kind all) (λ cx bt. [])
catch_begins all = record { delimits = refl; fits = λ cx f. refl; leaves = λ cx o. refl }

module _ (md : ModuleContext) (v : BodyState) where
  abbrev put : Option State → Option BodyState
  put o = option_map (λ (s : State). record v { present = s }) o

  -- a part that owns types is one without operands, on which they are pushed
  catch_with : (types : List ValType) → step_body md (λ c. catch_operator (Some types)) v ≡ option_map (λ u. body_pushed_each types u) (step_body md (λ c. delimiter_operator (BeginsCatch false [])) v)
  catch_with types = by v.present.frames
    where
      by : (fs : List Frame) → put (step_in (body_context md v) (catch_operator (Some types)) fs v.present.left) ≡ option_map (λ u. body_pushed_each types u) (put (step_in (body_context md v) (delimiter_operator (BeginsCatch false [])) fs v.present.left))
      by [] = refl
      by (f ∷ fs) = through (delimiter_fits (body_context md v) (BeginsCatch false []) f && may_close (body_context md v) f) refl
        where
          part : Frame
          part = opened_frame (head_with_kind (catch_kind false) f.head) []

          through : (b : Bool) → (delimiter_fits (body_context md v) (BeginsCatch false []) f && may_close (body_context md v) f) ≡ b → put (step_in (body_context md v) (catch_operator (Some types)) (f ∷ fs) v.present.left) ≡ option_map (λ u. body_pushed_each types u) (put (step_in (body_context md v) (delimiter_operator (BeginsCatch false [])) (f ∷ fs) v.present.left))
          through true e = rw e (ap Some (sym (pushed_whole types (with_frame v part fs) part fs refl)))
          through false e = rw e refl

  module _ (tag : ℕ) where
    abbrev catch_step : Option BodyState
    catch_step = step_body md (λ c. catch_operator (exception_types c.of_module tag)) v

    -- no exception has the tag
    pub catch_unknown : exception_types md tag ≡ None → catch_step ≡ None
    catch_unknown n = ap (λ o. step_body md (λ c. catch_operator o) v) n ∙ by v.present.frames
      where
        by : (fs : List Frame) → put (step_in (body_context md v) (catch_operator None) fs v.present.left) ≡ None
        by [] = refl
        by (f ∷ fs) = refl

    catch_by : (types : List ValType) → exception_types md tag ≡ Some types → catch_step ≡ option_map (λ u. body_pushed_each types u) (step_body md (λ c. delimiter_operator (BeginsCatch false [])) v)
    catch_by types e = ap (λ o. step_body md (λ c. catch_operator o) v) e ∙ catch_with types

    -- the part doesn't begin
    pub catch_refused : step_body md (λ c. delimiter_operator (BeginsCatch false [])) v ≡ None → catch_step ≡ None
    catch_refused n = by (exception_types md tag) refl
      where
        by : (o : Option (List ValType)) → exception_types md tag ≡ o → catch_step ≡ None
        by None e = catch_unknown e
        by (Some types) e = catch_by types e ∙ ap (option_map (λ u. body_pushed_each types u)) n

    pub catch_passes : (types : List ValType) (u w : BodyState) → exception_types md tag ≡ Some types → step_body md (λ c. delimiter_operator (BeginsCatch false [])) v ≡ Some u → w ≡ body_pushed_each types u → catch_step ≡ Some w
    catch_passes types u w e p q = catch_by types e ∙ ap (option_map (λ u. body_pushed_each types u)) p ∙ ap Some (sym q)

-- ---- `delegate`

-- a label, and the frame that is found at it
label_found : (fs : List Frame) (n d : ℕ) → has_label (heads fs) d ≡ is_some (slice_get (with_heights fs n) d)
label_found [] n zero = refl
label_found [] n (suc d) = refl
label_found (f ∷ fs) n zero = refl
label_found (f ∷ fs) n (suc d) = label_found fs n d

module _ (md : ModuleContext) (v : BodyState) (d : ℕ) (r : FlatFrame) (h : frame_at v 0 ≡ Some r) where
  abbrev cx : Context
  cx = body_context md v

  abbrev inner : Innermost v r
  inner = innermost v r h

  abbrev pushed : BodyState
  pushed = record v { present = state_after_exit v.present.left (results cx inner.frame.head) inner.outer }

  delegate_row : step_body md (λ c. delegate_operator d) v ≡ guard (has_label (heads inner.outer) d && (is_try inner.frame.head.kind && may_close cx inner.frame)) (Some pushed)
  delegate_row =
      ap (λ gs. option_map (λ (s : State). record v { present = s }) (step_in cx (delegate_operator d) gs v.present.left)) inner.is
      ∙ through (has_label (heads inner.outer) d && (is_try inner.frame.head.kind && may_close cx inner.frame)) refl
    where
      through : (b : Bool) → (has_label (heads inner.outer) d && (is_try inner.frame.head.kind && may_close cx inner.frame)) ≡ b → option_map (λ (s : State). record v { present = s }) (step_in cx (delegate_operator d) (inner.frame ∷ inner.outer) v.present.left) ≡ guard b (Some pushed)
      through true e = rw e refl
      through false e = rw e refl

  closed_by : closed_body md v ≡ guard (may_close cx inner.frame) (Some (record v { present = record { frames = inner.outer; left = v.present.left } }))
  closed_by = ap (closed_body_in cx v) inner.is

  -- the frame doesn't close
  delegate_refused : closed_body md v ≡ None → step_body md (λ c. delegate_operator d) v ≡ None
  delegate_refused n =
      delegate_row
      ∙ ap (λ b. guard (has_label (heads inner.outer) d && (is_try inner.frame.head.kind && b)) (Some pushed)) (guarded_none _ _ (sym closed_by ∙ n))
      ∙ ap (λ b. guard (has_label (heads inner.outer) d && b) (Some pushed)) (and_false (is_try inner.frame.head.kind))
      ∙ ap (λ b. guard b (Some pushed)) (and_false (has_label (heads inner.outer) d))

  -- it isn't the body of a `try`
  pub delegate_of_another : is_try r.kind ≡ false → step_body md (λ c. delegate_operator d) v ≡ None
  delegate_of_another k =
      delegate_row
      ∙ ap (λ b. guard (has_label (heads inner.outer) d && (b && may_close cx inner.frame)) (Some pushed)) (ap is_try inner.kind ∙ k)
      ∙ ap (λ b. guard b (Some pushed)) (and_false (has_label (heads inner.outer) d))

  -- the label is counted outside the frame
  has_outer : has_label (heads inner.outer) d ≡ is_some (frame_at v (d + 1))
  has_outer =
      let n = length v.present.left in
      let next : suc d ≡ d + 1 = omega arith in
      label_found inner.outer n d
      ∙ ap (λ (fs : List Frame). is_some (slice_get (with_heights fs n) (suc d))) (sym inner.is)
      ∙ ap (λ k. is_some (frame_at v k)) next

  -- it isn't there
  pub delegate_nowhere : frame_at v (d + 1) ≡ None → step_body md (λ c. delegate_operator d) v ≡ None
  delegate_nowhere n =
      delegate_row
      ∙ ap (λ b. guard (b && (is_try inner.frame.head.kind && may_close cx inner.frame)) (Some pushed)) (has_outer ∙ ap is_some n)

  pub delegate_passes : (u w : BodyState) (g : FlatFrame) (rs : List ValType) → closed_body md v ≡ Some u → is_try r.kind ≡ true → frame_at v (d + 1) ≡ Some g → rs ≡ (block_signature md r.block_type).results → w ≡ body_pushed_each rs u → step_body md (λ c. delegate_operator d) v ≡ Some w
  delegate_passes u w g rs closed k there same p =
      let s = guarded_some _ _ u (sym closed_by ∙ closed) in
      let left : BodyState = record v { present = record { frames = inner.outer; left = v.present.left } } in
      delegate_row
      ∙ ap₂ (λ b c. guard (b && (c && may_close cx inner.frame)) (Some pushed)) (has_outer ∙ ap is_some there) (ap is_try inner.kind ∙ k)
      ∙ ap (λ b. guard b (Some pushed)) s.0
      ∙ ap Some
      (ap (λ t. record v { present = state_after_exit v.present.left (block_signature md t).results inner.outer }) inner.block_type
      ∙ ap (λ ts. record v { present = state_after_exit v.present.left ts inner.outer }) (sym same)
      ∙ sym (p ∙ (ap (λ (x : BodyState). body_pushed_each rs x) (sym s.1) ∙ pushed_over rs left inner.outer refl)))

-- without a frame that closes the row doesn't hold
pub delegate_none : (md : ModuleContext) (v : BodyState) (d : ℕ) → v.present.frames ≢ [] → closed_body md v ≡ None → step_body md (λ c. delegate_operator d) v ≡ None
delegate_none md v d o n = by (frame_at v 0) refl
  where
    by : (r : Option FlatFrame) → frame_at v 0 ≡ r → step_body md (λ c. delegate_operator d) v ≡ None
    by None e = absurd (some_frame v o e)
    by (Some r) e = delegate_refused md v d r e n
