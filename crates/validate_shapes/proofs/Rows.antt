-- The steps that checks make come to the static step of a row.
use Rattle.std.proofs.Common.{◌≡◌, ◌≢◌, ℕ, suc, Bool, true, false, ◌&&◌, ◌||◌, nat_le, List, [], ◌∷◌, map, reverse, length, slice_get, Option, Some, None, refl, sym, ap, ap₂, ◌∙◌}
use Rattle.std.specs.Option.{option_map}
use Rattle.std.proofs.Math.Dec.{leb-suc-suc, leb-suc-zero, leb-zero}
use Rattle.std.specs.Prelude.{if◌then◌else◌, ◌++◌}
use Rattle.validate_resources.specs.Context.{ModuleContext}
use Rattle.validate_types.specs.declared.features.WasmFeatures.{WasmFeatures}
use Rattle.validate_types.specs.declared.types.ValType.{ValType}
use Rattle.validate_visit.specs.declared.frame.Frame.{Frame as FlatFrame}
use Rattle.validation_rules.specs.Context.{Context, block_signature}
use Rattle.validation_rules.specs.Fits.{MaybeType, Known, fits, all_fit}
use Rattle.validation_rules.specs.Rows.{FrameKind, is_if, Head, results, Stays, Ends, Row, Operator, guard}
use Rattle.validation_rules.specs.Static.{Frame, State, stack_with, operands_on_top, operands_found, operands_under, may_close, state_after_exit, state_after, open_frames, step, step_in, locals_set, is_local_set, is_read_local_set, first_set_after}
use Rattle.validation_rules.proofs.Steps.{if_fits, joined}
use Rattle.validation_rules.specs.Operators.{plain_row, plain_row_if, never_row, looking_row, drop_pushes, row_operator, delimiter_operator, lookup_row, local_get_row, local_set_row, local_tee_row}
use Rattle.validation_rules.proofs.Pops.{and_false}
use Rattle.validate_stacks.specs.Blocks.{closed_body, closed_body_in, may_close_as_if}
use Rattle.validate_stacks.specs.Steps.{head_of}
use Rattle.validate_stacks.specs.Pops.{body_popped_each, body_pushed_each, IsKept}
use Rattle.validate_stacks.specs.State.{BodyState, body_context}
use Rattle.validate_stacks.specs.Steps.{found_in_frames, frame_at, body_popped, body_with_local_set, frames_first_setting}
use Rattle.validate_stacks.specs.Steps as steps
use Rattle.validate_stacks.specs.Visits.{step_body}
use Rattle.validate_stacks.proofs.Whole.{with_frame, popped_none, popped_whole, pushed_whole, pushed_over}
use Rattle.validate_stacks.proofs.ClosedFrames.{Innermost, innermost, some_frame, guarded_some, guarded_none}

or_false : (b : Bool) → b || false ≡ b
or_false true = refl
or_false false = refl

-- a row of expected and pushed types, which may read and set a local
abbrev pub local_row : Option ℕ → Option ℕ → List ValType → List ValType → Row
local_row reads sets expected ps = record (plain_row expected ps) { reads = reads; sets = sets }

-- ---- in a state with an innermost frame

module _ (md : ModuleContext) (v : BodyState) (f : Frame) (fs : List Frame) (e : v.present.frames ≡ f ∷ fs) where
  abbrev cx : Context
  cx = body_context md v

  abbrev set_now : List ℕ
  set_now = locals_set (f ∷ fs)

  abbrev pub frame_then : List ValType → List ValType → Option ℕ → Frame
  frame_then expected ps sets = record f { operands = stack_with (map Known ps) (operands_under (length expected) f); first_set = first_set_after cx set_now sets f.first_set }

  stepped_in : (op : Context → Operator) → step_body md op v ≡ option_map (λ (s : State). record v { present = s }) (step_in cx (op cx) (f ∷ fs) v.present.left)
  stepped_in op = ap (λ gs. option_map (λ (s : State). record v { present = s }) (step_in cx (op cx) gs v.present.left)) e

  guarded : (p q : Bool) (pushed : List MaybeType) (own : List MaybeType) (first : List ℕ) (r : Row) → r.ends_live ≡ false → option_map (λ (s : State). record v { present = s }) (option_map (state_after cx r (open_frames f fs v.present.left) Stays) (guard p (guard (q && true) (Some pushed)))) ≡ guard (p && q) (option_map (λ (s : State). record v { present = s }) (option_map (state_after cx r (open_frames f fs v.present.left) Stays) (Some pushed)))
  guarded true true pushed own first r d = refl
  guarded true false pushed own first r d = refl
  guarded false q pushed own first r d = refl

  pub row_is : (reads sets : Option ℕ) (expected ps : List ValType) → step_body md (λ c. row_operator (local_row reads sets expected ps)) v ≡ guard (is_read_local_set cx set_now reads && all_fit cx (operands_found (length expected) f) expected) (Some (with_frame v (frame_then expected ps sets) fs))
  row_is reads sets expected ps =
      stepped_in (λ c. row_operator (local_row reads sets expected ps))
      ∙ guarded (is_read_local_set cx set_now reads) (all_fit cx (operands_found (length expected) f) expected) (map Known ps) [] [] (local_row reads sets expected ps) refl
      ∙ ap (λ b. guard (is_read_local_set cx set_now reads && all_fit cx (operands_found (length expected) f) expected) (Some (with_frame v (record (frame_then expected ps sets) { dead = b }) fs))) (or_false f.dead)

-- a local that the row sets
abbrev pub set_after : Option ℕ → BodyState → BodyState
set_after None u = u
set_after (Some i) u = body_with_local_set i u

-- the local that the row reads is set
abbrev pub reads_in : BodyState → Option ℕ → Bool
reads_in v None = true
reads_in v (Some i) = is_local_set v.set_at_entry (locals_set v.present.frames) i

split : {A : Type 0} (p q : Bool) (g : A → A) (y x : A) → g y ≡ x → guard (p && q) (Some x) ≡ guard p (option_map g (guard q (Some y)))
split true true g y x h = ap Some (sym h)
split true false g y x h = refl
split false q g y x h = refl

module _ (md : ModuleContext) (v : BodyState) (f : Frame) (fs : List Frame) (e : v.present.frames ≡ f ∷ fs) where
  -- by whether the local is set already
  pushed_by : (b : Bool) (i : ℕ) (g : Frame) (ps : List ValType) → body_pushed_each ps (if b then with_frame v g fs else with_frame v (record g { first_set = g.first_set ++ i ∷ [] }) fs) ≡ with_frame v (record g { operands = stack_with (map Known ps) g.operands; first_set = joined b g.first_set i }) fs
  pushed_by true i g ps = pushed_whole ps (with_frame v g fs) g fs refl
  pushed_by false i g ps =
      let h : Frame = record g { first_set = g.first_set ++ i ∷ [] } in
      pushed_whole ps (with_frame v h fs) h fs refl

  then_pushed : (sets : Option ℕ) (expected ps : List ValType) → body_pushed_each ps (set_after sets (with_frame v (record f { operands = operands_under (length expected) f }) fs)) ≡ with_frame v (frame_then md v f fs e expected ps sets) fs
  then_pushed None expected ps = pushed_whole ps (with_frame v (record f { operands = operands_under (length expected) f }) fs) (record f { operands = operands_under (length expected) f }) fs refl
  then_pushed (Some i) expected ps = pushed_by (is_local_set v.set_at_entry (locals_set (f ∷ fs)) i) i (record f { operands = operands_under (length expected) f }) ps

  row_of : (reads sets : Option ℕ) (expected ps : List ValType) → step_body md (λ c. row_operator (local_row reads sets expected ps)) v ≡ guard (is_read_local_set (body_context md v) (locals_set (f ∷ fs)) reads) (option_map (λ u. body_pushed_each ps (set_after sets u)) (body_popped_each md (reverse expected) v))
  row_of reads sets expected ps =
      row_is md v f fs e reads sets expected ps
      ∙ split (is_read_local_set (body_context md v) (locals_set (f ∷ fs)) reads) (all_fit (body_context md v) (operands_found (length expected) f) expected) (λ u. body_pushed_each ps (set_after sets u)) (with_frame v (record f { operands = operands_under (length expected) f }) fs) (with_frame v (frame_then md v f fs e expected ps sets) fs) (then_pushed sets expected ps)
      ∙ ap (λ o. guard (is_read_local_set (body_context md v) (locals_set (f ∷ fs)) reads) (option_map (λ u. body_pushed_each ps (set_after sets u)) o)) (sym (popped_whole md v f fs expected e))

  reads_same : (reads : Option ℕ) → is_read_local_set (body_context md v) (locals_set (f ∷ fs)) reads ≡ reads_in v reads
  reads_same None = refl
  reads_same (Some i) = ap (λ gs. is_local_set v.set_at_entry (locals_set gs) i) (sym e)

-- pops of the expected types, perhaps the setting of a local, and pushes: the row's step
pub row_then : (md : ModuleContext) (v : BodyState) (reads sets : Option ℕ) (expected ps : List ValType) → v.present.frames ≢ [] → step_body md (λ c. row_operator (local_row reads sets expected ps)) v ≡ guard (reads_in v reads) (option_map (λ u. body_pushed_each ps (set_after sets u)) (body_popped_each md (reverse expected) v))
row_then md v reads sets expected ps o = by v.present.frames refl
  where
    by : (fs : List Frame) → v.present.frames ≡ fs → step_body md (λ c. row_operator (local_row reads sets expected ps)) v ≡ guard (reads_in v reads) (option_map (λ u. body_pushed_each ps (set_after sets u)) (body_popped_each md (reverse expected) v))
    by [] e = absurd (o e)
    by (f ∷ fs) e =
        row_of md v f fs e reads sets expected ps
        ∙ ap (λ b. guard b (option_map (λ u. body_pushed_each ps (set_after sets u)) (body_popped_each md (reverse expected) v))) (reads_same md v f fs e reads)

-- ---- plain rows

pub plain_passes : (md : ModuleContext) (v u w : BodyState) (expected ps : List ValType) → v.present.frames ≢ [] → body_popped_each md (reverse expected) v ≡ Some u → w ≡ body_pushed_each ps u → step_body md (λ c. row_operator (plain_row expected ps)) v ≡ Some w
plain_passes md v u w expected ps o p q = row_then md v None None expected ps o ∙ ap (option_map (λ u. body_pushed_each ps u)) p ∙ ap Some (sym q)

pub plain_refused : (md : ModuleContext) (v : BodyState) (expected ps : List ValType) → v.present.frames ≢ [] → body_popped_each md (reverse expected) v ≡ None → step_body md (λ c. row_operator (plain_row expected ps)) v ≡ None
plain_refused md v expected ps o p = row_then md v None None expected ps o ∙ ap (option_map (λ u. body_pushed_each ps u)) p

pub not_plain : (md : ModuleContext) (v : BodyState) (expected ps : List ValType) → step_body md (λ c. row_operator (plain_row_if false expected ps)) v ≡ None
not_plain md v expected ps = by v.present.frames
  where
    by : (fs : List Frame) → option_map (λ (s : State). record v { present = s }) (step_in (body_context md v) (row_operator (plain_row_if false expected ps)) fs v.present.left) ≡ None
    by [] = refl
    by (f ∷ fs) = refl

pub same_row : (md : ModuleContext) (v : BodyState) (op : Context → Operator) (r : Operator) → op (body_context md v) ≡ r → step_body md op v ≡ step_body md (λ c. r) v
same_row md v op r h = ap (λ (q : Operator). option_map (λ (s : State). record v { present = s }) (step (body_context md v) q v.present)) h

-- ---- locals

module _ (md : ModuleContext) (v : BodyState) (i : ℕ) where
  pub no_local_get : slice_get v.locals i ≡ None → step_body md (λ c. row_operator (local_get_row c i)) v ≡ None
  no_local_get h = same_row md v (λ c. row_operator (local_get_row c i)) (row_operator never_row) (ap (λ o. row_operator (lookup_row o (λ t. local_row (Some i) None [] (t ∷ [])))) h) ∙ not_plain md v [] []

  pub no_local_set : slice_get v.locals i ≡ None → step_body md (λ c. row_operator (local_set_row c i)) v ≡ None
  no_local_set h = same_row md v (λ c. row_operator (local_set_row c i)) (row_operator never_row) (ap (λ o. row_operator (lookup_row o (λ t. local_row None (Some i) (t ∷ []) []))) h) ∙ not_plain md v [] []

  pub no_local_tee : slice_get v.locals i ≡ None → step_body md (λ c. row_operator (local_tee_row c i)) v ≡ None
  no_local_tee h = same_row md v (λ c. row_operator (local_tee_row c i)) (row_operator never_row) (ap (λ o. row_operator (lookup_row o (λ t. local_row None (Some i) (t ∷ []) (t ∷ [])))) h) ∙ not_plain md v [] []

  pub local_get_is : (t : ValType) → slice_get v.locals i ≡ Some t → v.present.frames ≢ [] → step_body md (λ c. row_operator (local_get_row c i)) v ≡ guard (is_local_set v.set_at_entry (locals_set v.present.frames) i) (Some (body_pushed_each (t ∷ []) v))
  local_get_is t h o =
      same_row md v (λ c. row_operator (local_get_row c i)) (row_operator (local_row (Some i) None [] (t ∷ []))) (ap (λ o. row_operator (lookup_row o (λ t. local_row (Some i) None [] (t ∷ [])))) h)
      ∙ row_then md v (Some i) None [] (t ∷ []) o
      ∙ ap (λ o. guard (is_local_set v.set_at_entry (locals_set v.present.frames) i) (option_map (λ u. body_pushed_each (t ∷ []) u) o)) (popped_none md v)

  pub local_set_is : (t : ValType) → slice_get v.locals i ≡ Some t → v.present.frames ≢ [] → step_body md (λ c. row_operator (local_set_row c i)) v ≡ option_map (λ u. body_with_local_set i u) (body_popped_each md (t ∷ []) v)
  local_set_is t h o =
      same_row md v (λ c. row_operator (local_set_row c i)) (row_operator (local_row None (Some i) (t ∷ []) [])) (ap (λ o. row_operator (lookup_row o (λ t. local_row None (Some i) (t ∷ []) []))) h)
      ∙ row_then md v None (Some i) (t ∷ []) [] o

  pub local_tee_is : (t : ValType) → slice_get v.locals i ≡ Some t → v.present.frames ≢ [] → step_body md (λ c. row_operator (local_tee_row c i)) v ≡ option_map (λ u. body_pushed_each (t ∷ []) (body_with_local_set i u)) (body_popped_each md (t ∷ []) v)
  local_tee_is t h o =
      same_row md v (λ c. row_operator (local_tee_row c i)) (row_operator (local_row None (Some i) (t ∷ []) (t ∷ []))) (ap (λ o. row_operator (lookup_row o (λ t. local_row None (Some i) (t ∷ []) (t ∷ [])))) h)
      ∙ row_then md v None (Some i) (t ∷ []) (t ∷ []) o

-- ---- `drop`

module _ (md : ModuleContext) where
  abbrev at : Head → List MaybeType → Bool → List ℕ → List Frame → List MaybeType → Bool → WasmFeatures → List ValType → List Bool → Option State → BodyState
  at h own dead set fs left s n ls en un =
      record { present = record { frames = record { head = h; operands = own; dead = dead; first_set = set } ∷ fs; left = left }; shared = s; features = n; locals = ls; set_at_entry = en; undone = un }

  drop_in : (h : Head) (own : List MaybeType) (dead : Bool) (set : List ℕ) (fs : List Frame) (left : List MaybeType) (s : Bool) (n : WasmFeatures) (ls : List ValType) (en : List Bool) (un : Option State) → step_body md (λ c. row_operator (looking_row 1 drop_pushes)) (at h own dead set fs left s n ls en un) ≡ option_map (λ _. body_popped (at h own dead set fs left s n ls en un)) (found_in_frames (record { head = h; operands = own; dead = dead; first_set = set } ∷ fs))
  drop_in h (x ∷ own) true set fs left s n ls en un = refl
  drop_in h (x ∷ own) false set fs left s n ls en un = refl
  drop_in h [] true set fs left s n ls en un = refl
  drop_in h [] false set fs left s n ls en un = refl

  pub drop_is : (v : BodyState) → step_body md (λ c. row_operator (looking_row 1 drop_pushes)) v ≡ option_map (λ _. body_popped v) (steps.found_in_body v)
  drop_is v = by v.present.frames refl
    where
      by : (fs : List Frame) → v.present.frames ≡ fs → step_body md (λ c. row_operator (looking_row 1 drop_pushes)) v ≡ option_map (λ _. body_popped v) (steps.found_in_body v)
      by [] e = ap (λ gs. option_map (λ (s : State). record v { present = s }) (step_in (body_context md v) (row_operator (looking_row 1 drop_pushes)) gs v.present.left)) e ∙ sym (ap (λ gs. option_map (λ _. body_popped v) (found_in_frames gs)) e)
      by (f ∷ fs) e =
          ap (λ gs. step_body md (λ c. row_operator (looking_row 1 drop_pushes)) (record v { present = record { frames = gs; left = v.present.left } })) e
          ∙ drop_in f.head f.operands f.dead f.first_set fs v.present.left v.shared v.features v.locals v.set_at_entry v.undone
          ∙ ap (λ gs. option_map (λ _. body_popped (record v { present = record { frames = gs; left = v.present.left } })) (found_in_frames gs)) (sym e)

-- ---- `end`

and_pull : (a b c : Bool) → (a && (b && c)) ≡ (b && (a && c))
and_pull true true c = refl
and_pull true false c = refl
and_pull false true c = refl
and_pull false false c = refl

module _ (cx : Context) where
  whole_top : (own : List MaybeType) (ws : List ValType) → (nat_le (length own) (length ws) && all_fit cx (operands_on_top (length ws) false own) ws) ≡ all_fit cx own ws
  whole_top [] [] = ap (λ b. b && true) (leb-zero 0)
  whole_top [] (w ∷ ws) = and_false (nat_le 0 (suc (length ws)))
  whole_top (x ∷ own) [] = ap (λ b. b && true) (leb-suc-zero (length own))
  whole_top (x ∷ own) (w ∷ ws) =
      ap (λ b. b && (fits cx x w && all_fit cx (operands_on_top (length ws) false own) ws)) (leb-suc-suc (length own) (length ws))
      ∙ and_pull (nat_le (length own) (length ws)) (fits cx x w) (all_fit cx (operands_on_top (length ws) false own) ws)
      ∙ ap (λ b. fits cx x w && b) (whole_top own ws)

module _ (md : ModuleContext) (v : BodyState) (r : FlatFrame) (h : frame_at v 0 ≡ Some r) where
  abbrev inner : Innermost v r
  inner = innermost v r h

  abbrev rs_now : List ValType
  rs_now = (block_signature md r.block_type).results

  -- the row of `end`, by the frame that it closes
  end_row : step_body md (λ c. delimiter_operator Ends) v ≡ guard (if_fits (body_context md v) (is_if inner.frame.head.kind) inner.frame.head && may_close (body_context md v) inner.frame) (Some (record v { present = state_after_exit v.present.left (results (body_context md v) inner.frame.head) inner.outer }))
  end_row =
      ap (λ gs. option_map (λ (s : State). record v { present = s }) (step_in (body_context md v) (delimiter_operator Ends) gs v.present.left)) inner.is
      ∙ ended (if_fits (body_context md v) (is_if inner.frame.head.kind) inner.frame.head && may_close (body_context md v) inner.frame)
    where
      ended : (b : Bool) → option_map (λ (s : State). record v { present = s }) (option_map (state_after (body_context md v) (plain_row [] []) (open_frames inner.frame inner.outer v.present.left) Ends) (guard b (Some []))) ≡ guard b (Some (record v { present = state_after_exit v.present.left (results (body_context md v) inner.frame.head) inner.outer }))
      ended true = refl
      ended false = refl

  closed_by : closed_body md v ≡ guard (may_close (body_context md v) inner.frame) (Some (record v { present = record { frames = inner.outer; left = v.present.left } }))
  closed_by = ap (closed_body_in (body_context md v) v) inner.is

  -- the frame doesn't close
  pub end_refused : closed_body md v ≡ None → step_body md (λ c. delimiter_operator Ends) v ≡ None
  end_refused n =
      end_row
      ∙ ap (λ b. guard (if_fits (body_context md v) (is_if inner.frame.head.kind) inner.frame.head && b) (Some (record v { present = state_after_exit v.present.left (results (body_context md v) inner.frame.head) inner.outer }))) (guarded_none _ _ (sym closed_by ∙ n))
      ∙ ap (λ b. guard b (Some (record v { present = state_after_exit v.present.left (results (body_context md v) inner.frame.head) inner.outer }))) (and_false (if_fits (body_context md v) (is_if inner.frame.head.kind) inner.frame.head))

  if_of : (b : Bool) → is_if r.kind ≡ b → if_fits (body_context md v) (is_if inner.frame.head.kind) inner.frame.head ≡ if_fits (body_context md v) b (head_of r.kind r.block_type)
  if_of b k =
      ap (λ (q : FrameKind). if_fits (body_context md v) (is_if q) inner.frame.head) inner.kind
      ∙ ap (λ b. if_fits (body_context md v) b inner.frame.head) k
      ∙ ap₂ (λ q t. if_fits (body_context md v) b (head_of q t)) inner.kind inner.block_type

  -- an `if` whose parameters aren't its results
  pub end_refused_if : may_close_as_if md r v ≡ false → step_body md (λ c. delimiter_operator Ends) v ≡ None
  end_refused_if n =
      end_row
      ∙ ap (λ b. guard (b && may_close (body_context md v) inner.frame) (Some (record v { present = state_after_exit v.present.left (results (body_context md v) inner.frame.head) inner.outer }))) (if_of (is_if r.kind) refl ∙ n)

  -- the frame closes, and its results are pushed outside
  pub end_passes : (u w : BodyState) → closed_body md v ≡ Some u → may_close_as_if md r v ≡ true → w ≡ body_pushed_each rs_now u → step_body md (λ c. delimiter_operator Ends) v ≡ Some w
  end_passes u w c i p =
      let s = guarded_some _ _ u (sym closed_by ∙ c) in
      end_row
      ∙ ap₂ (λ b d. guard (b && d) (Some (record v { present = state_after_exit v.present.left (results (body_context md v) inner.frame.head) inner.outer }))) (if_of (is_if r.kind) refl ∙ i) s.0
      ∙ ap Some
      (ap (λ t. record v { present = state_after_exit v.present.left (block_signature md t).results inner.outer }) inner.block_type
      ∙ sym (p ∙ (ap (λ (x : BodyState). body_pushed_each rs_now x) (sym s.1) ∙ pushed_over rs_now (record v { present = record { frames = inner.outer; left = v.present.left } }) inner.outer refl)))

-- without a frame that closes the row of `end` doesn't hold
pub end_none : (md : ModuleContext) (v : BodyState) → v.present.frames ≢ [] → closed_body md v ≡ None → step_body md (λ c. delimiter_operator Ends) v ≡ None
end_none md v o n = by (frame_at v 0) refl
  where
    by : (r : Option FlatFrame) → frame_at v 0 ≡ r → step_body md (λ c. delimiter_operator Ends) v ≡ None
    by None e = absurd (some_frame v o e)
    by (Some r) e = end_refused md v r e n

-- where only operands and frames changed, the context is the same
pub same_context : (md : ModuleContext) (v u : BodyState) → IsKept v u → body_context md v ≡ body_context md u
same_context md v u k = sym (ap (λ (w : BodyState). body_context md w) k)

-- pushes of one list, and then of another
pub pushed_then : (xs ys : List ValType) (v : BodyState) → body_pushed_each (xs ++ ys) v ≡ body_pushed_each ys (body_pushed_each xs v)
pushed_then [] ys v = refl
pushed_then (x ∷ xs) ys v = pushed_then xs ys (steps.body_pushed (Known x) v)
