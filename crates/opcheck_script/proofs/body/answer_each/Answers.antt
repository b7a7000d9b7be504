use Rattle.std.proofs.Common.{◌≡◌, true, false, List, [], ◌∷◌, ◌++◌, ◌+◌, ℕ, length, drop, get_or, slice_get, Some, Err, sym, ap, ◌∙◌, subst, arith, length-append}
use Rattle.std.proofs.lemmas.List.{drop_more}
use Rattle.validate_resources.specs.Context.{ModuleContext}
use Rattle.validate_types.specs.ErrorValue.{ErrorValue}
use Rattle.validate_visit.specs.declared.op.Op.{Op}
use Rattle.validate_stacks.specs.State.{body_context}
use Rattle.validation_rules.specs.Context.{Context}
use Rattle.validation_rules.specs.Static.{State}
use Rattle.wasmparser_validate.specs.Functions.{FunctionState}
use Rattle.validate_operators.specs.Runs.{IsSafeFrom}
use Rattle.validate_operators.proofs.Listed.{IsOrderedBelow, at_place}
use Rattle.opcheck_script.specs.Attempts.{Answer, IsAnswer, AreAnswers, EndsRun, RunsEach, accepted_of, accepted_at}
use Rattle.opcheck_script.proofs.Attempts.{next_answered, accepted_rows, none_accepted, accepted_more, open_at, still_ordered, attempted_flat, ends_at, short_of_memory, when_ok}
use Rattle.opcheck_script.proofs.body.answer_each.Given.{Over}
use Rattle.opcheck_script.proofs.body.answer_each.Goals.{Start, After-reserve}
use Rattle.opcheck_script.proofs.body.answer_each.Goals as goal

module _ (g : Over) (c : Start g) where
  abbrev md : ModuleContext
  md = g.R.WasmModuleResources.context c.args.function.now.resources

  abbrev cx : Context
  cx = body_context md c.args.function.now.starting

-- at the operator at this index
module _ (g : Over) (c : After-reserve g) where
  abbrev start : Start g
  start = (goal.at.After-reserve g c).Start

  operator_there : (d : Op × ℕ) → slice_get c.args.ops.now c.loop-index.index ≡ Some (get_or c.args.ops.now c.loop-index.index d)
  operator_there d = at_place c.args.ops.now c.loop-index.index d (omega arith)

  ends_here : (d : Op × ℕ) (refusal : ErrorValue) → EndsRun (cx g start) (get_or c.args.ops.now c.loop-index.index d) c.is_attempted_at-attempted.result refusal c.loop-index.function.present → RunsEach (md g start) c.args.function.now.starting c.args.shows (record { ops = c.args.ops.now; attempts = c.args.attempts.now }) c.reserve.new.self.items (Err refusal)
  ends_here d refusal ended =
      let ops = c.args.ops.now in
      let marks = c.args.attempts.now in
      let s = c.loop-index.function.present in
      subst (λ (l : List Answer). RunsEach (md g start) c.args.function.now.starting c.args.shows (record { ops = ops; attempts = marks }) l (Err refusal)) (sym {A = List Answer} c.reserve.ensures.items)
      (record {
        last = s;
        answered = c.loop-index.invariant.answered;
        rows = accepted_rows (cx g start) c.args.shows c.args.function.now.starting.present ops marks c.loop-index.answers.items s c.loop-index.invariant.answered;
        ends = ends_at (cx g start) ops marks c.loop-index.answers.items c.loop-index.index (get_or ops c.loop-index.index d) c.is_attempted_at-attempted.result refusal s c.loop-index.invariant.count (operator_there d) c.is_attempted_at-attempted.ensures ended;
      })

pub loop-index-init : goal.loop-index-init
loop-index-init g c =
    let f = c.args.function.now in
    let cx = body_context (g.R.WasmModuleResources.context f.resources) f.starting in
    let at_start : f.present ≡ f.starting.present = ap (λ (x : FunctionState g.row.R.Denot). x.present) c.requires.first in
    let none : f.accepted ≡ accepted_of c.args.ops.now c.args.answers.now.items = ap (λ (x : FunctionState g.row.R.Denot). x.accepted) c.requires.first ∙ sym (ap (accepted_of c.args.ops.now) c.requires.empty ∙ none_accepted c.args.ops.now) in
    record {
      count = ap length c.requires.empty;
      kept = ap (λ (l : List (Op × ℕ)). record f { accepted = l }) none;
      answered = subst (λ (l : List Answer). AreAnswers cx c.args.shows f.starting.present c.args.ops.now c.args.attempts.now l f.present) (sym {A = List Answer} c.requires.empty) (sym at_start);
      ordered = subst (λ (x : State). IsOrderedBelow x.frames c.args.ops.now) (sym (at_start ∙ c.requires.starting.one_frame)) c.requires.ordered;
    }

pub returns-then-is_err-clause-runs : goal.returns-then-is_err-clause-runs
returns-then-is_err-clause-runs g c =
    let at = goal.at.returns-then-is_err-clause-runs g c in
    ends_here g at.After-reserve _ c.out_of_memory.result
    (short_of_memory (cx g at.Start) (get_or c.args.ops.now c.loop-index.index _) _ _ _ (ap (λ (e : ErrorValue). e.offset) c.out_of_memory.ensures) (ap (λ (e : ErrorValue). e.wants_memory) c.out_of_memory.ensures))

pub returns-in-Err-clause-runs : goal.returns-in-Err-clause-runs
returns-in-Err-clause-runs g c =
    let p = get_or c.args.ops.now c.loop-index.index _ in
    let ended = subst (λ (x : FunctionState g.row.R.Denot). EndsRun (body_context (g.R.WasmModuleResources.context x.resources) x.starting) p c.is_attempted_at-attempted.result c.in-Err.refusal c.loop-index.function.present) c.loop-index.invariant.kept c.in-Err.ensures.ended in
    ends_here g (goal.at.returns-in-Err-clause-runs g c).After-reserve _ c.in-Err.refusal ended

pub answer_at-requires : goal.answer_at-requires
answer_at-requires g c =
    record {
      none_failed = ap (λ (x : FunctionState g.row.R.Denot). x.failed) (c.loop-index.invariant.kept ∙ ap (λ (x : FunctionState g.row.R.Denot). record x { accepted = accepted_of c.args.ops.now c.loop-index.answers.items; present = c.loop-index.function.present }) c.requires.first);
      open_frame = open_at c.loop-index.function.present.frames c.args.ops.now c.loop-index.index (omega arith) c.loop-index.invariant.ordered;
    }

pub loop-index-preserved : goal.loop-index-preserved
loop-index-preserved g c =
    let at = goal.at.loop-index-preserved g c in
    let ops = c.args.ops.now in
    let marks = c.args.attempts.now in
    let i = c.loop-index.index in
    let u = c.loop-index.function in
    let w = c.answer_at.new.function in
    let a = c.in-Ok.answer in
    let answers = c.loop-index.answers.items in
    let p = get_or ops i _ in
    let there = operator_there g at.After-reserve _ in
    let answer = subst (λ (x : FunctionState g.row.R.Denot). IsAnswer (body_context (g.R.WasmModuleResources.context x.resources) x.starting) c.args.shows p c.is_attempted_at-attempted.result a u.present w.present) c.loop-index.invariant.kept c.in-Ok.ensures.answered in
    let noted : c.push_reserved.new.self.items ≡ answers ++ a ∷ [] = c.push_reserved.ensures.items ∙ ap (λ (l : List Answer). l ++ a ∷ []) c.reserve.ensures.items in
    let listed : accepted_of ops c.push_reserved.new.self.items ≡ accepted_at p a (accepted_of ops answers) = ap (accepted_of ops) noted ∙ accepted_more ops answers a p (ap (slice_get ops) c.loop-index.invariant.count ∙ there) in
    record {
      count = ap length noted ∙ (length-append answers (a ∷ []) ∙ ap (λ m. m + 1) c.loop-index.invariant.count);
      kept = c.in-Ok.ensures.kept
          ∙ (ap (λ (x : FunctionState g.row.R.Denot). record x { accepted = accepted_at p a x.accepted; present = w.present }) c.loop-index.invariant.kept
          ∙ ap (λ (l : List (Op × ℕ)). record c.args.function.now { accepted = l; present = w.present }) (sym listed));
      answered = subst (λ (l : List Answer). AreAnswers (cx g at.Start) c.args.shows c.args.function.now.starting.present ops marks l w.present) (sym {A = List Answer} noted) (next_answered (cx g at.Start) c.args.shows _ ops marks answers a u.present w.present i p c.is_attempted_at-attempted.result c.loop-index.invariant.count c.loop-index.invariant.answered there c.is_attempted_at-attempted.ensures answer);
      ordered = still_ordered (cx g at.Start) c.args.shows u.present w.present p c.is_attempted_at-attempted.result a (drop (i + 1) ops) answer (attempted_flat ops marks i p _ c.requires.allowed there c.is_attempted_at-attempted.ensures) (subst (IsOrderedBelow u.present.frames) (drop_more ops i _ (omega arith)) c.loop-index.invariant.ordered);
    }

pub returns-clause-runs : goal.returns-clause-runs
returns-clause-runs g c =
    let u = c.loop-index.function in
    let whole = c.finish.ensures.whole in
    let live : u.failed ≡ false = ap (λ (x : FunctionState g.row.R.Denot). x.failed) (c.loop-index.invariant.kept ∙ ap (λ (x : FunctionState g.row.R.Denot). record x { accepted = accepted_of c.args.ops.now c.loop-index.answers.items; present = u.present }) c.requires.first) in
    record {
      last = u.present;
      answered = c.loop-index.invariant.answered;
      rows = accepted_rows (cx g (goal.at.returns-clause-runs g c).Start) c.args.shows c.args.function.now.starting.present c.args.ops.now c.args.attempts.now c.loop-index.answers.items u.present c.loop-index.invariant.answered;
      ends = (c.loop-index.invariant.count ∙ omega arith, (λ h. (whole.0 (sym c.is_ok.ensures.value ∙ h)).1, λ none. c.is_ok.ensures.value ∙ whole.1 (live, none)));
    }

pub returns-clause-safe : goal.returns-clause-safe
returns-clause-safe g c =
    λ e ty s. (
    let is_whole : c.is_ok.result ≡ true = cc in
    let safe = when_ok c.finish.result (sym c.is_ok.ensures.value ∙ is_whole) c.finish.ensures.safe ty (ap (λ (x : FunctionState g.row.R.Denot). x.starting.present) c.loop-index.invariant.kept ∙ s) in
    subst (λ (x : FunctionState g.row.R.Denot). IsSafeFrom (g.R.WasmModuleResources.context x.resources) x.starting x.accepted ty) c.loop-index.invariant.kept safe)
