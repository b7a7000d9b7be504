use Rattle.std.proofs.Common.{rules, ◌≡◌, false, ◌++◌, ◌∷◌, [], ℕ, List, Some, refl, sym, ap, ◌∙◌, subst}
use Rattle.validate_resources.specs.Context.{ModuleContext}
use Rattle.validate_visit.specs.declared.op.Op.{Op}
use Rattle.validation_rules.specs.Operators.{operator}
use Rattle.validation_rules.specs.Static.{step}
use Rattle.validate_stacks.specs.State.{BodyState, body_context}
use Rattle.validate_operators.specs.Validator.{state}
use Rattle.validate_operators.proofs.Listed.{visited, not_visited, visit_offset}
use Rattle.wasmparser_validate.specs.Functions.{FunctionState, function_state, unmarked, IsStaticRun, Accepts, Refuses}
use Rattle.wasmparser_validate.proofs.Accepted.{sound_accepted, accepts}
use Rattle.wasmparser_validate.proofs.func.function.FuncValidator.visit.Given.{Over}
use Rattle.wasmparser_validate.proofs.func.function.FuncValidator.visit.Goals.{After-push_reserved}
use Rattle.wasmparser_validate.proofs.func.function.FuncValidator.visit.Goals as goal

module _ (g : Over) (c : After-push_reserved g) where
  abbrev md : ModuleContext
  md = g.R.WasmModuleResources.context c.self.inside.resources.now

  abbrev before : BodyState
  before = state c.self.inside.validator

  row_holds : step (body_context md before) (operator (body_context md before) c.args.op) before.present ≡ Some (state c.check.new.self).present
  row_holds = visited md c.args.op c.args.offset before (state c.check.new.self) c.in_ok-check.field-0 c.in_ok-check.ensures.row

  joins_list : c.push_reserved.new.self.items ≡ c.self.inside.accepted.items ++ (c.args.op, c.args.offset) ∷ []
  joins_list = ◌∙◌ {A = List (Op × ℕ)} c.push_reserved.ensures.items (ap (λ (l : List (Op × ℕ)). l ++ (c.args.op, c.args.offset) ∷ []) c.reserve.ensures.items)

pub returns-in_err-check-clause-refused : goal.returns-in_err-check-clause-refused
returns-in_err-check-clause-refused g c =
    let context = g.R.WasmModuleResources.context in
    let md = context c.self.inside.resources.now in
    let v = state c.self.inside.validator in
    let w = state c.check.new.self in
    let e = c.in_err-check.field-0.0 in
    let row = c.in_err-check.ensures.row in
    let refused : Refuses (context c.args.self.now.resources) (c.args.op, c.args.offset) (unmarked c.args.self.now) e = subst (λ (f : FunctionState g.row.R.Denot). Refuses (context f.resources) (c.args.op, c.args.offset) (unmarked f) e) c.self.view_is
    (record { row = λ _. not_visited md c.args.op c.args.offset v w e row; at_offset = visit_offset md c.args.op c.args.offset v w e row }) in
    search (rules, refused)

pub invariant_of-self-2 : goal.invariant_of-self-2
invariant_of-self-2 g c =
    let at = (goal.at.invariant_of-self-2 g c).After-push_reserved in
    let run = subst (λ (f : FunctionState g.row.R.Denot). IsStaticRun (g.R.WasmModuleResources.context f.resources) f) (sym c.self.view_is) c.requires.run in
    sound_accepted (md g at) c.self.inside.first_frame (before g at) (state c.check.new.self) _ _ (c.args.op, c.args.offset) _ _ c.check.ensures.kept (joins_list g at) (row_holds g at) refl c.self.invariant run c.check.ensures.valid

pub returns-clause-accepted : goal.returns-clause-accepted
returns-clause-accepted g c =
    let at = (goal.at.returns-clause-accepted g c).After-push_reserved in
    let new = function_state c.self.inside.resources.now c.self.inside.first_frame (state c.check.new.self) c.push_reserved.new.self.items false in
    subst (λ (f : FunctionState g.row.R.Denot). Accepts (g.R.WasmModuleResources.context f.resources) (c.args.op, c.args.offset) (unmarked f) new) c.self.view_is
    (accepts (md g at) c.self.inside.first_frame (before g at) (state c.check.new.self) _ _ (c.args.op, c.args.offset) _ _ c.check.ensures.kept (joins_list g at) (row_holds g at) refl c.self.inside.resources.now refl)
