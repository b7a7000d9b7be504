use Rattle.std.proofs.Common.{ap, ◌∙◌, subst}
use Rattle.validate_operators.specs.Runs.{IsAcceptedBody}
use Rattle.validate_operators.specs.Validator.{state}
use Rattle.validate_operators.proofs.Listed.{safe_accepted}
use Rattle.wasmparser_validate.specs.Functions.{FunctionState, state_from}
use Rattle.validate_operators.proofs.Accepted.{accepted_whole}
use Rattle.wasmparser_validate.proofs.func.function.FuncValidator.finish.Goals as goal

pub returns-clause-rows : goal.returns-clause-rows
returns-clause-rows g c =
    let context = g.R.WasmModuleResources.context in
    let inside = c.self.inside in
    let v = state inside.validator in
    let none = ap (λ (f : FunctionState g.row.R.Denot). f.present.frames) c.self.view_is ∙ c.has_open_frame.ensures.0 c.if-has_open_frame.false in
    subst (λ (f : FunctionState g.row.R.Denot). IsAcceptedBody (context f.resources) f.starting f.accepted) c.self.view_is
    (accepted_whole (context inside.resources.now) (state_from inside.first_frame v) inside.accepted.items v.present (c.self.invariant.run c.if-self.false) none)

pub returns-clause-safe : goal.returns-clause-safe
returns-clause-safe g c =
    let f = c.args.self.now in
    λ ty s. safe_accepted (g.R.WasmModuleResources.context f.resources) f.starting f.accepted ty (g.met.R.WasmModuleResources.lawful f.resources) s (returns-clause-rows g c)
