use Rattle.std.proofs.Common.{replicate, sym, subst}
use Rattle.validate_stacks.specs.Attempts.{Stacked}
use Rattle.validate_stacks.specs.Pops.{IsKept}
use Rattle.validate_stacks.specs.State.{IsValidBody}
use Rattle.validate_stacks.proofs.AtOnce.{popped_each_kept}
use Rattle.validate_operators.specs.Validator.{state, stacks_of}
use Rattle.validate_operators.proofs.CountedRuns.{run_popped, run_refused}
use Rattle.validate_operators.proofs.proposal.WasmProposalValidator.pop_run.Goals as goal

pub returns-in-Ok-clause-passed : goal.returns-in-Ok-clause-passed
returns-in-Ok-clause-passed g c =
    let md = g.R.WasmModuleResources.context c.args.self.now.resources.now in
    run_popped md _ c.args.n c.args.elem (stacks_of c.args.self.now.inner.now) _ _ c.in-Ok.ensures.exchanged

pub returns-in-Ok-clause-valid : goal.returns-in-Ok-clause-valid
returns-in-Ok-clause-valid g c =
    let md = g.R.WasmModuleResources.context c.args.self.now.resources.now in
    (popped_each_kept md (replicate c.args.n c.args.elem) (state c.args.self.now.inner.now) _ (run_popped md _ c.args.n c.args.elem (stacks_of c.args.self.now.inner.now) _ _ c.in-Ok.ensures.exchanged)).1 c.requires.visit.valid

pub returns-in-Ok-clause-kept : goal.returns-in-Ok-clause-kept
returns-in-Ok-clause-kept g c =
    let md = g.R.WasmModuleResources.context c.args.self.now.resources.now in
    (popped_each_kept md (replicate c.args.n c.args.elem) (state c.args.self.now.inner.now) _ (run_popped md _ c.args.n c.args.elem (stacks_of c.args.self.now.inner.now) _ _ c.in-Ok.ensures.exchanged)).0

pub returns-in-Err-clause-refused : goal.returns-in-Err-clause-refused
returns-in-Err-clause-refused g c no_memory =
    let md = g.R.WasmModuleResources.context c.args.self.now.resources.now in
    (run_refused md _ c.args.n c.args.elem (stacks_of c.args.self.now.inner.now) _ _ c.in-Err.ensures.exchanged).1 (c.refuse.ensures.told no_memory)

pub returns-in-Err-clause-valid : goal.returns-in-Err-clause-valid
returns-in-Err-clause-valid g c =
    let md = g.R.WasmModuleResources.context c.args.self.now.resources.now in
    let same = (run_refused md _ c.args.n c.args.elem (stacks_of c.args.self.now.inner.now) _ _ c.in-Err.ensures.exchanged).0 in
    c.refuse.ensures.valid md (subst (λ (x : Stacked). IsValidBody md x.body) (sym same) c.requires.visit.valid)

pub returns-in-Err-clause-kept : goal.returns-in-Err-clause-kept
returns-in-Err-clause-kept g c =
    let md = g.R.WasmModuleResources.context c.args.self.now.resources.now in
    let same = (run_refused md _ c.args.n c.args.elem (stacks_of c.args.self.now.inner.now) _ _ c.in-Err.ensures.exchanged).0 in
    subst (λ (x : Stacked). IsKept x.body c.refuse.new.self.body) same c.refuse.ensures.kept
