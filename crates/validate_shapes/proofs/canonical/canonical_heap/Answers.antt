use Rattle.std.proofs.lemmas.Result.{IfOk-weaker}
use Rattle.validate_shapes.proofs.canonical.canonical_heap.Goals as goal

pub returns-in-Ok-clause-valid : goal.returns-in-Ok-clause-valid
returns-in-Ok-clause-valid g c =
    (g.met.R.WasmModuleResources.lawful c.args.resources.now).checked_heap _ _ c.in-Ok.ensures.canonical

pub returns-then-not-may_allocate-clause-valid : goal.returns-then-not-may_allocate-clause-valid
returns-then-not-may_allocate-clause-valid g c =
    let checked = (g.met.R.WasmModuleResources.lawful c.args.resources.now).checked_heap in
    IfOk-weaker c.known.result _ _ (λ h found. checked _ _ (rw found at c.canonical_heap_type.ensures)) c.known.ensures.found
