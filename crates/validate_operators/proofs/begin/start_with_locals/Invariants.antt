use Rattle.std.proofs.Common.{take}
use Rattle.validate_stacks.specs.State.{IsStarting}
use Rattle.validate_operators.specs.Validator.{state}
use Rattle.validate_operators.specs.Begin.{HasLocals, without_places}
use Rattle.validate_operators.proofs.begin.start_with_locals.Given as goal

-- The validator is in a starting state for the lookup, with the locals of the groups so far.
abbrev pub invariant-loop-local : goal.invariant-loop-local
invariant-loop-local g l =
    let md = g.R.WasmModuleResources.context l.resources in
    record {
      starting : IsStarting md (state l.v);
      has_locals : HasLocals md l.features l.fn.kind (without_places (take l.local-index l.locals)) (state l.v);
    }
