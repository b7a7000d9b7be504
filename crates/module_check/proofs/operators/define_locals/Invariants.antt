-- The groups can be defined exactly if those that are left can, in the state that those so far lead to.
use Rattle.std.proofs.Common.{◌-◌, ◌↔◌, ℕ, List}
use Rattle.validate_operators.specs.Validator.{state}
use Rattle.validate_stacks.specs.State.{BodyState, IsStarting}
use Rattle.module_check.proofs.Groups.{DefinesMore}
use Rattle.module_check.proofs.operators.define_locals.Given as goal

abbrev pub invariant-loop : goal.invariant-loop
invariant-loop g l =
    let md = g.R.WasmModuleResources.context l.resources in
    record {
      starting : IsStarting md (state l.v);
      same : (rest : List ℕ) (w : BodyState) → DefinesMore md l.fn.canonical l.groups l.initial.reader.left rest (state l.fn.v) w
          ↔ DefinesMore md l.fn.canonical (l.groups - l.counter) l.reader.left rest (state l.v) w;
    }
