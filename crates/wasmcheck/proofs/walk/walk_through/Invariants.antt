use Rattle.std.proofs.Common.{◌≡◌, None}
use Rattle.validate_operators.specs.Validator.{state}
use Rattle.validate_resources.specs.Kept.{declared_lists}
use Rattle.validate_resources.specs.Lists.{context_of}
use Rattle.validate_stacks.specs.State.{IsValidBody}
use Rattle.wasmcheck.proofs.walk.walk_through.Given as goal

abbrev pub invariant-loop : goal.invariant-loop
invariant-loop l =
    record {
      valid : IsValidBody (context_of (declared_lists l.resources)) (state l.v);
      idle : (state l.v).undone ≡ None;
    }
