use Rattle.std.proofs.Common.{◌≡◌, Bool, drop}
use Rattle.validate_types.specs.Signatures.{AnswersBy, is_each_below}
use Rattle.validate_types.specs.declared.types.ValType.{ValType}
use Rattle.validate_types.proofs.signature.are_below.Given as goal

abbrev pub invariant-loop-index : goal.invariant-loop-index
invariant-loop-index g l =
    (below : ValType → ValType → Bool) → AnswersBy (goal.F-post g l.sub) below l.types l.above → is_each_below below (drop l.index l.types) (drop l.index l.above) ≡ is_each_below below l.types l.above
