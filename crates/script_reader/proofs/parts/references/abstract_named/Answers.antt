use Rattle.std.proofs.Common.{◌≢◌, arith, ap, get_or, length, subst}
use Rattle.validate_types.specs.Abstract.{heap_name}
use Rattle.validate_types.specs.declared.heap.AbstractHeapType.TheVariants.{Func}
use Rattle.script_reader.proofs.ReferenceNames.{none_named}
use Rattle.script_reader.proofs.parts.references.abstract_named.Goals as goal

pub returns-clause-other : goal.returns-clause-other
returns-clause-other c ty =
    let all = c.loop-ty.invariant.all in
    let count = ap length all in
    let past = c.loop-ty-test.false in
    none_named c.args.nullable c.args.name.now (λ k within. subst (λ types. c.args.name.now ≢ heap_name c.args.nullable (get_or types k Func)) all (c.loop-ty.invariant.none k (omega (arith, within, count, past)))) ty
