use Rattle.std.proofs.Common.{◌≡◌, ◌+◌, ◌<◌, suc, true, false, length, arith, refl, sym, ◌∙◌}
use Rattle.validate_types.proofs.Signatures.{got, other_count, compared, all_compared}
use Rattle.validate_types.proofs.signature.are_below.Goals as goal

pub returns-then-types-above : goal.returns-then-types-above
returns-then-types-above g c = λ below answers. other_count below c.args.types.now c.args.above.now c.if-types-above.true

pub loop-index-init : goal.loop-index-init
loop-index-init g c = λ below answers. refl

pub returns-then-not-sub : goal.returns-then-not-sub
returns-then-not-sub g c = λ below answers.
    let i = c.loop-index.index in
    let ts = c.args.types.now in
    let us = c.args.above.now in
    let within : i < length us = omega (arith, c.loop-index-test.true, c.if-types-above.false) in
    let told = answers i _ _ c.sub.result (got i ts c.loop-index-test.true) (got i us within) c.sub.ensures in
    sym (compared below false i ts us c.loop-index-test.true c.if-types-above.false (sym c.if-not-sub.true ∙ told)) ∙ c.loop-index.invariant below answers

pub loop-index-preserved : goal.loop-index-preserved
loop-index-preserved g c = λ below answers.
    let i = c.loop-index.index in
    let ts = c.args.types.now in
    let us = c.args.above.now in
    let within : i < length us = omega (arith, c.loop-index-test.true, c.if-types-above.false) in
    let told = answers i _ _ c.sub.result (got i ts c.loop-index-test.true) (got i us within) c.sub.ensures in
    let next : i + 1 ≡ suc i = omega arith in
    let here = compared below true i ts us c.loop-index-test.true c.if-types-above.false (sym c.if-not-sub.false ∙ told) in
    rw next (sym here ∙ c.loop-index.invariant below answers)

pub returns : goal.returns
returns g c = λ below answers. all_compared below c.loop-index.index c.args.types.now c.args.above.now c.loop-index-test.false c.if-types-above.false ∙ c.loop-index.invariant below answers
