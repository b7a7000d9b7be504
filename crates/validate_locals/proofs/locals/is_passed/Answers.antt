use Rattle.std.proofs.Common.{arith, ◌-◌}
use Rattle.validate_types.specs.declared.types.ValType.TheVariants.{I32}
use Rattle.validate_locals.proofs.Runs.{ends_before}
use Rattle.validate_locals.proofs.locals.is_passed.Goals as goal

pub returns-then-count-gt0 : goal.returns-then-count-gt0
returns-then-count-gt0 c = λ from rising passed j d l.
    let within = c.ends_below.ensures.within passed in
    let below = (c.ends_below.ensures.below (0, I32) within).0 passed in
    ends_before from c.args.runs.now c.args.index (c.args.count - 1) (0, I32) rising within below j d (omega (arith, l))
