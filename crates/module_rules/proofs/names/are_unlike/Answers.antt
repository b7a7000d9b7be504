use Rattle.module_rules.proofs.Distinct.{unlike-before}
use Rattle.module_rules.proofs.names.are_unlike.Goals as goal

pub returns : goal.returns
returns c = λ yes. unlike-before c.args.numbers.now c.sort_unstable.new.self c.sort_unstable.ensures.permutation (c.is_increasing.ensures yes)
