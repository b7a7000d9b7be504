use Rattle.type_safety.proofs.Counting.{delimiters_are_found}
use Rattle.type_safety.proofs.delimiters_law.Goals as goal

pub returns : goal.returns
returns c cx = delimiters_are_found cx
