use Rattle.type_safety.proofs.Blocks.{blocks_keep_locals}
use Rattle.type_safety.proofs.blocks_law.Goals as goal

pub returns : goal.returns
returns c cx = blocks_keep_locals cx
