-- The byte is that of an `end`, or there is none.
use Rattle.std.proofs.lemmas.Result.{IfOk-weaker, IfErr-weaker}
use Rattle.binary_modules.proofs.Pieces.{end_piece, ended_piece}
use Rattle.binary_modules.proofs.expressions.read_end.Goals as goal

pub returns-clause-end : goal.returns-clause-end
returns-clause-end c =
    IfOk-weaker c.read_if.result _ _ (λ is_end read is types. end_piece types c.args.reader.now.left c.read_if.new.self.left (read is)) c.read_if.ensures.read

pub returns-clause-refused : goal.returns-clause-refused
returns-clause-refused c =
    IfErr-weaker c.read_if.result _ _ (λ e ended types. ended_piece types c.args.reader.now.left ended) c.read_if.ensures.ended
