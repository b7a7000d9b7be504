-- No byte is left, or no number is behind the first.
use Rattle.std.proofs.lemmas.Result.{err_from_is_err_and}
use Rattle.binary_modules.proofs.Pieces.{ended_piece, no_integer_piece}
use Rattle.binary_modules.proofs.expressions.read_integer.Goals as goal

pub returns-in_err-read_if-clause-refused : goal.returns-in_err-read_if-clause-refused
returns-in_err-read_if-clause-refused c =
    let p = err_from_is_err_and c.from_residual.result c.from_residual.ensures.1 in
    rw p.1 (λ types. ended_piece types c.args.reader.now.left c.in_err-read_if.ensures.ended)

pub returns-in_err-_value-clause-refused : goal.returns-in_err-_value-clause-refused
returns-in_err-_value-clause-refused c =
    let p = err_from_is_err_and c.from_residual-in_err-_value.result c.from_residual-in_err-_value.ensures.1 in
    rw p.1 (λ types. no_integer_piece types c.args.reader.now.left c.read_if.new.self.left (c.in_ok-read_if.ensures.read c.if-not-branch.false) c.in_err-_value.ensures.refused)
