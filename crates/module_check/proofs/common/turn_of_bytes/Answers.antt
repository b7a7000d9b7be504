-- What is behind these bytes is left.
use Rattle.std.proofs.Common.{sym, subst}
use Rattle.binary_operators.specs.Unread.{Unread}
use Rattle.module_check.specs.FirstBytes.{BeginLike}
use Rattle.module_check.proofs.common.turn_of_bytes.Goals as goal

pub open_turn-requires-clause-like : goal.open_turn-requires-clause-like
open_turn-requires-clause-like g c = subst (λ (u : Unread). BeginLike c.args.reader.now.left c.args.op u.left) (sym c.behind-rest.ensures) c.requires.like.like

pub open_turn-requires-clause-closes_none : goal.open_turn-requires-clause-closes_none
open_turn-requires-clause-closes_none g c = c.requires.like.closes_none
