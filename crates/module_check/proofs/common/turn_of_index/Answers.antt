-- What is read behind the code makes the operator that is handed in.
use Rattle.std.proofs.Common.{◌∷◌, ap, sym, ◌∙◌}
use Rattle.binary_operators.specs.Unread.{Unread}
use Rattle.validate_visit.specs.declared.op.Op.TheVariants.{Control}
use Rattle.module_check.proofs.Forms.{index_told}
use Rattle.module_check.proofs.common.turn_of_index.Goals as goal

pub open_turn-requires-clause-like : goal.open_turn-requires-clause-like
open_turn-requires-clause-like g c =
    let begins = c.requires.begins ∙ ap (λ (u : Unread). c.args.code ∷ u.left) (sym c.behind-rest.ensures) in
    index_told begins (Control c.in-Some-indexed.op) c.in-Some.index c.requires.form c.in-Some.ensures c.in-Some-indexed.ensures.made
