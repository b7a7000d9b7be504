-- The operator is one of those of which none is made.
use Rattle.std.proofs.Common.{subst, sym, refl, ◌∙◌, ◌≡◌, Some, append-nil}
use Rattle.binary_operators.specs.Unread.{Unread}
use Rattle.validate_visit.specs.declared.op.ControlOp.TheVariants.{End}
use Rattle.validate_visit.specs.declared.op.NumericOp.TheVariants.{I32Const}
use Rattle.validate_visit.specs.declared.op.Op.TheVariants.{Control, Numeric, Reference}
use Rattle.validate_visit.specs.declared.op.ReferenceOp.TheVariants.{RefNull}
use Rattle.binary_modules.specs.Kept.{IsInteger, IsNull}
use Rattle.binary_modules.proofs.expressions.read_piece.Goals as goal

pub returns-then-branch-clause-read : goal.returns-then-branch-clause-read
returns-then-branch-clause-read c = (
  Some (Control End),
  c.in_ok-read_end.ensures.end c.if-branch.true c.args.canonical,
  c.depth_behind.ensures.depth,
  sym (append-nil c.args.functions.now.items),
)

pub returns-then-branch-2-clause-read : goal.returns-then-branch-2-clause-read
returns-then-branch-2-clause-read c =
    let same : c.read_end.new.reader ≡ c.args.reader.now = c.in_ok-read_end.ensures.passed c.if-branch.false in
    let P : Unread → Type 0 = λ r. IsInteger c.args.canonical r.left c.read_integer.new.reader.left in
    let i = subst P same (c.in_ok-read_integer.ensures.integer c.if-branch-2.true c.args.canonical) in
    (Some (Numeric (I32Const i.0)), i.1, refl, sym (append-nil c.args.functions.now.items))

pub returns-then-read_null-clause-read : goal.returns-then-read_null-clause-read
returns-then-read_null-clause-read c =
    let same : c.read_end.new.reader ≡ c.args.reader.now = c.in_ok-read_end.ensures.passed c.if-branch.false in
    let still : c.read_integer.new.reader ≡ c.read_end.new.reader = c.in_ok-read_integer.ensures.passed c.if-branch-2.false in
    let P : Unread → Type 0 = λ r. IsNull c.args.canonical r.left c.read_null.new.reader.left in
    let n = subst P (still ∙ same) (c.read_null.ensures.null c.if-read_null.true c.args.canonical) in
    (Some (Reference (RefNull n.0)), n.1, refl, sym (append-nil c.args.functions.now.items))
