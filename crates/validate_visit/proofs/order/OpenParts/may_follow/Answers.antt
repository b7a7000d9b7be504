use Rattle.std.proofs.Common.{◌≡◌, ◌∙◌, nat_lt, sym, ap, arith}
use Rattle.validate_visit.specs.declared.op.Op.TheVariants.{Control}
use Rattle.validate_visit.specs.declared.op.ControlOp.TheVariants.{Nop}
use Rattle.validate_visit.specs.Order.{nesting, may_stand}
use Rattle.validate_visit.proofs.ReadParts.{ordered-front, follows, follows-as_nop}
use Rattle.validate_visit.proofs.NotedParts.{noted-stands, outermost_refuses}
use Rattle.validate_visit.proofs.order.OpenParts.may_follow.Goals as goal

pub returns-then-may_stand_anywhere-clause-answer : goal.returns-then-may_stand_anywhere-clause-answer
returns-then-may_stand_anywhere-clause-answer c =
    sym (follows-as_nop c.args.before.now c.args.op c.requires.nop (sym c.may_stand_anywhere.ensures ∙ c.if-may_stand_anywhere.true))

pub returns-then-self-gt0-clause-answer : goal.returns-then-self-gt0-clause-answer
returns-then-self-gt0-clause-answer c =
    let front = ordered-front c.args.before.now (Control Nop) c.requires.nop in
    let new = c.look_back.new.self in
    c.may_stand.ensures ∙ noted-stands new.depth new.noted new.notes _ (nesting c.args.op) c.if-self-gt0.true c.look_back.ensures.noted
    ∙ sym (follows c.args.before.now c.args.op front)

pub returns-else-self-gt0-clause-answer : goal.returns-else-self-gt0-clause-answer
returns-else-self-gt0-clause-answer c =
    let front = ordered-front c.args.before.now (Control Nop) c.requires.nop in
    let z : c.look_back.new.self.noted ≡ 0 = omega (arith, c.if-self-gt0.false) in
    ap (λ n. nat_lt 0 n) z ∙ sym (outermost_refuses (nesting c.args.op) (sym c.may_stand_anywhere.ensures ∙ c.if-may_stand_anywhere.false))
    ∙ ap (λ ks. may_stand ks (nesting c.args.op)) (sym (c.look_back.ensures.none z))
    ∙ sym (follows c.args.before.now c.args.op front)
