use Rattle.std.proofs.Common.{Some, length, sym, ap, ◌∙◌, arith}
use Rattle.std.specs.Option.{option_copied}
use Rattle.validate_stacks.specs.Attempts.{body_of}
use Rattle.validate_stacks.specs.Steps.{found_after_pops_in_body}
use Rattle.validate_stacks.specs.StacksInside.{flat_of}
use Rattle.validate_stacks.proofs.Cuts.{height_within}
use Rattle.validate_stacks.proofs.Looks.{none_found, own_found, below_found}
use Rattle.validate_stacks.proofs.stacks.Stacks.operand_found.Goals as goal

pub returns-in_err-frame : goal.returns-in_err-frame
returns-in_err-frame c =
    let s = flat_of c.self.inside in
    let there = sym c.get.ensures ∙ ap option_copied c.in_err-frame.was in
    c.from_residual.ensures
    ∙ (none_found s.frames s.operands s.order c.args.depth there
    ∙ ap (found_after_pops_in_body c.args.depth) (ap body_of c.self.view_is))

pub overflow_sub-len : goal.overflow_sub-len
overflow_sub-len c =
    let s = flat_of c.self.inside in
    let h =
    height_within s.frames c.in_ok-frame.frame.now (length s.operands) (length s.order)
    (sym c.get.ensures ∙ ap option_copied c.in_ok-frame.was) c.self.invariant.shape in
    omega (arith, h, c.len.ensures.value)

pub returns-then-depth-len : goal.returns-then-depth-len
returns-then-depth-len c =
    let s = flat_of c.self.inside in
    let there = sym c.get.ensures ∙ ap option_copied c.in_ok-frame.was in
    c.copied.ensures
    ∙ c.get-then-depth-len.ensures
    ∙ (own_found s.frames c.in_ok-frame.frame.now s.operands s.order c.args.depth there
    (omega (arith, c.len.ensures.value, c.if-depth-len.true))
    ∙ ap (found_after_pops_in_body c.args.depth) (ap body_of c.self.view_is))

pub returns-then-frame : goal.returns-then-frame
returns-then-frame c =
    let s = flat_of c.self.inside in
    let there = sym c.get.ensures ∙ ap option_copied c.in_ok-frame.was in
    let e =
    below_found s.frames c.in_ok-frame.frame.now s.operands s.order c.args.depth there
    (omega (arith, c.len.ensures.value, c.if-depth-len.false)) in
    ap Some c.of.ensures ∙ rw c.if-frame.true at e ∙ ap (found_after_pops_in_body c.args.depth) (ap body_of c.self.view_is)

pub returns-else-frame : goal.returns-else-frame
returns-else-frame c =
    let s = flat_of c.self.inside in
    let there = sym c.get.ensures ∙ ap option_copied c.in_ok-frame.was in
    let e =
    below_found s.frames c.in_ok-frame.frame.now s.operands s.order c.args.depth there
    (omega (arith, c.len.ensures.value, c.if-depth-len.false)) in
    rw c.if-frame.false at e ∙ ap (found_after_pops_in_body c.args.depth) (ap body_of c.self.view_is)
