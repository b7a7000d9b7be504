use Rattle.std.proofs.Common.{sym, ◌∙◌, ap}
use Rattle.std.specs.Option.{option_copied}
use Rattle.validate_stacks.specs.AtOnce.{body_given}
use Rattle.validate_stacks.specs.Attempts.{body_of}
use Rattle.validate_stacks.specs.StacksInside.{flat_of}
use Rattle.validate_stacks.proofs.Idle.{sound_given, idle_given, given_nothing}
use Rattle.validate_stacks.proofs.Undone.{popped_top, idle_log}
use Rattle.validate_stacks.proofs.stacks.Stacks.close_over_operands.Goals as goal

pub invariant_of-self : goal.invariant_of-self
invariant_of-self c =
    let s = flat_of c.self.inside in
    let f = c.in-Some.innermost.now in
    let fs = c.pop.new.self.items in
    let log = idle_log s c.self.view_is c.requires in
    let found = sym c.get.ensures ∙ ap option_copied c.in-Some.is in
    let whole = popped_top c.pop.result s.frames fs f found c.pop.ensures.items in
    rw (c.drop_ctrl.ensures.order, c.drop_ctrl.ensures.set_at_entry)
    (sound_given s f fs c.pop.new.self.room c.drop_ctrl.new.self.room log whole c.self.invariant)

pub returns : goal.returns
returns c =
    let s = flat_of c.self.inside in
    let f = c.in-Some.innermost.now in
    let fs = c.pop.new.self.items in
    let log = idle_log s c.self.view_is c.requires in
    let found = sym c.get.ensures ∙ ap option_copied c.in-Some.is in
    let whole = popped_top c.pop.result s.frames fs f found c.pop.ensures.items in
    rw (c.drop_ctrl.ensures.order, c.drop_ctrl.ensures.set_at_entry)
    (idle_given s f fs log whole c.self.invariant ∙ ap body_given (ap body_of c.self.view_is))

pub returns-in_default : goal.returns-in_default
returns-in_default c =
    let s = flat_of c.self.inside in
    rw (← c.self.view_is) (given_nothing s (sym c.get.ensures ∙ ap option_copied c.in_default.is))
