use Rattle.std.proofs.Common.{drop, sym, ◌∙◌, ap}
use Rattle.std.specs.Option.{option_copied}
use Rattle.validate_stacks.specs.Attempts.{body_of}
use Rattle.validate_stacks.specs.Steps.{body_marked}
use Rattle.validate_stacks.specs.StacksInside.{flat_of}
use Rattle.validate_stacks.proofs.Looks.{mark_none, mark_dead}
use Rattle.validate_stacks.proofs.Undone.{first_is, marked_is, sound_mark}
use Rattle.validate_stacks.proofs.stacks.Stacks.mark.Goals as goal

pub returns-in_default : goal.returns-in_default
returns-in_default c =
    let s = flat_of c.self.inside in
    rw (← c.self.view_is) (mark_none s (sym c.get.ensures ∙ ap option_copied c.in_default.is))

pub returns-then-innermost : goal.returns-then-innermost
returns-then-innermost c =
    let s = flat_of c.self.inside in
    let found = sym c.get.ensures ∙ ap option_copied c.in-Some.is in
    rw (← c.self.view_is) (mark_dead s c.in-Some.innermost.now found c.if-innermost.true)

pub invariant_of-self : goal.invariant_of-self
invariant_of-self c =
    let s = flat_of c.self.inside in
    let f = c.in-Some.innermost.now in
    let whole = first_is s.frames f (sym c.get.ensures ∙ ap option_copied c.in-Some.is) in
    rw (c.set_unreachable.ensures, c.replace_top.ensures.items, c.replace_top.ensures.room)
    (sound_mark s f (drop 1 s.frames) whole c.if-innermost.false c.self.invariant)

pub returns : goal.returns
returns c =
    let s = flat_of c.self.inside in
    let f = c.in-Some.innermost.now in
    let whole = first_is s.frames f (sym c.get.ensures ∙ ap option_copied c.in-Some.is) in
    rw (c.set_unreachable.ensures, c.replace_top.ensures.items)
    (marked_is s f (drop 1 s.frames) whole c.if-innermost.false ∙ ap body_marked (ap body_of c.self.view_is))
