use Rattle.std.proofs.Common.{◌∙◌, ap}
use Rattle.validate_stacks.specs.Attempts.{stacks_begun}
use Rattle.validate_stacks.specs.StacksInside.{flat_of}
use Rattle.validate_stacks.proofs.Undone.{idle_log, sound_begun, begun_is}
use Rattle.validate_stacks.proofs.stacks.Stacks.begin_try_op.Goals as goal

pub begin-requires : goal.begin-requires
begin-requires c = idle_log (flat_of c.self.inside) c.self.view_is c.requires

pub invariant_of-self : goal.invariant_of-self
invariant_of-self c =
    let s = flat_of c.self.inside in
    let begun = rw c.height-height.ensures.value at c.begin.ensures in
    sound_begun s c.begin.new.self begun c.height-height.ensures.within c.height-height.ensures.fresh
    c.self.invariant

pub returns : goal.returns
returns c =
    let s = flat_of c.self.inside in
    let begun = rw c.height-height.ensures.value at c.begin.ensures in
    begun_is s c.begin.new.self begun ∙ ap stacks_begun c.self.view_is
