use Rattle.std.proofs.Common.{not, ◌∙◌, ap, arith}
use Rattle.validate_stacks.specs.Attempts.{body_of}
use Rattle.validate_stacks.specs.State.{BodyState}
use Rattle.validate_stacks.specs.StacksInside.{flat_of}
use Rattle.validation_rules.specs.Static.{is_local_set, locals_set}
use Rattle.validate_stacks.proofs.Marks.{set_is}
use Rattle.validate_stacks.proofs.stacks.Stacks.is_uninit.Goals as goal

pub returns : goal.returns
returns c =
    let s = flat_of c.self.inside in
    let declared = rw (← c.self.view_is) at c.requires in
    let i = c.args.local_index in
    c.is_uninit.ensures.declared (omega (arith, declared, c.self.invariant.marks))
    ∙ ap not
    (set_is s i c.self.invariant.shape
    ∙ ap (λ (v : BodyState). is_local_set v.set_at_entry (locals_set v.present.frames) i)
    (ap body_of c.self.view_is))
