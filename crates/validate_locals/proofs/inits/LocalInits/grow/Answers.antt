use Rattle.std.proofs.Common.{arith}
use Rattle.validate_locals.proofs.Unmarked.{length-set_at_entry}
use Rattle.validate_locals.proofs.inits.LocalInits.grow.Goals as goal

pub returns-then-not-is_empty-clause-ok : goal.returns-then-not-is_empty-clause-ok
returns-then-not-is_empty-clause-ok c =
    let a = c.self.inside in
    omega (arith, c.in_ok-reserve.ensures.ok, c.saturating_add-unmarked.ensures, c.reserve.new.self.ok.0, c.reserve.new.self.small, length-set_at_entry a.first_non_default_local a.inits.items c.reserve.new.self.items)

pub returns-clause-ok : goal.returns-clause-ok
returns-clause-ok c =
    let a = c.self.inside in
    let marks = c.in_ok-self-inside.field-0 in
    omega (arith, c.in_ok-self-inside.ensures.capacity, c.in_ok-self-inside.ensures.len, c.max-room.ensures, c.max.ensures, c.saturating_add-unmarked.ensures, marks.ok.0, marks.small, length-set_at_entry a.first_non_default_local a.inits.items marks.items)
