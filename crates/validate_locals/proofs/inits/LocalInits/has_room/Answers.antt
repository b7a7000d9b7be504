use Rattle.std.proofs.Common.{◌≤◌, ◌-◌, ap, arith, length}
use Rattle.std.proofs.lemmas.Bool.Decides.{nat_tests}
use Rattle.validate_locals.specs.Inits.{Inits}
use Rattle.validate_locals.proofs.Unmarked.{length-set_at_entry}
use Rattle.validate_locals.proofs.inits.LocalInits.has_room.Goals as goal

pub returns-else-unmarked-room : goal.returns-else-unmarked-room
returns-else-unmarked-room c =
    let a = c.self.inside in
    let declared = ap (λ (v : Inits). length v.set_at_entry) c.self.view_is in
    let room = ap (λ (v : Inits). v.declared_room) c.self.view_is in
    let all = length-set_at_entry a.first_non_default_local a.inits.items a.local_inits.items in
    let free = c.capacity.result - c.len.result in (
      λ t.
          let fits : a.first_non_default_local ≤ free = grind (arith, nat_tests, t) in
          absurd (omega (arith, fits, c.if-unmarked-room.false)),
      λ h. absurd (omega (arith, h, c.if-unmarked-room.false, c.capacity.ensures, c.len.ensures, declared, room, all, a.local_inits.ok.0)),
    )

pub returns-then-unmarked-room : goal.returns-then-unmarked-room
returns-then-unmarked-room c =
    let a = c.self.inside in
    let declared = ap (λ (v : Inits). length v.set_at_entry) c.self.view_is in
    let room = ap (λ (v : Inits). v.declared_room) c.self.view_is in
    let all = length-set_at_entry a.first_non_default_local a.inits.items a.local_inits.items in
    let free = c.capacity.result - c.len.result - a.first_non_default_local in (
      λ t.
          let fits : c.args.count ≤ free = grind (arith, nat_tests, t) in
          omega (arith, fits, c.if-unmarked-room.true, c.capacity.ensures, c.len.ensures, declared, room, all, a.local_inits.ok.0),
      λ h.
          let fits : c.args.count ≤ free = omega (arith, h, c.if-unmarked-room.true, c.capacity.ensures, c.len.ensures, declared, room, all, a.local_inits.ok.0) in
          grind (arith, nat_tests, fits),
    )
