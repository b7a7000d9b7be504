use Rattle.std.proofs.Common.{◌≡◌, ◌-◌, ◌+◌, ◌∙◌, ◌++◌, ap, ap₂, arith, length, replicate, take}
use Rattle.std.proofs.lemmas.List.{take_all}
use Rattle.validate_locals.specs.Inits.{Inits}
use Rattle.validate_locals.proofs.Unmarked.{more_declared, length-set_at_entry}
use Rattle.validate_locals.proofs.inits.LocalInits.mark.Goals as goal

pub returns-in_err-reserve-clause-succeeds : goal.returns-in_err-reserve-clause-succeeds
returns-in_err-reserve-clause-succeeds c =
    let a = c.self.inside in
    let set_at_entry = ap (λ (v : Inits). length v.set_at_entry) c.self.view_is in
    let room = ap (λ (v : Inits). v.declared_room) c.self.view_is in
    λ h. absurd (omega (arith, h, c.in_err-reserve.ensures.full, set_at_entry, room, length-set_at_entry a.first_non_default_local a.inits.items a.local_inits.items, a.local_inits.ok.0))

-- the marks after the declaration
filled : (c : goal.After-unwrap) → c.resize.new.self.items ≡ c.self.inside.local_inits.items ++ replicate c.args.count c.args.set
filled c =
    let a = c.self.inside in
    let written = rw c.unwrap.ensures at c.resize.ensures.items in
    let room = c.reserve.new.self.ok.0 in
    let kept : take (c.len-len.result + c.args.count) c.reserve.new.self.items ≡ a.local_inits.items = take_all _ _ (omega (arith, c.len-len.ensures, room)) ∙ c.in_ok-reserve.ensures.items in
    let more : c.len-len.result + c.args.count - c.reserve.new.self.len ≡ c.args.count = omega (arith, c.len-len.ensures) in
    written ∙ ap₂ (λ l n. l ++ replicate n c.args.set) kept more

pub invariant_of-self-2 : goal.invariant_of-self-2
invariant_of-self-2 c =
    let a = c.self.inside in
    rw (filled c) (more_declared a.first_non_default_local a.inits.items a.local_inits.items (replicate c.args.count c.args.set) c.self.invariant).all

pub returns-clause-declared : goal.returns-clause-declared
returns-clause-declared c =
    let a = c.self.inside in
    rw (filled c) ((more_declared a.first_non_default_local a.inits.items a.local_inits.items (replicate c.args.count c.args.set) c.self.invariant).set_at_entry ∙ ap (λ (v : Inits). v.set_at_entry ++ replicate c.args.count c.args.set) c.self.view_is)
