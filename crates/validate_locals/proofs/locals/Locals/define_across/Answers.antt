use Rattle.std.proofs.Common.{ℕ, ◌≡◌, ◌∙◌, ◌-◌, ◌+◌, ◌++◌, ap, ap₂, arith, length, replicate, take}
use Rattle.std.proofs.lemmas.List.{take_all, length-replicate, replicate-append-replicate}
use Rattle.validate_locals.specs.Runs.{max_first}
use Rattle.validate_locals.proofs.Runs.{grown, near_count, Grown}
use Rattle.validate_locals.proofs.locals.Locals.define_across.Goals as goal

-- how many of them are held plainly
abbrev near : goal.After-self-1 → ℕ
near c = max_first - length c.self.inside.first.items

held : (c : goal.After-self-1) → c.resize.new.self.items ≡ c.self.inside.first.items ++ replicate (near c) c.args.ty.now
held c =
    let a = c.self.inside in
    let kept : take max_first a.first.items ≡ a.first.items = take_all _ _ c.self.invariant.within_limit in
    let added : max_first - a.first.len ≡ near c = omega (arith, a.first.ok.0) in
    c.in_ok-resize.ensures.items ∙ ap₂ (λ ts n. ts ++ replicate n c.args.ty.now) kept added

more : (c : goal.After-self-1) → Grown c.self.inside.first.items c.self.inside.uncached.items c.self.inside.num_locals c.resize.new.self.items c.add_run.new.runs.items (replicate c.args.count c.args.ty.now)
more c =
    let a = c.self.inside in
    let ty = c.args.ty.now in
    let count = c.args.count in
    let was = c.self.invariant in
    let declared : a.num_locals ≡ length c.args.self.now = was.counted ∙ ap length c.self.view_is in
    let first = near_count a.first.items a.uncached.items a.num_locals was (omega (arith, declared, c.requires.near)) in
    let l = length-replicate (near c) ty in
    let r = length-replicate (count - near c) ty in
    let room : length a.first.items + length (replicate (near c) ty) ≡ max_first = omega (arith, l, was.within_limit) in
    let all : replicate (near c) ty ++ replicate (count - near c) ty ≡ replicate count ty = replicate-append-replicate (near c) (count - near c) ty ∙ ap (λ k. replicate k ty) (omega (arith, first, declared, c.requires.far)) in
    let longer = rw c.in_ok-make_room.ensures.items at c.add_run.ensures.added in
    rw (held c, ← all) (grown a.first.items a.uncached.items c.add_run.new.runs.items a.num_locals (replicate (near c) ty) (replicate (count - near c) ty) was
    (omega (arith, room))
    (λ h. absurd (omega (arith, room, h)))
    (λ rising e. longer (length (a.first.items ++ replicate (near c) ty)) (count - near c) rising (omega (arith, first, declared, c.requires.far)) (omega (arith, e, l, first, declared, c.requires.far)))
    (omega (arith, l, r, first, declared, c.requires.far, c.requires.within)))

pub invariant_of-self-2 : goal.invariant_of-self-2
invariant_of-self-2 c =
    let all : c.self.inside.num_locals + length (replicate c.args.count c.args.ty.now) ≡ c.self.inside.num_locals + c.args.count = omega (arith, length-replicate c.args.count c.args.ty.now) in
    rw all at (more c).locals

pub returns-clause-defined : goal.returns-clause-defined
returns-clause-defined c = (more c).types ∙ ap (λ ts. ts ++ replicate c.args.count c.args.ty.now) c.self.view_is
