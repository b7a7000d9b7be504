use Rattle.std.proofs.Common.{◌≡◌, ◌∙◌, ◌+◌, ◌++◌, ap, arith, length, replicate}
use Rattle.std.proofs.lemmas.List.{length-replicate}
use Rattle.validate_locals.proofs.Runs.{grown-far, full_first, run-end, Grown}
use Rattle.validate_locals.proofs.locals.Locals.define_far.Goals as goal

more : (c : goal.After-self-1) → Grown c.self.inside.first.items c.self.inside.uncached.items c.self.inside.num_locals c.self.inside.first.items c.add_run.new.runs.items (replicate c.args.count c.args.ty.now)
more c =
    let a = c.self.inside in
    let was = c.self.invariant in
    let l = length-replicate c.args.count c.args.ty.now in
    let declared : a.num_locals ≡ length c.args.self.now = was.counted ∙ ap length c.self.view_is in
    let full = full_first a.first.items a.uncached.items a.num_locals was (omega (arith, declared, c.requires.far)) in
    let longer = rw c.in_ok-make_room.ensures.items at c.add_run.ensures.added in
    grown-far a.first.items a.uncached.items c.add_run.new.runs.items a.num_locals (replicate c.args.count c.args.ty.now) was
    (λ h. absurd (omega (arith, full, h)))
    (longer (length a.first.items) c.args.count was.rising c.requires.some (omega (arith, c.requires.some, run-end a.first.items a.uncached.items a.num_locals was)))
    (omega (arith, l, declared, c.requires.within))

pub invariant_of-self-2 : goal.invariant_of-self-2
invariant_of-self-2 c =
    let all : c.self.inside.num_locals + length (replicate c.args.count c.args.ty.now) ≡ c.self.inside.num_locals + c.args.count = omega (arith, length-replicate c.args.count c.args.ty.now) in
    rw all at (more c).locals

pub returns-clause-defined : goal.returns-clause-defined
returns-clause-defined c = (more c).types ∙ ap (λ ts. ts ++ replicate c.args.count c.args.ty.now) c.self.view_is
