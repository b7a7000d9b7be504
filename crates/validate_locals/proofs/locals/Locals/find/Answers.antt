use Rattle.std.proofs.Common.{arith, ◌∙◌, Some, sym, ap, length, slice_get}
use Rattle.std.proofs.lemmas.Option.{slice_get-get_or}
use Rattle.validate_locals.proofs.Runs.{run-end, get-first, get-further}
use Rattle.validate_locals.proofs.locals.Locals.find.Goals as goal

pub returns-in-Some : goal.returns-in-Some
returns-in-Some c =
    let a = c.self.inside in
    let found = rw c.deref.ensures.value at c.in-Some.ensures.lookup.3 in
    ap Some (found.1 c.in-Some.ty.now)
    ∙ sym (slice_get-get_or a.first.items c.args.index c.in-Some.ty.now found.0)
    ∙ get-first a.first.items a.uncached.items c.args.index found.0
    ∙ ap (λ ts. slice_get ts c.args.index) c.self.view_is

pub find_far-requires : goal.find_far-requires
find_far-requires c =
    let a = c.self.inside in
    let past = rw c.deref.ensures.value at c.in_default.ensures.lookup.3 in
    let ended = run-end a.first.items a.uncached.items a.num_locals c.self.invariant in
    rw c.deref-2.ensures.value record {
      from = length a.first.items;
      rising = c.self.invariant.rising;
      begun = past;
      within = omega (arith, ended, c.if-index-self.false);
    }

pub returns : goal.returns
returns c =
    let a = c.self.inside in
    let past = rw c.deref.ensures.value at c.in_default.ensures.lookup.3 in
    let run = (rw c.deref-2.ensures.value at c.find_far.ensures) (length a.first.items) c.self.invariant.rising past in
    run
    ∙ get-further a.first.items a.uncached.items c.args.index past
    ∙ ap (λ ts. slice_get ts c.args.index) c.self.view_is
