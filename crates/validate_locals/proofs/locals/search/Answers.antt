use Rattle.validate_locals.proofs.Runs.{ends_before, place_within}
use Rattle.validate_locals.proofs.locals.search.Goals as goal

pub loop-place-init : goal.loop-place-init
loop-place-init c =
    let q = c.requires.within in
    record {
      passed = c.requires.passed;
      within = place_within q.from c.args.runs.now c.args.index c.args.from q.rising q.begun q.within c.requires.passed;
    }

pub loop-place-preserved : goal.loop-place-preserved
loop-place-preserved c =
    let q = c.requires.within in
    let so_far = c.loop-place.invariant in
    let passed = ends_before q.from c.args.runs.now c.args.index c.loop-place.place _ q.rising so_far.within c.loop-place-test.true in
    record {
      passed = passed;
      within = place_within q.from c.args.runs.now c.args.index _ q.rising q.begun q.within passed;
    }
