use Rattle.std.proofs.Common.{arith, ◌≡◌, inl, inr, slice_index_or}
use Rattle.std.proofs.lemmas.Bool.{cases_lt}
use Rattle.std.proofs.lemmas.Bool.Decides.{nat_tests}
use Rattle.validate_types.specs.declared.types.ValType.TheVariants.{I32}
use Rattle.validate_locals.proofs.Runs.{type_found, place_within, ends_before}
use Rattle.validate_locals.proofs.locals.run_at.Goals as goal

pub returns-in_default-clause-found : goal.returns-in_default-clause-found
returns-in_default-clause-found c = λ from rising begun.
    type_found from c.args.runs.now c.args.index c.search.result (0, I32) rising begun c.search.ensures.passed (λ _. c.search.ensures.reached (0, I32))

pub returns-then-not-is_passed-clause-found : goal.returns-then-not-is_passed-clause-found
returns-then-not-is_passed-clause-found c = λ from rising begun.
    let found = c.search-then-not-is_passed in
    type_found from c.args.runs.now c.args.index found.result (0, I32) rising begun found.ensures.passed (λ _. found.ensures.reached (0, I32))

pub bounds-runs-before-else-not-is_passed : goal.bounds-runs-before-else-not-is_passed
bounds-runs-before-else-not-is_passed c =
    let q = c.requires in
    place_within q.from c.args.runs.now c.args.index _ q.rising q.begun q.within (c.is_passed.ensures q.from q.rising c.if-not-is_passed.false)

pub bounds-runs-before : goal.bounds-runs-before
bounds-runs-before c =
    let q = c.requires in
    place_within q.from c.args.runs.now c.args.index _ q.rising q.begun q.within (c.is_passed.ensures q.from q.rising c.if-not-is_passed.false)

pub search-requires-2-clause-passed : goal.search-requires-2-clause-passed
search-requires-2-clause-passed c =
    let q = c.requires in
    let passed = c.is_passed.ensures q.from q.rising c.if-not-is_passed.false in
    let runs = c.args.runs.now in
    let index = c.args.index in
    let before = c.in-Some.before.now in
    let here = c.index-runs-before.result in
    let within = place_within q.from runs index before q.rising q.begun q.within passed in
    λ j d l. elim (cases_lt (slice_index_or runs before here).0 index) [
      | inl below ↦
          let one : c.from.result ≡ 1 = grind (arith, nat_tests, below, c.from.ensures) in
          ends_before q.from runs index before here q.rising within below j d (omega (arith, l, one))
      | inr reached ↦
          let none : c.from.result ≡ 0 = grind (arith, nat_tests, reached, c.from.ensures) in
          passed j d (omega (arith, l, none))
    ]

pub returns-clause-found : goal.returns-clause-found
returns-clause-found c = λ from rising begun.
    type_found from c.args.runs.now c.args.index c.search-2.result (0, I32) rising begun c.search-2.ensures.passed (λ _. c.search-2.ensures.reached (0, I32))
