-- Each part can't be read, or isn't as many.
use Rattle.std.proofs.Common.{arith, length, ◌≡◌}
use Rattle.std.specs.Prelude.{option_map}
use Rattle.std.proofs.lemmas.Result.{err_from_is_err_and}
use Rattle.binary_modules.specs.SectionList.{told_sections}
use Rattle.binary_modules.specs.declared.contents.SectionNumber.{SectionNumber}
use Rattle.binary_modules.proofs.NoModule.{bodies_counted, data_counted}
use Rattle.binary_modules.proofs.WholeParts.{counted_by}
use Rattle.binary_modules.proofs.whole.read_uses.Goals as goal

pub returns-in_err-exports-clause-refused : goal.returns-in_err-exports-clause-refused
returns-in_err-exports-clause-refused c =
    let p = err_from_is_err_and c.from_residual.result c.from_residual.ensures.1 in
    rw (p.1, p.2) (λ short contents counted h. c.in_err-exports.ensures.refused short contents.exports h.exports)

pub returns-in_err-start-clause-refused : goal.returns-in_err-start-clause-refused
returns-in_err-start-clause-refused c =
    let p = err_from_is_err_and c.from_residual-in_err-start.result c.from_residual-in_err-start.ensures.1 in
    rw (p.1, p.2) (λ short contents counted h. c.in_err-start.ensures.refused contents.start h.start)

pub returns-in_err-segments-clause-refused : goal.returns-in_err-segments-clause-refused
returns-in_err-segments-clause-refused c =
    let p = err_from_is_err_and c.from_residual-in_err-segments.result c.from_residual-in_err-segments.ensures.1 in
    rw (p.1, p.2) (λ short contents counted h. c.in_err-segments.ensures.refused short contents h)

pub returns-in_err-data_count-clause-refused : goal.returns-in_err-data_count-clause-refused
returns-in_err-data_count-clause-refused c =
    let p = err_from_is_err_and c.from_residual-in_err-data_count.result c.from_residual-in_err-data_count.ensures.1 in
    rw (p.1, p.2) (λ short contents counted h. c.in_err-data_count.ensures.refused contents.data_count h.data_count)

pub returns-in_err-bodies-clause-refused : goal.returns-in_err-bodies-clause-refused
returns-in_err-bodies-clause-refused c =
    let p = err_from_is_err_and c.from_residual-in_err-bodies.result c.from_residual-in_err-bodies.ensures.1 in
    rw (p.1, p.2) (λ short contents counted h. c.in_err-bodies.ensures.refused short contents.bodies h.bodies)

pub returns-in_err-check_bodies-clause-refused : goal.returns-in_err-check_bodies-clause-refused
returns-in_err-check_bodies-clause-refused c =
    let p = err_from_is_err_and c.from_residual-in_err-check_bodies.result c.from_residual-in_err-check_bodies.ensures.1 in
    rw (p.1, p.2) (λ short contents counted h.
    let each = bodies_counted c.args.canonical (told_sections c.args.sections.now) c.in_ok-bodies.bodies.items contents c.in_ok-bodies.ensures.read h in
    c.in_err-check_bodies.ensures.refused (omega (arith, each, counted)))

pub returns-in_err-check_data_count-clause-refused : goal.returns-in_err-check_data_count-clause-refused
returns-in_err-check_data_count-clause-refused c =
    let p = err_from_is_err_and c.from_residual-in_err-check_data_count.result c.from_residual-in_err-check_data_count.ensures.1 in
    rw (p.1, p.2) (λ short contents counted h.
    let count = option_map (λ (n : SectionNumber). n.number) c.in_ok-data_count.data_count in
    let items = c.in_ok-segments.segments.data_segments.items in
    let segments = c.in_ok-segments.ensures.read in
    let as_many : length items ≡ c.len-2.result = omega arith in
    c.in_err-check_data_count.ensures.refused
    (counted_by count (length items) c.len-2.result
    (data_counted c.args.canonical (told_sections c.args.sections.now) count items segments.data_items contents c.in_ok-data_count.ensures.read segments.are_data h) as_many))
