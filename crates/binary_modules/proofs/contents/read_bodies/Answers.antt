-- No bodies, a body more, and all of them, or a body that can't be read.
use Rattle.std.proofs.Common.{rules, arith, ap, sym, ◌∙◌, ◌≡◌, ◌-◌, ◌+◌, ◌∷◌, [], append-nil, Some}
use Rattle.std.proofs.lemmas.List.{map-append}
use Rattle.std.proofs.lemmas.Result.{err_from_is_err_and}
use Rattle.binary_operators.specs.Values.{so_many}
use Rattle.binary_operators.proofs.Items.{with_front, no_front, one_more, all_read, none_more}
use Rattle.binary_modules.specs.ContentsRead.{bytes_of}
use Rattle.binary_modules.specs.Parts.{sized}
use Rattle.binary_modules.proofs.contents.read_bodies.Goals as goal

pub loop-init : goal.loop-init
loop-init c =
    let all : c.args.count - 0 ≡ c.args.count = omega arith in
    ap (λ l. with_front (bytes_of l) (so_many sized (c.args.count - 0) c.args.reader.now.left)) c.requires
    ∙ no_front (so_many sized (c.args.count - 0) c.args.reader.now.left)
    ∙ ap (λ n. so_many sized n c.args.reader.now.left) all

pub loop-preserved : goal.loop-preserved
loop-preserved c =
    let body = c.in_ok-body.body in
    let front = c.loop.bodies.items in
    let rest = so_many sized (c.args.count - (c.loop.counter + 1)) c.read_part.new.reader.left in
    ap (λ l. with_front l rest) (ap bytes_of c.in_ok-push.ensures.added ∙ map-append (λ r. r.left) front (body ∷ []))
    ∙ sym (one_more sized c.args.count c.loop.counter c.loop.reader.left (bytes_of front) body.left c.read_part.new.reader.left c.loop-test.true c.in_ok-body.ensures.read)
    ∙ c.loop.invariant

pub returns-clause-read : goal.returns-clause-read
returns-clause-read c =
    let count = c.args.count in
    let front = bytes_of c.loop.bodies.items in
    let done : c.loop.counter ≡ count = search rules in
    sym c.loop.invariant
    ∙ ap (λ n. with_front front (so_many sized (count - n) c.loop.reader.left)) done
    ∙ all_read sized count c.loop.reader.left front
    ∙ ap (λ l. Some (l, c.loop.reader.left)) (append-nil front)

pub returns-in_err-body-clause-refused : goal.returns-in_err-body-clause-refused
returns-in_err-body-clause-refused c =
    let p = err_from_is_err_and c.from_residual.result c.from_residual.ensures.1 in
    rw (p.1, p.2) (λ short.
    sym c.loop.invariant
    ∙ none_more sized c.args.count c.loop.counter c.loop.reader.left (bytes_of c.loop.bodies.items) c.loop-test.true c.in_err-body.ensures.refused)
