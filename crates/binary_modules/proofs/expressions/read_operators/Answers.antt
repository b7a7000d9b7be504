-- An operator more is read, or the last one, or none can be.
use Rattle.std.proofs.Common.{rules, arith, ap, sym, ◌∙◌, ◌+◌, ◌-◌, ◌<◌, ◌≤◌, ◌++◌, [], length, append-nil}
use Rattle.std.proofs.lemmas.Result.{err_from_is_err_and}
use Rattle.binary_operators.proofs.Items.{with_front}
use Rattle.binary_modules.specs.Initializers.{named, named_functions}
use Rattle.binary_modules.proofs.Fronts.{behind_front, none_behind}
use Rattle.binary_modules.proofs.NamedFunctions.{op_more, op_last, op_none}
use Rattle.binary_modules.proofs.expressions.read_operators.Goals as goal

pub loop-preserved : goal.loop-preserved
loop-preserved c =
    let e = c.in_ok-behind.ensures.read in
    let count = length c.args.reader.now.left in
    let i = c.loop.counter in
    let types = c.args.canonical in
    let rest = c.read_piece.new.reader.left in
    let front = c.loop.functions.items in
    let d = c.in-Some.behind in
    let below : d ≤ c.loop.depth + 1 = search rules in (
      ap (λ l. with_front l (named_functions (count - (i + 1)) types d rest)) e.3
          ∙ sym (op_more count i types c.loop.depth c.loop.reader.left e.0 rest d front (search rules) e.1 (sym c.in-Some.is ∙ e.2))
          ∙ c.loop.invariant.0,
      omega arith,
    )

pub returns-in-None-clause-read : goal.returns-in-None-clause-read
returns-in-None-clause-read c =
    let e = c.in_ok-behind.ensures.read in
    let count = length c.args.reader.now.left in
    let i = c.loop.counter in
    let types = c.args.canonical in
    let rest = c.read_piece.new.reader.left in
    let front = c.loop.functions.items in
    let last = op_last count i types c.loop.depth c.loop.reader.left e.0 rest front (search rules) e.1 (sym c.in-None.is ∙ e.2) in
    let read = behind_front c.args.functions.now.items (named_functions count types 0 c.args.reader.now.left) ((front ++ named e.0) ++ []) rest (sym c.loop.invariant.0 ∙ last) in
    (read.0, read.1, e.3 ∙ sym (append-nil (front ++ named e.0)) ∙ read.2)

pub returns-in_err-behind-clause-refused : goal.returns-in_err-behind-clause-refused
returns-in_err-behind-clause-refused c =
    let p = err_from_is_err_and c.from_residual.result c.from_residual.ensures.1 in
    let count = length c.args.reader.now.left in
    let types = c.args.canonical in
    let further : c.loop.counter < count = search rules in
    rw (p.1, p.2) (λ short. none_behind c.args.functions.now.items (named_functions count types 0 c.args.reader.now.left) (
    sym c.loop.invariant.0
    ∙ op_none count c.loop.counter types c.loop.depth c.loop.reader.left c.loop.functions.items further (c.in_err-behind.ensures.refused short)))
