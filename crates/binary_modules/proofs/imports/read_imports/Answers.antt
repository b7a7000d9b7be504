-- No imports, an import more, and all of them, or none where one can't be read.
use Rattle.std.proofs.Common.{rules, arith, ap, sym, ◌∙◌, ◌≡◌, ◌-◌, ◌∷◌, ◌++◌, [], append-nil, Some}
use Rattle.std.proofs.lemmas.Result.{err_from_is_err_and}
use Rattle.binary_operators.specs.Values.{so_many}
use Rattle.binary_operators.proofs.Items.{no_front, one_more, all_read, list_broken, with_front}
use Rattle.binary_modules.specs.Items.{import_item, unplaced_import}
use Rattle.binary_modules.proofs.ImportedMore.{import_more}
use Rattle.binary_modules.proofs.Listed.{list_is}
use Rattle.binary_modules.proofs.imports.read_imports.Goals as goal

pub loop-init : goal.loop-init
loop-init c =
    let reading = import_item c.args.canonical in
    let all : c.in_ok-count.count - 0 ≡ c.in_ok-count.count = omega arith in (
      [],
      no_front (so_many reading (c.in_ok-count.count - 0) c.read_var_u32.new.self.left)
          ∙ ap (λ n. so_many reading n c.read_var_u32.new.self.left) all,
      c.requires,
    )

pub loop-preserved : goal.loop-preserved
loop-preserved c =
    let i = c.loop.invariant in
    let x = unplaced_import c.in_ok-import.import in (
      i.0 ++ x ∷ [],
      sym (one_more (import_item c.args.canonical) c.in_ok-count.count c.loop.counter c.loop.reader.left i.0 x c.read_import.new.reader.left c.loop-test.true c.in_ok-import.ensures.read)
          ∙ i.1,
      import_more i.0 x c.loop.imported c.add.new.self i.2 c.in_ok-add.ensures.added,
    )

pub returns-clause-read : goal.returns-clause-read
returns-clause-read c =
    let i = c.loop.invariant in
    let reading = import_item c.args.canonical in
    let count = c.in_ok-count.count in
    let done : c.loop.counter ≡ count = search rules in
    let read =
    sym i.1
    ∙ ap (λ n. with_front i.0 (so_many reading (count - n) c.loop.reader.left)) done
    ∙ all_read reading count c.loop.reader.left i.0
    ∙ ap (λ l. Some (l, c.loop.reader.left)) (append-nil i.0) in
    record {
      imports = i.0;
      are_read = list_is reading count c.args.reader.now.left c.read_var_u32.new.self.left i.0 c.loop.reader.left c.in_ok-count.ensures.read read;
      are_imports = i.2;
    }

pub returns-in_err-import-clause-refused : goal.returns-in_err-import-clause-refused
returns-in_err-import-clause-refused c =
    let p = err_from_is_err_and c.from_residual-in_err-import.result c.from_residual-in_err-import.ensures.1 in
    let i = c.loop.invariant in
    rw (p.1, p.2) (λ short.
    list_broken (import_item c.args.canonical) c.args.reader.now.left c.in_ok-count.count c.loop.counter c.read_var_u32.new.self.left c.loop.reader.left i.0 c.in_ok-count.ensures.read
    i.1 c.loop-test.true c.in_err-import.ensures.refused)
