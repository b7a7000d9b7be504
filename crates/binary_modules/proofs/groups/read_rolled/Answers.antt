-- The types are read by their places in the group.
use Rattle.std.proofs.Common.{ap, ◌∙◌, ◌≡◌, sym, ◌++◌, Some}
use Rattle.std.proofs.lemmas.Result.{err_from_is_err_and}
use Rattle.binary_operators.specs.declared.types.GroupNames.TheVariants.{Places}
use Rattle.binary_modules.proofs.TypesUnique.{no_types}
use Rattle.binary_modules.proofs.groups.read_rolled.Goals as goal

pub returns-clause-read : goal.returns-clause-read
returns-clause-read c =
    let r = c.in_ok-read_so_many.ensures.read in
    let all : c.read_so_many.new.items.items ≡ r.0 = r.2 ∙ ap (λ l. l ++ r.0) c.in_ok-types.ensures.empty in
    record {
      types = c.in_group-names.result;
      are_before = ap (λ t. t.canonical.now) c.in_group-names.ensures;
      are_own = ap (λ t. t.group) c.in_group-names.ensures;
      are_read = r.1 ∙ ap (λ l. Some (l, c.read_so_many.new.reader.left)) (sym all);
    }

pub returns-in_err-read_so_many-clause-refused : goal.returns-in_err-read_so_many-clause-refused
returns-in_err-read_so_many-clause-refused c =
    let p = err_from_is_err_and c.from_residual-in_err-read_so_many.result c.from_residual-in_err-read_so_many.ensures.1 in
    rw (p.1, p.2) (λ short.
    no_types c.args.canonical.now Places c.args.count c.args.reader.now.left c.in_group-names.result
    (ap (λ t. t.canonical.now) c.in_group-names.ensures) (ap (λ t. t.group) c.in_group-names.ensures)
    (c.in_err-read_so_many.ensures.refused short))
