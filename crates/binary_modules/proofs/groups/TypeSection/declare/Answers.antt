-- The types are read by the names of their group.
use Rattle.std.proofs.Common.{ap, ◌∙◌, ◌++◌}
use Rattle.std.proofs.lemmas.Result.{err_from_is_err_and}
use Rattle.binary_operators.specs.declared.types.GroupNames.TheVariants.{Indices}
use Rattle.binary_modules.proofs.TypesUnique.{no_types}
use Rattle.binary_modules.proofs.groups.TypeSection.declare.Goals as goal

pub returns-clause-types : goal.returns-clause-types
returns-clause-types c =
    let r = c.in_ok-read_so_many.ensures.read in (
      r.0,
      record {
        types = c.in_group-names.result;
        are_before = ap (λ t. t.canonical.now) c.in_group-names.ensures ∙ c.deref.ensures.value ∙ c.make_room_for_types.ensures.canonical;
        are_own = ap (λ t. t.group) c.in_group-names.ensures;
        are_read = r.1;
      },
      ap (λ t. t.items) c.name.ensures.types ∙ r.2 ∙ ap (λ l. l ++ r.0) c.make_room_for_types.ensures.types,
    )

pub returns-in_err-read_so_many-clause-refused : goal.returns-in_err-read_so_many-clause-refused
returns-in_err-read_so_many-clause-refused c =
    let p = err_from_is_err_and c.from_residual-in_err-read_so_many.result c.from_residual-in_err-read_so_many.ensures.1 in
    rw (p.1, p.2) (λ short.
    no_types c.args.self.now.canonical.items (Indices c.args.first) c.args.count c.args.reader.now.left c.in_group-names.result
    (ap (λ t. t.canonical.now) c.in_group-names.ensures ∙ c.deref.ensures.value ∙ c.make_room_for_types.ensures.canonical)
    (ap (λ t. t.group) c.in_group-names.ensures) (c.in_err-read_so_many.ensures.refused short))
