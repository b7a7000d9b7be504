-- The types of a group make it.
use Rattle.std.proofs.Common.{rules, ap, subst, sym, refl, ◌∙◌, ◌≡◌, ◌++◌, ◌∷◌, [], length, map, ℕ}
use Rattle.std.specs.List.{range_with_len}
use Rattle.std.proofs.lemmas.List.{map-append}
use Rattle.std.proofs.lemmas.Result.{err_from_is_err_and}
use Rattle.binary_operators.specs.declared.types.GroupNames.TheVariants.{Places, Indices}
use Rattle.module_rules.specs.declared.items.RecGroup.{RecGroup}
use Rattle.binary_modules.specs.SubTypes.{sub_type}
use Rattle.binary_modules.specs.Groups.{Group, canonical_of}
use Rattle.binary_modules.specs.GroupsRead.{StandsFor, shape, written_shape}
use Rattle.binary_modules.proofs.Grouped.{so_many_length, has_group, more_types, more_canonical}
use Rattle.binary_modules.proofs.TypesUnique.{typeless_group, uncounted_group, unmarked_group}
use Rattle.binary_modules.proofs.groups.TypeSection.read_group.Goals as goal

pub returns-clause-read : goal.returns-clause-read
returns-clause-read c = λ before h.
    let own : c.in-Ok.own ≡ length c.args.self.now.canonical.items = search rules in
    let bytes = c.args.reader.now.left in
    let explicit = c.in_ok-explicit.explicit in
    let count = c.in_ok-count.count in
    let canonical = c.args.self.now.canonical.items in
    let r = c.in_ok-declare_types.ensures.read before h own in
    let many : length r.types ≡ count = so_many_length (sub_type r.are_declared.types) count _ r.types _ r.are_declared.are_read in
    let group : Group = record { rolled = r.rolled; types = r.types; first = r.first; explicit = explicit } in
    let written : RecGroup = record { count = count; explicit = explicit; offset = c.offset-offset.result } in
    let S : ℕ → Type 0 = λ n. StandsFor before r.rolled n r.first in
    record {
      group = group;
      is_group = record {
        is_rolled = has_group canonical (canonical_of before) Places bytes c.read_mark.new.reader.left
            c.read_count.new.reader.left explicit count r.rolled c.declare_types.new.reader.left h.canonical
            c.in_ok-explicit.ensures.read c.in_ok-count.ensures.read r.are_rolled;
        end = r.end;
        is_declared = has_group canonical (canonical_of before) (Indices r.first) bytes c.read_mark.new.reader.left
            c.read_count.new.reader.left explicit count r.types r.end h.canonical c.in_ok-explicit.ensures.read
            c.in_ok-count.ensures.read r.are_declared;
        is_canonical = subst S (ap length h.canonical) r.stands;
      };
      has_read = record {
        types = r.are_types ∙ ap (λ l. l ++ r.types) h.types ∙ more_types before group;
        canonical =
            r.are_canonical
            ∙ ap (λ l. l ++ range_with_len r.first count) h.canonical
            ∙ ap (λ n. canonical_of before ++ range_with_len r.first n) (sym many)
            ∙ more_canonical before group;
        written =
            ap (map written_shape) (c.in_ok-push.ensures.added ∙ ap (λ g. g.items ++ written ∷ []) r.are_groups)
            ∙ map-append written_shape c.args.self.now.groups.items (written ∷ [])
            ∙ ap (λ l. l ++ written_shape written ∷ []) h.written
            ∙ ap (λ n. map shape before ++ (n, explicit) ∷ []) (sym many)
            ∙ sym (map-append shape before (group ∷ []));
        known = r.known group refl refl;
      };
    }

pub returns-in_err-explicit-clause-refused : goal.returns-in_err-explicit-clause-refused
returns-in_err-explicit-clause-refused c =
    let p = err_from_is_err_and c.from_residual.result c.from_residual.ensures.1 in
    rw (p.1, p.2) (λ short before h. unmarked_group before c.args.reader.now.left c.in_err-explicit.ensures.refused)

pub returns-in_err-count-clause-refused : goal.returns-in_err-count-clause-refused
returns-in_err-count-clause-refused c =
    let p = err_from_is_err_and c.from_residual-in_err-count.result c.from_residual-in_err-count.ensures.1 in
    rw (p.1, p.2) (λ short before h.
    uncounted_group before c.args.reader.now.left c.read_mark.new.reader.left c.in_ok-explicit.explicit
    c.in_ok-explicit.ensures.read c.in_err-count.ensures.refused)

pub returns-in_err-declare_types-clause-refused : goal.returns-in_err-declare_types-clause-refused
returns-in_err-declare_types-clause-refused c =
    let p = err_from_is_err_and c.from_residual-in_err-declare_types.result c.from_residual-in_err-declare_types.ensures.1 in
    let own : c.in-Ok.own ≡ length c.args.self.now.canonical.items = search rules in
    rw (p.1, p.2) (λ short before h.
    typeless_group c.args.reader.now.left c.read_mark.new.reader.left c.read_count.new.reader.left c.in_ok-explicit.explicit
    c.in_ok-count.count c.in_ok-explicit.ensures.read c.in_ok-count.ensures.read before c.args.self.now.canonical.items
    h.canonical (c.in_err-declare_types.ensures.refused short before h own))
