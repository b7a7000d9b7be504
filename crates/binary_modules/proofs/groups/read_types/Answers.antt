-- No groups, a group more, and all of them.
use Rattle.std.proofs.Common.{rules, ap, subst, sym, refl, ◌∙◌, ◌≡◌, ◌+◌, ◌<◌, ◌++◌, ◌∷◌, [], length, map, Some, ℕ}
use Rattle.std.proofs.lemmas.List.{length_push}
use Rattle.std.proofs.lemmas.Result.{err_from_is_err_and}
use Rattle.binary_modules.specs.GroupsRead.{written_shape}
use Rattle.binary_modules.proofs.Grouped.{one_more_group}
use Rattle.binary_modules.proofs.TypesUnique.{stopped_types, uncounted_types}
use Rattle.binary_modules.proofs.groups.read_types.Goals as goal

pub loop-init : goal.loop-init
loop-init c = (
  [],
  refl,
  record {
    types = c.make_room.ensures.types ∙ c.new-section.ensures.types;
    canonical = c.make_room.ensures.canonical ∙ c.new-section.ensures.canonical;
    written = ap (map written_shape) (c.make_room.ensures.groups ∙ c.new-section.ensures.groups);
    known = c.new-groups.ensures _;
  },
  refl,
)

pub loop-preserved : goal.loop-preserved
loop-preserved c =
    let i = c.loop.invariant in
    let g = c.in_ok-read_group.ensures.read i.0 i.2 in (
      i.0 ++ g.group ∷ [],
      one_more_group [] c.read_var_u32.new.self.left i.0 c.loop.reader.left g.group c.read_group.new.reader.left i.1 g.is_group,
      g.has_read,
      length_push i.0 g.group ∙ ap (λ n. n + 1) i.3,
    )

pub returns-clause-read : goal.returns-clause-read
returns-clause-read c =
    let i = c.loop.invariant in
    let all : length i.0 ≡ c.in_ok-count.count = search rules in
    record {
      groups = i.0;
      behind = c.read_var_u32.new.self.left;
      has_count = c.in_ok-count.ensures.read ∙ ap (λ n. Some (n, c.read_var_u32.new.self.left)) (sym all);
      are_groups = i.1;
      are_types = i.2.types;
      are_canonical = i.2.canonical;
      are_written = i.2.written;
    }

pub returns-in_err-count-clause-refused : goal.returns-in_err-count-clause-refused
returns-in_err-count-clause-refused c =
    let p = err_from_is_err_and c.from_residual.result c.from_residual.ensures.1 in
    rw (p.1, p.2) (λ short. uncounted_types c.args.reader.now.left c.in_err-count.ensures.refused)

pub returns-in_err-read_group-clause-refused : goal.returns-in_err-read_group-clause-refused
returns-in_err-read_group-clause-refused c =
    let p = err_from_is_err_and c.from_residual-in_err-read_group.result c.from_residual-in_err-read_group.ensures.1 in
    let i = c.loop.invariant in
    let L : ℕ → Type 0 = λ n. n < c.in_ok-count.count in
    rw (p.1, p.2) (λ short.
    stopped_types c.args.reader.now.left c.read_var_u32.new.self.left c.loop.reader.left c.in_ok-count.count i.0
    c.in_ok-count.ensures.read i.1 (subst L (sym i.3) c.loop-test.true) (c.in_err-read_group.ensures.refused short i.0 i.2))
