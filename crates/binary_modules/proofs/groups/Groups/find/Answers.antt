-- The group is an earlier type alone, or is looked for among the others.
use Rattle.std.proofs.Common.{rules, subst, refl, ◌≡◌, List, Some, None, slice_get, IsSome}
use Rattle.std.specs.BTreeMap.{get}
use Rattle.std.specs.Ordering.{nat_cmp}
use Rattle.validate_types.specs.declared.types.SubType.{SubType}
use Rattle.binary_modules.specs.Read.{IsUnlike, alone_at}
use Rattle.binary_modules.proofs.Grouped.{both_ok, keeps_noted, keeps_other}
use Rattle.binary_modules.proofs.groups.Groups.find.Goals as goal

pub returns-in-Some-clause-kept : goal.returns-in-Some-clause-kept
returns-in-Some-clause-kept c = λ mixed.
    let types = c.args.types.now in
    let first = c.in-Some.first in
    let stands : get nat_cmp c.find_alone.new.self.numbers c.args.group.mixed ≡ Some (Some first) = search rules in
    let same : IsSome (slice_get types first) → alone_at types first ≡ Some c.args.group.types.items = search rules in
    keeps_noted c.args.self.now c.find_alone.new.self types c.args.group.types.items c.args.group.mixed c.args.own first
    c.in_ok-found.ensures.noted stands same

pub returns-in-None-clause-kept : goal.returns-in-None-clause-kept
returns-in-None-clause-kept c =
    let U : List SubType → Type 0 = λ group. IsUnlike c.find_alone.new.self c.args.types.now c.args.group.mixed group in
    let unlike = subst U c.as_slice.ensures.value (c.in_ok-found.ensures.other c.in-None.is) in
    both_ok c.find_other.result _ _ _
    (λ first is kept mixed.
    keeps_other c.args.self.now c.find_alone.new.self c.find_other.new.self c.args.types.now c.args.group c.args.own first None mixed
    c.in_ok-found.ensures.noted (λ e. refl) unlike is kept c.find_other.ensures.numbers)
    c.find_other.ensures.first c.find_other.ensures.kept
