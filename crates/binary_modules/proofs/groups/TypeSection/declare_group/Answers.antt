-- The types are read twice, and kept by the index that stands for the first.
use Rattle.std.proofs.Common.{ap, subst, sym, ◌∙◌, ◌≡◌, ℕ, List}
use Rattle.std.proofs.lemmas.Result.{err_from_is_err_and}
use Rattle.binary_operators.specs.declared.types.GroupNames.TheVariants.{Places, Indices}
use Rattle.validate_types.specs.declared.types.SubType.{SubType}
use Rattle.binary_modules.specs.GroupsRead.{StandsFor}
use Rattle.binary_modules.specs.Mixed.{mix_types}
use Rattle.binary_modules.specs.Read.{HasTypes, HasNoTypes, IsMixed, Keeps}
use Rattle.binary_modules.proofs.Grouped.{both_ok, read_twice}
use Rattle.binary_modules.proofs.TypesUnique.{if_err, none_declared, none_rolled}
use Rattle.binary_modules.proofs.groups.TypeSection.declare_group.Goals as goal

pub returns-clause-read : goal.returns-clause-read
returns-clause-read c =
    let section = c.args.self.now in
    let count = c.args.count in
    let own = c.args.own in
    let group = c.new-group.result in
    let rolled = group.types.items in
    let noted = c.find.new.self in
    let first = c.in_ok-first.first in
    let same : c.in_ok-rolled.rolled.items ≡ rolled = ap (λ v. v.items) (sym c.new-group.ensures.types) in
    let mixed : IsMixed group = c.new-group.ensures.mixed ∙ ap mix_types same in
    let C : List ℕ → Type 0 = λ canonical. HasTypes canonical Places count c.args.reader.now.left rolled c.read_rolled.new.reader.left in
    let R : List SubType → Type 0 = λ types. HasTypes c.deref.result.now Places count c.args.reader.now.left types c.read_rolled.new.reader.left in
    let K : List SubType → Type 0 = λ types. Keeps c.args.groups.now noted types types rolled own first in
    let are_rolled = subst C c.deref.ensures.value (subst R same c.in_ok-rolled.ensures.read) in
    let keeps = subst K c.deref-2.ensures.value (c.in_ok-first.ensures.kept mixed) in
    both_ok c.declare.result _ _ _
    (λ _ types canonical before h is.
    let D : List ℕ → Type 0 = λ b. HasTypes section.canonical.items (Indices first) count b types.0 c.declare.new.reader.left in
    let are_declared = subst D (ap (λ r. r.left) c.duplicate-again.ensures) types.1 in
    read_twice before section c.args.groups.now h count c.args.reader.now.left c.read_rolled.new.reader.left c.declare.new.reader.left
    c.declare.new.self noted rolled types.0 own first is are_rolled keeps are_declared types.2 canonical c.declare.ensures.groups)
    c.declare.ensures.types c.declare.ensures.canonical

pub returns-in_err-rolled-clause-refused : goal.returns-in_err-rolled-clause-refused
returns-in_err-rolled-clause-refused c =
    let p = err_from_is_err_and c.from_residual.result c.from_residual.ensures.1 in
    let C : List ℕ → Type 0 = λ canonical. HasNoTypes canonical Places c.args.count c.args.reader.now.left in
    rw (p.1, p.2) (λ short before h own.
    none_rolled before c.args.self.now.canonical.items c.args.count c.args.reader.now.left
    (subst C c.deref.ensures.value (c.in_err-rolled.ensures.refused short)))

pub returns-clause-refused : goal.returns-clause-refused
returns-clause-refused c =
    let section = c.args.self.now in
    let count = c.args.count in
    let group = c.new-group.result in
    let rolled = group.types.items in
    let first = c.in_ok-first.first in
    let left = c.args.reader.now.left in
    let rest = c.read_rolled.new.reader.left in
    let same : c.in_ok-rolled.rolled.items ≡ rolled = ap (λ v. v.items) (sym c.new-group.ensures.types) in
    let mixed : IsMixed group = c.new-group.ensures.mixed ∙ ap mix_types same in
    let C : List ℕ → Type 0 = λ canonical. HasTypes canonical Places count left rolled rest in
    let R : List SubType → Type 0 = λ types. HasTypes c.deref.result.now Places count left types rest in
    let K : List SubType → Type 0 = λ types. Keeps c.args.groups.now c.find.new.self types types rolled c.args.own first in
    let are_rolled = subst C c.deref.ensures.value (subst R same c.in_ok-rolled.ensures.read) in
    let keeps = subst K c.deref-2.ensures.value (c.in_ok-first.ensures.kept mixed) in
    let D : List ℕ → Type 0 = λ bytes. HasNoTypes section.canonical.items (Indices first) count bytes in
    if_err c.declare.result _ _
    (λ e none short before h own.
    let S : ℕ → Type 0 = λ n. StandsFor before rolled n first in
    none_declared before section.canonical.items count left rolled rest first are_rolled (subst S own (keeps before h.known).0)
    (subst D (ap (λ r. r.left) c.duplicate-again.ensures) (none short)))
    c.declare.ensures.refused
