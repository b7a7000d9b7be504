-- A type stands there, which is the group alone or isn't.
use Rattle.std.proofs.Common.{rules, ◌≡◌, ◌∙◌, true, false, true≢false, Some, None, ap, sym, refl, length, slice_get, is_some}
use Rattle.std.specs.Cmp.Lexicographic.{pointwise}
use Rattle.std.proofs.lemmas.Option.{slice_get_read, slice_get_past}
use Rattle.validate_types.specs.contracts.types.SubTypePartialEq.TheImpl as sub_eq
use Rattle.binary_modules.proofs.Grouped.{is_alone, is_not_alone}
use Rattle.binary_modules.proofs.groups.is_another.Goals as goal

pub returns-in-Some-clause-there : goal.returns-in-Some-clause-there
returns-in-Some-clause-there c = λ e.
    let found = c.in-Some.ensures.lookup in
    let there : slice_get c.args.types.now c.args.index ≡ Some c.in-Some.ty.now = slice_get_read c.args.types.now (length c.args.types.now) c.args.index c.in-Some.ty.now refl found.3.0 found.1 in
    ap is_some there

pub returns-in-Some-clause-yes : goal.returns-in-Some-clause-yes
returns-in-Some-clause-yes c = λ e.
    let group = c.args.group.now in
    let found = c.in-Some.ensures.lookup in
    let there : slice_get c.args.types.now c.args.index ≡ Some c.in-Some.ty.now = slice_get_read c.args.types.now (length c.args.types.now) c.args.index c.in-Some.ty.now refl found.3.0 found.1 in
    let unlike : pointwise (sub_eq.ghosts).eq group c.from_ref.result.now ≡ false = search (rules, e) in
    is_not_alone c.args.types.now group c.from_ref.result.now c.args.index c.in-Some.ty.now there c.from_ref.ensures.value unlike

pub returns-in-Some-clause-no : goal.returns-in-Some-clause-no
returns-in-Some-clause-no c = λ e _.
    let group = c.args.group.now in
    let found = c.in-Some.ensures.lookup in
    let there : slice_get c.args.types.now c.args.index ≡ Some c.in-Some.ty.now = slice_get_read c.args.types.now (length c.args.types.now) c.args.index c.in-Some.ty.now refl found.3.0 found.1 in
    let equal : pointwise (sub_eq.ghosts).eq group c.from_ref.result.now ≡ true = search (rules, e) in
    is_alone c.args.types.now group c.from_ref.result.now c.args.index c.in-Some.ty.now there c.from_ref.ensures.value equal

pub returns-in-None-clause-no : goal.returns-in-None-clause-no
returns-in-None-clause-no c = λ e there.
    let none : slice_get c.args.types.now c.args.index ≡ None = slice_get_past c.args.types.now c.args.index c.in-None.ensures.lookup.3 in
    absurd (true≢false (sym there ∙ ap is_some none))
