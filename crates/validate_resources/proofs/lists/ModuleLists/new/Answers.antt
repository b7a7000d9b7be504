use Rattle.std.proofs.Common.{◌≡◌, true, false, Some, ◌∙◌, refl, ap, sym, arith, length, nat_le}
use Rattle.std.specs.List.{list_all}
use Rattle.std.proofs.lemmas.Bool.{and_from}
use Rattle.std.proofs.lemmas.Grind.{common_steps}
use Rattle.validate_resources.specs.Indices.{is_known}
use Rattle.validate_resources.specs.Lists.{Declared, declared_by, may_be_looked_up, canonical_lists, list_indices_pass, have_func_types, has_fitting_descriptor}
use Rattle.validate_resources.specs.Order.{have_supertypes_of_their_sort}
use Rattle.validate_resources.specs.declared.lists.TheConstants.{MAX_TYPES}
use Rattle.validate_resources.specs.Lawful.Forms.{module-same, have_known_types, no-module, no-functions, no-descriptors}
use Rattle.validate_resources.proofs.lists.ModuleLists.new.Goals.{Start, Else-not-have_fitting_descriptors}
use Rattle.validate_resources.proofs.lists.ModuleLists.new.Goals as goal

abbrev lists : Start → Declared
lists c = declared_by c.args.types.items c.args.functions.items c.args.tables.items c.args.memories.items c.args.globals.items c.args.tags.items c.args.elements.items c.args.data_count

lists_are_module : (c : Else-not-have_fitting_descriptors) → may_be_looked_up is_known (lists (goal.at.Else-not-have_fitting_descriptors c).Start) ≡ true
lists_are_module c =
    let d : Declared = lists (goal.at.Else-not-have_fitting_descriptors c).Start in
    let few : nat_le (length d.types) MAX_TYPES ≡ true = grind (arith, common_steps) in
    let known : list_indices_pass (is_known (length d.types)) d.types d.tables d.globals d.elements ≡ true = grind (arith, common_steps) in
    let supertypes : have_supertypes_of_their_sort d.types ≡ true = grind (arith, common_steps) in
    let func_types : have_func_types d ≡ true =
    rw (sym c.deref-8.ensures.value, sym c.deref-9.ensures.value, sym c.deref-10.ensures.value)
    (sym c.have_func_types.ensures ∙ c.if-not-have_func_types.false) in
    let descriptors : list_all has_fitting_descriptor d.types ≡ true = grind (arith, common_steps) in
    and_from _ _ (and_from _ _ (and_from _ _ (and_from _ _ few known) supertypes) func_types) descriptors

pub from_forms-requires : goal.from_forms-requires
from_forms-requires c =
    let at = goal.at.from_forms-requires c in
    rw (c.in_ok-forms.ensures.types, c.in_ok-forms.ensures.tables, c.in_ok-forms.ensures.globals, c.in_ok-forms.ensures.elements)
    (rw (c.deref.ensures.value, c.deref-2.ensures.value, c.deref-3.ensures.value, c.deref-4.ensures.value) (module-same (lists at.Start) ∙ lists_are_module at.Else-not-have_fitting_descriptors))

pub returns-clause-kept : goal.returns-clause-kept
returns-clause-kept c =
    let at = goal.at.returns-clause-kept c in
    let forms = c.in_ok-forms.forms in
    let same : declared_by forms.types.items c.args.functions.items forms.tables.items c.args.memories.items
    forms.globals.items c.args.tags.items forms.elements.items c.args.data_count ≡ canonical_lists (lists at.Start) =
    rw (c.in_ok-forms.ensures.types, c.in_ok-forms.ensures.tables, c.in_ok-forms.ensures.globals, c.in_ok-forms.ensures.elements)
    (rw (c.deref.ensures.value, c.deref-2.ensures.value, c.deref-3.ensures.value, c.deref-4.ensures.value) refl) in
    rw (lists_are_module at.Else-not-have_fitting_descriptors) (ap Some (sym (c.from_forms.ensures ∙ same)))

pub returns-then-not-have_known_types-clause-refused : goal.returns-then-not-have_known_types-clause-refused
returns-then-not-have_known_types-clause-refused c =
    let d : Declared = lists (goal.at.returns-then-not-have_known_types-clause-refused c).Start in
    let unknown : have_known_types d ≡ false = grind (arith, common_steps) in
    λ _. no-module d unknown

pub returns-then-not-have_func_types-clause-refused : goal.returns-then-not-have_func_types-clause-refused
returns-then-not-have_func_types-clause-refused c =
    let d : Declared = lists (goal.at.returns-then-not-have_func_types-clause-refused c).Start in
    let others : have_func_types d ≡ false =
    rw (sym c.deref-8.ensures.value, sym c.deref-9.ensures.value, sym c.deref-10.ensures.value)
    (sym c.have_func_types.ensures ∙ c.if-not-have_func_types.true) in
    λ _. no-functions d others

pub returns-then-not-have_fitting_descriptors-clause-refused : goal.returns-then-not-have_fitting_descriptors-clause-refused
returns-then-not-have_fitting_descriptors-clause-refused c =
    let d : Declared = lists (goal.at.returns-then-not-have_fitting_descriptors-clause-refused c).Start in
    let unfit : list_all has_fitting_descriptor d.types ≡ false = grind (arith, common_steps) in
    λ _. no-descriptors d unfit
