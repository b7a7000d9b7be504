-- Lists that may be looked up, in their canonical form.
use Rattle.std.proofs.Common.{◌≡◌, Some, ◌∙◌, refl, ap, sym}
use Rattle.validate_resources.specs.Lists.{declared_by, canonical_lists}
use Rattle.validate_resources.specs.Named.{declared_with}
use Rattle.validate_resources.specs.Lawful.Forms.{module-same}
use Rattle.validate_resources.proofs.valid.lists_of.Goals as goal

pub from_forms-requires : goal.from_forms-requires
from_forms-requires c =
    rw (c.in_ok-forms.ensures.types, c.in_ok-forms.ensures.tables, c.in_ok-forms.ensures.globals, c.in_ok-forms.ensures.elements)
    (rw (c.deref.ensures.value, c.deref-2.ensures.value, c.deref-3.ensures.value) (module-same (declared_with c.args.types.now c.args.items) ∙ c.requires))

pub returns-clause-kept : goal.returns-clause-kept
returns-clause-kept c =
    let forms = c.in_ok-forms.forms in
    let same : declared_by forms.types.items c.args.items.functions.items forms.tables.items c.args.items.memories.items
    forms.globals.items c.args.items.tags.items forms.elements.items c.args.items.data_count
    ≡ canonical_lists (declared_with c.args.types.now c.args.items) =
    rw (c.in_ok-forms.ensures.types, c.in_ok-forms.ensures.tables, c.in_ok-forms.ensures.globals, c.in_ok-forms.ensures.elements)
    (rw (c.deref.ensures.value, c.deref-2.ensures.value, c.deref-3.ensures.value) refl) in
    rw c.requires (ap Some (sym (c.from_forms.ensures ∙ same)))
