use Rattle.std.proofs.Common.{refl}
use Rattle.module_rules.proofs.lookup.lookup_items.Goals as goal

pub returns : goal.returns
returns c =
    rw (c.in_ok-functions.ensures, c.in_ok-tags.ensures, c.in_ok-elements.ensures, c.in_ok-stored.ensures.tables, c.in_ok-stored.ensures.memories, c.in_ok-stored.ensures.globals, c.said_count.ensures)
    (rw (c.deref.ensures.value, c.deref-2.ensures.value) refl)
