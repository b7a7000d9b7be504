use Rattle.std.proofs.Common.{◌≡◌, true, map, take}
use Rattle.std.specs.List.{list_all}
use Rattle.validate_resources.proofs.lists.canonical.canonical_all.Given as goal

abbrev pub invariant-loop-item : goal.invariant-loop-item
invariant-loop-item g l = record {
  known : list_all (g.T.Canonical.known l.count) (take l.item-index l.items) ≡ true;
  form : l.forms.items ≡ map g.T.Canonical.form (take l.item-index l.items);
}
