use Rattle.std.proofs.Common.{◌≡◌, true, take}
use Rattle.module_rules.specs.Exports.{are_distinct, names_of}
use Rattle.module_rules.proofs.Distinct.{Holds}
use Rattle.module_rules.proofs.names.check_each_name.Given as goal

abbrev pub invariant-loop-export : goal.invariant-loop-export
invariant-loop-export l = record {
  distinct : are_distinct (names_of (take l.export-index l.exports)) ≡ true;
  held : Holds l.names (names_of (take l.export-index l.exports));
}
