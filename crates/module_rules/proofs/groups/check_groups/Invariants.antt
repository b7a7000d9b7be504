use Rattle.std.proofs.Common.{◌≡◌, ◌≤◌, length, drop}
use Rattle.module_rules.specs.Types.{are_valid_groups}
use Rattle.module_rules.proofs.groups.check_groups.Given as goal

abbrev pub invariant-loop-group : goal.invariant-loop-group
invariant-loop-group l = record {
  rest : are_valid_groups l.features l.types l.first (drop l.group-index l.groups) ≡ are_valid_groups l.features l.types 0 l.groups;
  within : l.first ≤ length l.types;
}
