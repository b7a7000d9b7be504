-- The targets left to look for are all there exactly where all of them are.
use Rattle.std.proofs.Common.{◌≡◌, drop}
use Rattle.std.specs.List.{list_all}
use Rattle.validate_stacks.specs.AtOnce.{body_dropped}
use Rattle.validate_rows.specs.Targets.{is_table_target}
use Rattle.validate_rows.proofs.branches.expect_targets.Given as goal

abbrev pub invariant-loop-relative_depth : goal.invariant-loop-relative_depth
invariant-loop-relative_depth g l =
    let is_one = is_table_target (g.R.WasmModuleResources.context l.context.resources.now) (body_dropped 1 l.context.stacks.now.body) l.count in
    record {
      rest : list_all is_one (drop l.relative_depth-index l.table.targets.now) ≡ list_all is_one l.table.targets.now;
    }
