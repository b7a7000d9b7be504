-- The segments behind those that were looked at decide.
use Rattle.std.proofs.Common.{◌≡◌, drop}
use Rattle.std.specs.List.{list_all}
use Rattle.module_rules.specs.Segments.{is_valid_data_kind}
use Rattle.module_rules.specs.declared.segments.Data.{Data}
use Rattle.module_rules.proofs.elements.check_each_data_kind.Given as goal

abbrev pub invariant-loop-segment : goal.invariant-loop-segment
invariant-loop-segment l =
    let passes = λ (s : Data). is_valid_data_kind l.features l.memories s.kind in
    list_all passes (drop l.segment-index l.segments) ≡ list_all passes l.segments
