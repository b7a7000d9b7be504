-- The types behind those that were looked at decide.
use Rattle.std.proofs.Common.{◌≡◌, drop}
use Rattle.std.specs.List.{list_all}
use Rattle.module_rules.specs.Types.{may_stand_in}
use Rattle.module_rules.proofs.types.check_each_part.Given as goal

abbrev pub invariant-loop-ty : goal.invariant-loop-ty
invariant-loop-ty l =
    let passes = may_stand_in l.features l.types l.shared in
    list_all passes (drop l.ty-index l.listed) ≡ list_all passes l.listed
