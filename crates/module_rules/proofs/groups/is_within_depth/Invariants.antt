use Rattle.std.proofs.Common.{◌≡◌, nat_le}
use Rattle.module_rules.specs.Types.{subtyping_depth}
use Rattle.module_rules.specs.declared.limits.TheConstants.{MAX_WASM_SUBTYPING_DEPTH}
use Rattle.module_rules.proofs.groups.is_within_depth.Given as goal

abbrev pub invariant-loop-supertype : goal.invariant-loop-supertype
invariant-loop-supertype l = nat_le (subtyping_depth l.types l.at) l.left ≡ nat_le (subtyping_depth l.types l.index) MAX_WASM_SUBTYPING_DEPTH

abbrev pub decreases-loop-supertype : goal.decreases-loop-supertype
decreases-loop-supertype l = l.at
