-- What is left to compare fits exactly where all of it does.
use Rattle.std.proofs.Common.{◌≡◌, drop, map}
use Rattle.validation_rules.specs.Context.{Context}
use Rattle.validation_rules.specs.Fits.{Known, all_fit}
use Rattle.validate_rows_gc.proofs.clauses.expect_types.Given as goal

abbrev pub invariant-loop-index : goal.invariant-loop-index
invariant-loop-index g l =
    (cx : Context) → cx.of_module ≡ g.R.WasmModuleResources.context l.resources →
    all_fit cx (map Known (drop l.index l.types)) (drop l.index l.expected) ≡ all_fit cx (map Known l.types) l.expected
