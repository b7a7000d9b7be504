use Rattle.std.proofs.Common.{arith, sym, ◌∙◌, ◌<◌}
use Rattle.validate_types.specs.declared.heap.TheConstants.PackedIndex.{LIMIT}
use Rattle.validate_resources.specs.Kept.{declared_lists}
use Rattle.script_runs.proofs.Small.{small_index}
use Rattle.script_runs.proofs.paired.PairedListsWasmModuleResources.type_index_of_function.Goals as goal

pub overflow_mul-result : goal.overflow_mul-result
overflow_mul-result c =
    let small : c.in-Some.index < LIMIT = small_index (declared_lists c.args.self.now.0) (c.laws.ensures c.args.self.now.0) _ _ (sym c.type_index_of_function.ensures ∙ c.in-Some.is) in
    omega (arith, small)

pub overflow_add-result : goal.overflow_add-result
overflow_add-result c =
    let small : c.in-Some.index < LIMIT = small_index (declared_lists c.args.self.now.0) (c.laws.ensures c.args.self.now.0) _ _ (sym c.type_index_of_function.ensures ∙ c.in-Some.is) in
    omega (arith, small)
