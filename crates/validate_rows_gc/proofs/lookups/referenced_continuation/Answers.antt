use Rattle.std.proofs.Common.{sym, ◌∙◌}
use Rattle.validate_rows_gc.proofs.lookups.referenced_continuation.Goals as goal

pub func_type_of_cont_type-requires : goal.func_type_of_cont_type-requires
func_type_of_cont_type-requires g c =
    ((g.met.R.WasmModuleResources.lawful c.args.resources.now).types_of_ids _ c.sub_type_at_id.result.now c.sub_type_at_id.ensures).continuation c.in_ok-index.index (sym c.continuation_of.ensures ∙ c.in_ok-index.was)
