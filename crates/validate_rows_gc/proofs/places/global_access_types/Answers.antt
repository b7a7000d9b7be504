use Rattle.std.proofs.Common.{[]}
use Rattle.validate_visit.specs.declared.shared.FieldAccess.TheVariants.{Whole}
use Rattle.validate_rows_gc.proofs.AccessRows.{types_valid}
use Rattle.validate_rows_gc.proofs.places.global_access_types.Goals as goal

pub returns-clause-valid : goal.returns-clause-valid
returns-clause-valid g c =
    let md = g.R.WasmModuleResources.context c.args.context.now.resources.now in
    types_valid md (Whole c.args.access) [] c.in_ok-global.global.content_type _ _ c.expected_by.ensures c.pushed_by.ensures tt c.in_ok-global.ensures.valid
