use Rattle.std.proofs.Common.{[], ◌∷◌, sym, subst}
use Rattle.validate_resources.specs.Context.{Valid}
use Rattle.validate_rows_gc.proofs.AccessRows.{types_valid}
use Rattle.validate_rows_gc.proofs.places.struct_access_types.Goals as goal

pub returns-clause-valid : goal.returns-clause-valid
returns-clause-valid g c =
    let md = g.R.WasmModuleResources.context c.args.context.now.resources.now in
    types_valid md c.args.access (c.in_ok-holder.holder ∷ []) c.unpack-value.result _ _ c.expected_by.ensures c.pushed_by.ensures (c.in_ok-holder.ensures.valid, tt) (subst (Valid md) (sym c.unpack-value.ensures) c.in_ok-held.ensures.valid)
