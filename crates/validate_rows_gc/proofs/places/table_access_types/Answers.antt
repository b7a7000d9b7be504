use Rattle.std.proofs.Common.{rules, true, [], ◌∷◌, ◌&&◌, sym, ap, ◌∙◌}
use Rattle.validate_types.specs.Types.{address_type_of_table}
use Rattle.validate_visit.specs.declared.shared.FieldAccess.TheVariants.{Whole}
use Rattle.validate_visit.specs.declared.shared.Update.TheVariants.{Value}
use Rattle.validation_rules.specs.Operators.{lookup_row}
use Rattle.validation_rules.specs.Shared.{is_read, is_allowed, place_row, held_by_table}
use Rattle.validation_rules.specs.Tables.{element_of_table}
use Rattle.validate_stacks.specs.State.{body_context}
use Rattle.validate_rows_gc.proofs.AccessRows.{or_true, place_found, types_valid}
use Rattle.validate_rows_gc.proofs.places.table_access_types.Goals as goal

pub returns-clause-row : goal.returns-clause-row
returns-clause-row g c =
    let md = g.R.WasmModuleResources.context c.args.context.now.resources.now in
    let cx = body_context md c.args.context.now.stacks.now.body in
    let table = c.in_ok-table.table in
    let held = held_by_table table in
    let access = Whole (Value c.args.access) in
    ap (λ o. lookup_row o (λ t. place_row cx true access (address_type_of_table t ∷ []) (held_by_table t))) c.in_ok-table.ensures.found
    ∙ place_found cx true access (address_type_of_table table ∷ []) held _ _ _
    (ap (λ b. b && is_allowed md true access held.element_type) (or_true (is_read access)) ∙ sym c.is_allowed-allowed.ensures)
    (search rules) c.pushed_by.ensures

pub returns-clause-valid : goal.returns-clause-valid
returns-clause-valid g c =
    let md = g.R.WasmModuleResources.context c.args.context.now.resources.now in
    types_valid md (Whole (Value c.args.access)) (c.index_type.result ∷ []) (element_of_table c.in_ok-table.table) _ _ c.expected_by.ensures c.pushed_by.ensures (search rules) c.in_ok-table.ensures.element
