use Rattle.std.proofs.Common.{rules, sym, ap, ◌∙◌}
use Rattle.validation_rules.specs.Rows.{Row}
use Rattle.validation_rules.specs.Operators.{plain_row_if}
use Rattle.validation_rules.specs.Shared.{shared_row}
use Rattle.validate_shapes.specs.Operands.{few_types, pushed_types, operands_row}
use Rattle.validate_shapes.proofs.Moves.{moves_barred, moves_found}
use Rattle.validate_rows_gc.proofs.places.access.Goals as goal

pub returns-in_err-access : goal.returns-in_err-access
returns-in_err-access g c = moves_barred _ _ c.args.context.stacks.now (λ cx hs. shared_row cx c.args.op) _ (search rules) (search (rules, c.in_err-access.ensures.refused))

pub returns-then-access : goal.returns-then-access
returns-then-access g c =
    let md = g.R.WasmModuleResources.context c.args.context.resources.now in
    let t = c.in_ok-access.access in
    let found = c.in_ok-access.ensures.row ∙ (ap (λ b. plain_row_if b (few_types t.expected) (pushed_types t.pushed)) c.if-access.true ∙ ap operands_row (sym c.few.ensures)) in
    moves_found md _ c.args.context.stacks.now (λ cx hs. shared_row cx c.args.op) _ (λ cx hs. operands_row c.few.result) _ found c.exchange_operands.ensures

pub returns-in_err-expect_few : goal.returns-in_err-expect_few
returns-in_err-expect_few g c =
    let none = ap (λ (r : Row). r.premise) c.in_ok-access.ensures.row ∙ c.if-access.false in
    moves_barred _ _ c.args.context.stacks.now (λ cx hs. shared_row cx c.args.op) _ (search rules) (search (rules, none))

pub returns-in_ok-expect_few : goal.returns-in_ok-expect_few
returns-in_ok-expect_few g c =
    let none = ap (λ (r : Row). r.premise) c.in_ok-access.ensures.row ∙ c.if-access.false in
    moves_barred _ _ c.args.context.stacks.now (λ cx hs. shared_row cx c.args.op) _ (search rules) (search (rules, none))
