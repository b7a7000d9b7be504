use Rattle.std.proofs.Common.{rules, sym}
use Rattle.validation_rules.specs.Continuations.{continuation_row}
use Rattle.validation_rules.specs.Operators.{staying_operator}
use Rattle.validate_shapes.proofs.Moves.{moves_barred, moves_found, moves_as}
use Rattle.validate_shapes.specs.Operands.{operands_row}
use Rattle.validate_rows_gc.specs.Targets.{without_targets}
use Rattle.validate_rows_gc.proofs.ResumedRows.{step_without}
use Rattle.validate_rows_gc.proofs.continuations.continuation_operator.Goals as goal

pub returns-in_err-found : goal.returns-in_err-found
returns-in_err-found g c = moves_barred _ _ c.args.context.stacks.now (λ cx hs. continuation_row cx hs c.args.op) _ (search rules) (search (rules, c.in_err-found.ensures.refused))

pub returns : goal.returns
returns g c =
    let md = g.R.WasmModuleResources.context c.args.context.resources.now in
    let s = c.args.context.stacks.now in
    moves_as md _ (λ cx. staying_operator (λ hs. continuation_row cx hs c.args.op)) (λ cx. staying_operator (λ hs. without_targets (continuation_row cx hs c.args.op))) s _
    (sym (step_without md s.body (λ cx hs. continuation_row cx hs c.args.op))) _
    (moves_found md _ s (λ cx hs. without_targets (continuation_row cx hs c.args.op)) _ (λ cx hs. operands_row c.in_ok-found.found) _ c.in_ok-found.ensures.found c.exchange_operands.ensures)
