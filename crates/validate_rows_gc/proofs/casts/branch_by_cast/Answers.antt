use Rattle.std.proofs.Common.{rules, ◌≡◌, List, None, sym, ap}
use Rattle.validation_rules.specs.Casts.{checked_cast, cast_branch_row}
use Rattle.validation_rules.specs.Context.{Context}
use Rattle.validation_rules.specs.Operators.{lookup_row, staying_operator}
use Rattle.validation_rules.specs.Rows.{Head, Row}
use Rattle.validation_rules.specs.Static.{heads}
use Rattle.validate_stacks.specs.State.{body_context}
use Rattle.validate_stacks.specs.Visits.{step_body}
use Rattle.validate_stacks.proofs.AtOnce.{dropped_none}
use Rattle.validate_shapes.proofs.Moves.{moves_barred, moves_found}
use Rattle.validate_rows_gc.specs.Casts.{branch_row, branch_types}
use Rattle.validate_rows_gc.proofs.casts.branch_by_cast.Goals as goal

pub returns-in_err-types : goal.returns-in_err-types
returns-in_err-types g c =
    let md = g.R.WasmModuleResources.context c.args.context.resources.now in
    let v = c.args.context.stacks.now.body in
    let cx = body_context md v in
    let none = λ (n : checked_cast cx c.args.cast ≡ None). ap (λ o. (lookup_row o (λ p. cast_branch_row cx (heads v.present.frames) c.args.cast.relative_depth (branch_types c.args.branch p))).premise) n in
    moves_barred md _ c.args.context.stacks.now (λ cx hs. branch_row c.args.branch cx hs c.args.cast) _ (search rules) (search (rules, none, c.in_err-types.ensures.refused))

pub returns : goal.returns
returns g c =
    let md = g.R.WasmModuleResources.context c.args.context.resources.now in
    let v = c.args.context.stacks.now.body in
    let cx = body_context md v in
    let row : Context → List Head → Row = λ x hs. cast_branch_row x hs c.args.cast.relative_depth (branch_types c.args.branch c.in_ok-types.types) in
    let found = ap (λ o. lookup_row o (λ p. cast_branch_row cx (heads v.present.frames) c.args.cast.relative_depth (branch_types c.args.branch p))) c.in_ok-types.ensures.found in
    let here = ap (step_body md (λ x. staying_operator (row x))) (sym (dropped_none v)) in
    moves_found md _ c.args.context.stacks.now (λ cx hs. branch_row c.args.branch cx hs c.args.cast) _ row _ found (c.cast_branch.ensures (λ x. staying_operator (row x)) here)
