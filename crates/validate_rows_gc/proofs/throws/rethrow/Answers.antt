use Rattle.std.proofs.Common.{rules, ◌≡◌, false, None, [], refl, ap, ◌∙◌}
use Rattle.validation_rules.specs.Exceptions.{rethrow_row}
use Rattle.validation_rules.specs.Operators.{ending_row, ending_row_if, staying_operator}
use Rattle.validation_rules.specs.Static.{heads}
use Rattle.validate_stacks.specs.Visits.{step_body}
use Rattle.validate_shapes.proofs.LookupRows.{barred}
use Rattle.validate_shapes.proofs.Moves.{unmoved, moves_barred, moves_found}
use Rattle.validate_rows_gc.proofs.TryTables.{caught_there, caught_none}
use Rattle.validate_rows_gc.proofs.throws.rethrow.Given.{Over}
use Rattle.validate_rows_gc.proofs.throws.rethrow.Goals.{Start, Then-not-is_catch_part}
use Rattle.validate_rows_gc.proofs.throws.rethrow.Goals as goal

refused_if_barred : (g : Over) (c : Start g) → (rethrow_row (heads c.args.context.stacks.now.body.present.frames) c.args.relative_depth).premise ≡ false → step_body (g.R.WasmModuleResources.context c.args.context.resources.now) (λ cx. staying_operator (λ hs. rethrow_row hs c.args.relative_depth)) c.args.context.stacks.now.body ≡ None
refused_if_barred g c = barred (g.R.WasmModuleResources.context c.args.context.resources.now) c.args.context.stacks.now.body (λ cx hs. rethrow_row hs c.args.relative_depth)

barred_at_other_part : (g : Over) (c : Then-not-is_catch_part g) → (rethrow_row (heads c.args.context.stacks.now.body.present.frames) c.args.relative_depth).premise ≡ false
barred_at_other_part g c = caught_there (heads c.args.context.stacks.now.body.present.frames) c.args.relative_depth _ c.in_ok-kind.kind c.in_ok-kind.ensures.found ∙ search rules

pub returns-in_err-kind-clause-row : goal.returns-in_err-kind-clause-row
returns-in_err-kind-clause-row g c =
    let none = caught_none (heads c.args.context.stacks.now.body.present.frames) c.args.relative_depth in
    moves_barred _ _ c.args.context.stacks.now (λ cx hs. rethrow_row hs c.args.relative_depth) _ (search rules) (search (rules, none))

pub returns-in_err-kind-clause-idle : goal.returns-in_err-kind-clause-idle
returns-in_err-kind-clause-idle g c =
    search (rules, refused_if_barred g (goal.at.returns-in_err-kind-clause-idle g c).Start (caught_none (heads c.args.context.stacks.now.body.present.frames) c.args.relative_depth c.in_err-kind.ensures.missing))

pub returns-then-not-is_catch_part-clause-row : goal.returns-then-not-is_catch_part-clause-row
returns-then-not-is_catch_part-clause-row g c =
    let at = goal.at.returns-then-not-is_catch_part-clause-row g c in
    let none = refused_if_barred g at.Start (barred_at_other_part g at.Then-not-is_catch_part) in
    unmoved _ _ _ _ _ _ (search rules) refl (search (rules, none))

pub returns-then-not-is_catch_part-clause-idle : goal.returns-then-not-is_catch_part-clause-idle
returns-then-not-is_catch_part-clause-idle g c =
    let at = goal.at.returns-then-not-is_catch_part-clause-idle g c in
    search (rules, refused_if_barred g at.Start (barred_at_other_part g at.Then-not-is_catch_part))

pub returns-clause-row : goal.returns-clause-row
returns-clause-row g c =
    let caught = caught_there (heads c.args.context.stacks.now.body.present.frames) c.args.relative_depth _ c.in_ok-kind.kind c.in_ok-kind.ensures.found ∙ search rules in
    moves_found _ _ c.args.context.stacks.now (λ cx hs. rethrow_row hs c.args.relative_depth) _ (λ cx hs. ending_row []) _ (ap (λ b. ending_row_if b []) caught) c.ending.ensures.row
