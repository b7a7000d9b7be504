use Rattle.std.proofs.Common.{◌≡◌, ◌||◌, Bool, true, sym, ap, ◌∙◌}
use Rattle.std.specs.List.{list_any}
use Rattle.validate_operators.specs.Validator.{state}
use Rattle.opcheck_script.specs.Reports.{is_attempted}
use Rattle.opcheck_script.proofs.Reports.{ran_through, refused_at}
use Rattle.opcheck_script.proofs.body.run_operators.Goals as goal
use Rattle.opcheck_script.proofs.body.run_operators.Goals.{in-Ok, in-Err}

pub returns-clause-runs : goal.returns-clause-runs
returns-clause-runs g c =
    let md = g.R.WasmModuleResources.context c.args.resources.now in
    let v = state c.args.v in (
      ap (λ (b : Bool). b || list_any is_attempted c.args.attempts.now) c.if-shows.false ∙ (sym c.has_attempts.ensures ∙ c.if-has_attempts.false),
      elim c.match-check_ops.branch [
        | in-Ok w ↦ ran_through md v c.args.ops.now _ _ _ _ w.outcome-is w.in-Ok.ensures.rows w.in-Ok.ensures.closed w.in-Ok.ensures.heights
        | in-Err w ↦ refused_at md v c.args.ops.now _ _ _ _ w.outcome-is w.in-Err.ensures.refused w.in-Err.ensures.heights
      ],
    )

pub returns-clause-safe : goal.returns-clause-safe
returns-clause-safe g c =
    λ e ty s. (elim c.match-check_ops.branch [
      | in-Ok w ↦ (let is_closed : w.in-Ok.closed ≡ true = cc in w.in-Ok.ensures.safe is_closed ty s)
      | in-Err w ↦ absurd cc
    ])
