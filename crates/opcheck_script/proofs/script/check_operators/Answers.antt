use Rattle.std.proofs.Common.{rules, inl, sym, ◌∙◌}
use Rattle.validate_operators.specs.Validator.{state}
use Rattle.opcheck_script.proofs.Reports.{of_module}
use Rattle.opcheck_script.proofs.script.check_operators.Goals as goal

pub returns-in-Ok : goal.returns-in-Ok
returns-in-Ok c =
    let start = c.in-Ok.ensures.starting in
    let ran = c.run_operators.ensures in
    record {
      ordered = search rules;
      declares = search rules;
      report =
          of_module _ _ _ c.in_ok-module.ensures.kept
          (inl (record {
            begun = state c.in-Ok.validator;
            has_locals = c.in-Ok.ensures.locals;
            runs = ran.runs;
            block_type = start.block_type;
            one_frame = start.one_frame;
            safe = λ e. ran.safe e start.block_type start.one_frame;
          }));
      cause = tt;
    }

pub run_operators-requires : goal.run_operators-requires
run_operators-requires c =
    record {
      starting = c.in-Ok.ensures.starting;
      ordered = sym c.is_well_ordered.ensures ∙ c.if-not-is_well_ordered.false;
      each = c.requires.each;
      allowed = c.requires.allowed;
    }
