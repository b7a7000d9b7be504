-- What a function in progress keeps, and what that stands for (the crate's own).
use Rattle.std.specs.Prelude.{◌≡◌, ◌≢◌, true, false, []}
use Rattle.validate_operators.specs.Validator.{state}
use Rattle.wasmparser_validate.specs.Functions.{function_state, IsSound}
use Rattle.c_api.specs.Functions.{InProgress}
use Rattle.c_api.specs.Modules.{module_of, context_in}
use Rattle.c_api.specs.declared.function.FunctionInProgress.TheInside.{Inside}

abbrev pub in_progress : Inside → InProgress
in_progress f =
    function_state f.module f.first_frame (state f.visits.validator) f.visits.accepted.operators f.failed

-- It is sound, as a function validator is, and the mark says whether an operator was accepted.
pub record IsInProgress (f : Inside) : Type 0 where
  pub sound :
      IsSound (context_in (module_of f.module)) f.first_frame (state f.visits.validator)
      f.visits.accepted.operators f.failed
  pub none_before : f.has_operators ≡ false → f.visits.accepted.operators ≡ []
  pub some_before : f.has_operators ≡ true → f.visits.accepted.operators ≢ []
