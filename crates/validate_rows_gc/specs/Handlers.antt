-- The handlers of a `resume`, one by one, as a check makes them (a proposal, "Stack Switching").
use Rattle.std.specs.Prelude.{◌≡◌, ℕ, Bool, false, List, Option, Some, None}
use Rattle.std.specs.List.{list_all}
use Rattle.validate_visit.specs.declared.resume.Handle.{Handle}
use Rattle.validation_rules.specs.Context.{Signature, ValType, Context}
use Rattle.validation_rules.specs.Continuations.{handler_clauses, resuming_row}
use Rattle.validation_rules.specs.Rows.{Head, Clause}
use Rattle.validation_rules.specs.Static.{clauses_fit}

-- clauses that fit, where there are some
abbrev pub are_fitting_clauses : Context → List Head → Option (List Clause) → Bool
are_fitting_clauses cx hs None = false
are_fitting_clauses cx hs (Some clauses) = clauses_fit cx hs clauses

-- its tag is there and fits what is resumed, and its label, where it names one, takes what it carries
abbrev pub is_fitting_handler : Context → List Head → Signature → Handle → Bool
is_fitting_handler cx hs f h = are_fitting_clauses cx hs (handler_clauses cx hs f h)

abbrev pub are_fitting_handlers : Context → List Head → Signature → List Handle → Bool
are_fitting_handlers cx hs f handlers = list_all (is_fitting_handler cx hs f) handlers

-- no operator holds that resumes a continuation of this type with these handlers, whatever else it takes
pub record IsNeverResumed (cx : Context) (hs : List Head) (i : ℕ) (handlers : List Handle) : Type 0 where
  pub barred :
      (expected : Signature → Option (List ValType))
      → (resuming_row cx hs expected i handlers).premise ≡ false
