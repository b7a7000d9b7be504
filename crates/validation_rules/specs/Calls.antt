-- The rows of calls and of operators on globals (WebAssembly core specification, "Validation: Control
-- Instructions" and "Variable Instructions"; the shared marks are those of the
-- shared-everything-threads proposal).
-- `global.get` and `global.set` have no gate, whatever the type. A callee is found by the index of its
-- function's type, which is what is marked shared. A tail call's results are tested in dead code too, and
-- they are what is carried to the outermost label.
use Rattle.std.specs.Prelude.{ℕ, pred, Bool, not, ◌&&◌, ◌||◌, List, [], ◌∷◌, Option, Some, length, map}
use Rattle.std.specs.Option.{option_and_then}
use Rattle.validate_resources.specs.Context.{signature_of}
use Rattle.validate_types.specs.declared.types.GlobalType.{GlobalType}
use Rattle.validation_rules.specs.Branches.{has_label, label_types_at}
use Rattle.validation_rules.specs.Context.{Signature, SubType, ValType, Context}
use Rattle.validation_rules.specs.Fits.{Known, all_fit}
use Rattle.validation_rules.specs.Rows.{Head, Row, guard}
use Rattle.validation_rules.specs.Shapes.{plain_row, plain_row_if, ending_row_if, lookup_row}

-- a shared function names what is shared alone
abbrev pub may_access : Context → Bool → Bool
may_access cx shared = not cx.shared || shared

-- ---- globals

abbrev pub accessible_global : Context → GlobalType → Option GlobalType
accessible_global cx g = guard (may_access cx g.shared) (Some g)

-- the type of a global that the function may access
abbrev pub global_type : Context → ℕ → Option GlobalType
global_type cx i = option_and_then (accessible_global cx) (cx.of_module.global_at i)

abbrev pub global_get_row : Context → ℕ → Row
global_get_row cx i = lookup_row (global_type cx i) (λ g. plain_row [] (g.content_type ∷ []))

abbrev pub global_set_row : Context → ℕ → Row
global_set_row cx i = lookup_row (global_type cx i) (λ g. plain_row_if g.mutable (g.content_type ∷ []) [])

-- ---- calls

-- what a type takes and gives, where it is one of functions that may be called
abbrev pub accessible_signature : Context → SubType → Option Signature
accessible_signature cx s = guard (may_access cx s.composite_type.shared) (signature_of s)

-- what function f takes and gives, where it is there and may be called
abbrev pub callee : Context → ℕ → Option Signature
callee cx f =
    option_and_then (accessible_signature cx)
    (option_and_then cx.of_module.type_at (cx.of_module.type_index_of f))

abbrev pub call_row : Context → ℕ → Row
call_row cx f = lookup_row (callee cx f) (λ s. plain_row s.params s.results)

-- the results of a function are as many as the body's, which are those of the outermost label, and each
-- lies below the one in its place
abbrev pub may_return : Context → List Head → List ValType → Bool
may_return cx hs results =
    let outermost = pred (length hs) in
    has_label hs outermost && all_fit cx (map Known results) (label_types_at cx hs outermost)

-- a call whose results the body returns: they are carried to the outermost label
abbrev pub tail_call_row : Context → List Head → List ValType → List ValType → Row
tail_call_row cx hs expected results =
    record (ending_row_if (may_return cx hs results) expected) {
      targets = record { depth = pred (length hs); carried = λ found. results } ∷ [];
    }

abbrev pub return_call_row : Context → List Head → ℕ → Row
return_call_row cx hs f = lookup_row (callee cx f) (λ s. tail_call_row cx hs s.params s.results)
