-- Rows of branches: what they want and carry depends on the labels of the open frames (WebAssembly core
-- specification, "Validation: Control Instructions").
-- All of them but `br_if` end the live part. `br_table` wants the default's types, which fit every other
-- target too, and a complete table.
use Rattle.std.specs.Prelude.{ℕ, pred, Bool, true, false, ◌&&◌, List, [], ◌∷◌, ◌++◌, None, length, map, take}
use Rattle.std.specs.Prelude.{drop}
use Rattle.std.specs.List.{list_all}
use Rattle.validation_rules.specs.Context.{ValType, I32, Context}
use Rattle.validation_rules.specs.Rows.{Head, label_types, Plain, Target, Row}
use Rattle.validation_rules.specs.Shapes.{plain_row_if, ending_row_if}

-- ---- labels, counted from the innermost

abbrev pub has_first_label : List Head → Bool
has_first_label [] = false
has_first_label (h ∷ hs) = true

abbrev pub first_label_types : Context → List Head → List ValType
first_label_types cx [] = []
first_label_types cx (h ∷ hs) = label_types cx h

-- label d exists
abbrev pub has_label : List Head → ℕ → Bool
has_label hs d = has_first_label (drop d hs)

abbrev pub has_labels : List Head → List ℕ → Bool
has_labels hs ds = list_all (has_label hs) ds

-- the types that a branch to label d carries
abbrev pub label_types_at : Context → List Head → ℕ → List ValType
label_types_at cx hs d = first_label_types cx (drop d hs)

-- a branch carries the operands in place, of which there are as many as the label's types
abbrev pub target : Context → List Head → ℕ → Target
target cx hs d = record { depth = d; carried = take (length (label_types_at cx hs d)) }

-- ---- rows

abbrev pub br_row : Context → List Head → ℕ → Row
br_row cx hs d =
    record (ending_row_if (has_label hs d) (label_types_at cx hs d)) { targets = target cx hs d ∷ [] }

-- the test lies on top
abbrev pub br_if_row : Context → List Head → ℕ → Row
br_if_row cx hs d =
    record (plain_row_if (has_label hs d) (label_types_at cx hs d ++ I32 ∷ []) (label_types_at cx hs d)) {
      targets = target cx hs d ∷ [];
    }

-- Labels ds and the default d, all of which the operands fit; the table is complete.
abbrev pub br_table_row : Context → List Head → Bool → List ℕ → ℕ → Row
br_table_row cx hs complete ds d =
    record {
      premise = complete && has_labels hs (d ∷ ds);
      reads = None;
      type = Plain (label_types_at cx hs d ++ I32 ∷ []) (map (λ e. label_types_at cx hs e ++ I32 ∷ []) ds) [];
      sets = None;
      targets = map (target cx hs) (d ∷ ds);
      clauses = [];
      ends_live = true;
    }

-- a branch to the outermost label: that of the body, whose types are its results
abbrev pub return_row : Context → List Head → Row
return_row cx hs = br_row cx hs (pred (length hs))
