-- Rows and operators of one shape, from which the table of operators is built (WebAssembly core
-- specification, "Validation: Instructions").
use Rattle.std.specs.Prelude.{ℕ, Bool, true, false, ◌&&◌, List, [], ◌∷◌, Option, Some, None}
use Rattle.validate_types.specs.Gates.{is_open}
use Rattle.validate_types.specs.declared.gate.Gate.{Gate}
use Rattle.validation_rules.specs.Context.{ValType, I32, I64, Context}
use Rattle.validation_rules.specs.Fits.{MaybeType}
use Rattle.validation_rules.specs.Rows.{Head, Form, Stays, Plain, Looks, Row, Operator}

-- expected and pushed types, where the premise holds; it neither reaches a label nor ends the live part
abbrev pub plain_row_if : Bool → List ValType → List ValType → Row
plain_row_if premise expected pushed =
    record {
      premise = premise;
      reads = None;
      type = Plain expected [] pushed;
      sets = None;
      targets = [];
      clauses = [];
      ends_live = false;
    }

-- one without a premise
abbrev pub plain_row : List ValType → List ValType → Row
plain_row expected pushed = plain_row_if true expected pushed

-- a row that never holds
abbrev pub never_row : Row
never_row = plain_row_if false [] []

-- the row for what a look-up found; where it found nothing, one that never holds
abbrev pub lookup_row : {A : Type 0} → Option A → (A → Row) → Row
lookup_row None row = never_row
lookup_row (Some x) row = row x

-- the row for what two look-ups found; where either found nothing, one that never holds
abbrev pub lookups_row : {A B : Type 0} → Option A → Option B → (A → B → Row) → Row
lookups_row x y row = lookup_row x (λ a. lookup_row y (row a))

-- it ends the live part of its frame
abbrev pub ending_row_if : Bool → List ValType → Row
ending_row_if premise expected = record (plain_row_if premise expected []) { ends_live = true }

abbrev pub ending_row : List ValType → Row
ending_row expected = ending_row_if true expected

-- so many operands, and what is pushed for those found
abbrev pub looking_row_if : Bool → ℕ → (List MaybeType → Option (List MaybeType)) → Row
looking_row_if premise takes gives = record (plain_row_if premise [] []) { type = Looks takes gives }

abbrev pub looking_row : ℕ → (List MaybeType → Option (List MaybeType)) → Row
looking_row takes gives = looking_row_if true takes gives

-- a row that depends on the open frames
abbrev pub staying_operator : (List Head → Row) → Operator
staying_operator row = record { form = Stays; row = row }

-- a row that doesn't
abbrev pub row_operator : Row → Operator
row_operator r = staying_operator (λ hs. r)

-- an operator that closes a frame or a part of it
abbrev pub delimiter_operator : Form → Operator
delimiter_operator form = record { form = form; row = λ hs. plain_row [] [] }

abbrev pub constant_row : ValType → Row
constant_row t = plain_row [] (t ∷ [])

abbrev pub test_row : ValType → Row
test_row t = plain_row (t ∷ []) (I32 ∷ [])

abbrev pub unary_row : ValType → Row
unary_row t = plain_row (t ∷ []) (t ∷ [])

abbrev pub binary_row : ValType → Row
binary_row t = plain_row (t ∷ t ∷ []) (t ∷ [])

abbrev pub comparison_row : ValType → Row
comparison_row t = plain_row (t ∷ t ∷ []) (I32 ∷ [])

abbrev pub conversion_row : ValType → ValType → Row
conversion_row into from = plain_row (from ∷ []) (into ∷ [])

-- on numbers of 128 bits, each in two of 64
abbrev pub wide_binary_row : Row
wide_binary_row = plain_row (I64 ∷ I64 ∷ I64 ∷ I64 ∷ []) (I64 ∷ I64 ∷ [])

-- two numbers of 64 bits to one of 128
abbrev pub wide_multiply_row : Row
wide_multiply_row = plain_row (I64 ∷ I64 ∷ []) (I64 ∷ I64 ∷ [])

-- the row holds where the gate is open too
abbrev pub gated_row : Context → Gate → Row → Row
gated_row cx gate r = record r { premise = is_open cx.features gate && r.premise }

-- the operator, where the gate is open too
abbrev pub gated_operator : Context → Gate → Operator → Operator
gated_operator cx gate op = record { form = op.form; row = λ hs. gated_row cx gate (op.row hs) }
