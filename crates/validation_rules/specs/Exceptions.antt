-- Operators on exceptions (WebAssembly core specification, "Validation: Control Instructions", throw,
-- throw_ref and try_table), and those of the legacy exceptions: try, catch, catch_all, delegate and rethrow.
-- `rethrow` names the label of a part that caught an exception.
use Rattle.std.specs.Prelude.{ℕ, suc, Bool, true, false, List, [], ◌∷◌, ◌++◌, Option, Some, None}
use Rattle.std.specs.Prelude.{drop, length, nat_eq}
use Rattle.std.specs.Option.{option_and_then, option_map}
use Rattle.validate_types.specs.Refs.{nullable_reference, non_null_reference}
use Rattle.validate_types.specs.declared.heap.AbstractHeapType.TheVariants.{Exn}
use Rattle.validate_types.specs.declared.heap.HeapType.{HeapType}
use Rattle.validate_types.specs.declared.heap.HeapType.TheVariants.{Abstract}
use Rattle.validate_visit.specs.declared.catch.Catch.{Catch}
use Rattle.validate_visit.specs.declared.catch.Catch.TheVariants.{One, OneRef, All, AllRef}
use Rattle.validate_visit.specs.declared.catch.TryTable.{TryTable}
use Rattle.validate_visit.specs.declared.op.ExceptionOp.{ExceptionOp}
use Rattle.validate_visit.specs.declared.op.ExceptionOp.TheVariants.{TryTable as TryTableOp, Throw, ThrowRef}
use Rattle.validate_visit.specs.declared.op.ExceptionOp.TheVariants.{Try, Catch as CatchOp, CatchAll}
use Rattle.validate_visit.specs.declared.op.ExceptionOp.TheVariants.{Delegate, Rethrow}
use Rattle.validation_rules.specs.Blocks.{checked_block, opener}
use Rattle.validation_rules.specs.Branches.{has_label}
use Rattle.validation_rules.specs.Context.{ModuleContext, Signature, ValType, Ref, Context}
use Rattle.validation_rules.specs.Rows.{FrameKind, TryTable as TryTableFrame, LegacyTry, LegacyCatch}
use Rattle.validation_rules.specs.Rows.{LegacyCatchAll, Head, BeginsCatch, Delegates, Clause, Row, Operator}
use Rattle.validation_rules.specs.Rows.{guard}
use Rattle.validation_rules.specs.Shapes.{plain_row_if, never_row, lookup_row, ending_row, ending_row_if}
use Rattle.validation_rules.specs.Shapes.{staying_operator, row_operator, delimiter_operator}

-- ---- tags

-- what an exception carries whose tag is of this type, which gives nothing back
abbrev pub types_carried : Signature → Option (List ValType)
types_carried f = guard (nat_eq (length f.results) 0) (Some f.params)

-- the same of the tag at an index
abbrev pub exception_types : ModuleContext → ℕ → Option (List ValType)
exception_types md tag = option_and_then types_carried (md.tag_at tag)

abbrev pub exception : HeapType
exception = Abstract false Exn

abbrev pub exception_reference : ValType
exception_reference = Ref (non_null_reference exception)

-- ---- clauses of `try_table`

abbrev pub clause_to : ℕ → List ValType → Clause
clause_to label types = record { depth = label; types = types }

-- what the clause carries to its label: what the exception carries, and a reference to it
abbrev pub catch_clause : ModuleContext → Catch → Option Clause
catch_clause md (One tag label) = option_map (clause_to label) (exception_types md tag)
catch_clause md (OneRef tag label) =
    option_map (λ types. clause_to label (types ++ exception_reference ∷ []))
    (exception_types md tag)
catch_clause md (All label) = Some (clause_to label [])
catch_clause md (AllRef label) = Some (clause_to label (exception_reference ∷ []))

-- of each clause, where each tag is there and gives nothing back
abbrev pub catch_clauses : ModuleContext → List Catch → Option (List Clause)
catch_clauses md [] = Some []
catch_clauses md (c ∷ catches) =
    option_and_then (λ clause. option_map (λ others. clause ∷ others) (catch_clauses md catches))
    (catch_clause md c)

-- an operator with these clauses; where one names no tag, one whose row never holds
abbrev pub operator_catching : Operator → Option (List Clause) → Operator
operator_catching op (Some clauses) = record op { row = λ hs. record (op.row hs) { clauses = clauses } }
operator_catching op None = record op { row = λ hs. never_row }

-- the labels of the clauses are counted outside the frame that it opens
abbrev pub try_table_operator : Context → TryTable → Operator
try_table_operator cx t =
    operator_catching (opener cx TryTableFrame [] t.ty (checked_block cx t.ty))
    (catch_clauses cx.of_module t.catches.now)

-- ---- throwing

abbrev pub throw_row : Context → ℕ → Row
throw_row cx tag = lookup_row (exception_types cx.of_module tag) ending_row

-- of a reference to an exception, or of null
abbrev pub throw_ref_row : Row
throw_ref_row = ending_row (Ref (nullable_reference exception) ∷ [])

-- ---- legacy exceptions

-- it begins a part that owns what the exception carries
abbrev pub catch_operator : Option (List ValType) → Operator
catch_operator (Some types) = delimiter_operator (BeginsCatch false types)
catch_operator None = record { form = BeginsCatch false []; row = λ hs. never_row }

-- the label is counted outside the frame that it closes
abbrev pub delegate_operator : ℕ → Operator
delegate_operator d = record { form = Delegates; row = λ hs. plain_row_if (has_label hs (suc d)) [] [] }

-- a part that caught an exception
abbrev pub is_catch_part : FrameKind → Bool
is_catch_part LegacyCatch = true
is_catch_part LegacyCatchAll = true
is_catch_part _ = false

-- the first of these labels is that of such a part
abbrev pub has_first_caught : List Head → Bool
has_first_caught [] = false
has_first_caught (h ∷ hs) = is_catch_part h.kind

abbrev pub rethrow_row : List Head → ℕ → Row
rethrow_row hs d = ending_row_if (has_first_caught (drop d hs)) []

-- ---- the group

abbrev pub exception_operator : Context → ExceptionOp → Operator
exception_operator cx (TryTableOp t) = try_table_operator cx t
exception_operator cx (Throw tag) = row_operator (throw_row cx tag)
exception_operator cx ThrowRef = row_operator throw_ref_row
exception_operator cx (Try bt) = opener cx LegacyTry [] bt (checked_block cx bt)
exception_operator cx (CatchOp tag) = catch_operator (exception_types cx.of_module tag)
exception_operator cx CatchAll = delimiter_operator (BeginsCatch true [])
exception_operator cx (Delegate d) = delegate_operator d
exception_operator cx (Rethrow d) = staying_operator (λ hs. rethrow_row hs d)
