-- The lists of operators, before an operator lends them (the crate's own).
use Rattle.std.specs.Prelude.{ℕ, Bool, true, false, List, [], ◌∷◌, ◌++◌, Option, Some, None}
use Rattle.validate_types.specs.declared.types.ValType.{ValType}
use Rattle.validate_visit.specs.declared.catch.Catch.{Catch}
use Rattle.validate_visit.specs.declared.frame.BlockType.{BlockType}
use Rattle.script_reader.specs.declared.parts.listed.OperatorList.{OperatorList}
use Rattle.script_reader.specs.declared.parts.listed.OperatorList.TheVariants.{Labels, Types, Catches, Handlers}
use Rattle.script_reader.specs.declared.parts.listed.Resumption.{Resumption}
use Rattle.script_reader.specs.declared.parts.listed.Resumption.TheVariants.{Resume, Throw, ThrowRef}
use Rattle.validate_visit.specs.declared.resume.Handle.{Handle}

-- the labels, the default last
abbrev pub listed_labels : OperatorList → List ℕ
listed_labels (Labels targets default) = targets.items ++ default ∷ []
listed_labels _ = []

abbrev pub listed_types : OperatorList → List ValType
listed_types (Types types) = types.items
listed_types _ = []

-- the type and the clauses of a `try_table`
abbrev pub listed_try_table : OperatorList → Option (BlockType × List Catch)
listed_try_table (Catches ty catches) = Some (ty, catches.items)
listed_try_table _ = None

-- the handlers of a `resume`
abbrev pub listed_handlers : OperatorList → List Handle
listed_handlers (Handlers resumption handlers) = handlers.items
listed_handlers _ = []

-- the indices that a resumption names, in their order
abbrev pub resumption_indices : Resumption → List ℕ
resumption_indices (Resume type) = type ∷ []
resumption_indices (Throw type tag) = type ∷ tag ∷ []
resumption_indices (ThrowRef type) = type ∷ []

-- the type and the handlers of a `resume`
abbrev pub listed_resume : OperatorList → Option (ℕ × List Handle)
listed_resume (Handlers (Resume type) handlers) = Some (type, handlers.items)
listed_resume _ = None

-- the type, the tag and the handlers of a `resume_throw`
abbrev pub listed_throw : OperatorList → Option (ℕ × ℕ × List Handle)
listed_throw (Handlers (Throw type tag) handlers) = Some (type, tag, handlers.items)
listed_throw _ = None

-- the type and the handlers of a `resume_throw_ref`
abbrev pub listed_throw_ref : OperatorList → Option (ℕ × List Handle)
listed_throw_ref (Handlers (ThrowRef type) handlers) = Some (type, handlers.items)
listed_throw_ref _ = None

-- whether the operator with this list opens a block: a `try_table` does
abbrev pub opens_block : OperatorList → Bool
opens_block (Catches ty catches) = true
opens_block _ = false
