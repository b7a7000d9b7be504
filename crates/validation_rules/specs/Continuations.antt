-- The rows of operators on continuations (a proposal, "Stack Switching": validation of cont.new, cont.bind,
-- suspend, resume, resume_throw, resume_throw_ref and switch).
-- `cont.bind` binds the first parameters, and what is left is below the second type. The label of a handler
-- ends with a reference to a continuation that takes what the tag gives back and gives what the resumed one
-- gives. In `switch` the tag takes nothing, the last parameter is a continuation too, and both give what
-- the tag gives back; the operands are the other parameters, and above them the continuation.
use Rattle.std.specs.Prelude.{ℕ, Bool, false, ◌&&◌, ◌-◌, List, [], ◌∷◌, ◌++◌, Option, Some, None, map, take}
use Rattle.std.specs.Prelude.{drop, length, nat_eq, nat_le}
use Rattle.std.specs.Option.{option_and_then, option_map}
use Rattle.validate_resources.specs.Context.{continued_signature, continuation_of}
use Rattle.validate_types.specs.Refs.{nullable_reference, non_null_reference}
use Rattle.validate_types.specs.Signatures.{is_signature_below}
use Rattle.validate_types.specs.declared.heap.CoreTypeId.{CoreTypeId}
use Rattle.validate_types.specs.declared.heap.HeapType.TheVariants.{Concrete}
use Rattle.validate_types.specs.declared.heap.UnpackedIndex.{UnpackedIndex}
use Rattle.validate_visit.specs.Arity.{id_in}
use Rattle.validate_visit.specs.declared.op.ContinuationOp.{ContinuationOp}
use Rattle.validate_visit.specs.declared.op.ContinuationOp.TheVariants.{ContNew, ContBind, Suspend, Resume}
use Rattle.validate_visit.specs.declared.op.ContinuationOp.TheVariants.{ResumeThrow, ResumeThrowRef, Switch}
use Rattle.validate_visit.specs.declared.resume.Handle.{Handle}
use Rattle.validate_visit.specs.declared.resume.Handle.TheVariants.{OnLabel, OnSwitch}
use Rattle.validation_rules.specs.Branches.{label_types_at}
use Rattle.validation_rules.specs.Calls.{may_access}
use Rattle.validation_rules.specs.Casts.{split_last}
use Rattle.validation_rules.specs.Context.{ModuleContext, Signature, SubType, ValType, Ref, Context}
use Rattle.validation_rules.specs.Exceptions.{clause_to, exception, exception_types}
use Rattle.validation_rules.specs.Indirect.{type_reference}
use Rattle.validation_rules.specs.Rows.{Head, Clause, Target, Row, guard}
use Rattle.validation_rules.specs.Shapes.{plain_row, plain_row_if, lookup_row, lookups_row}
use Rattle.validation_rules.specs.Static.{clauses_fit}

-- ---- continuation types

-- the index of its function type, where it is one of continuations that the function may access
abbrev pub accessible_continuation : Context → SubType → Option UnpackedIndex
accessible_continuation cx s = guard (may_access cx s.composite_type.shared) (continuation_of s)

abbrev pub continuation_type : Context → ℕ → Option UnpackedIndex
continuation_type cx i = option_and_then (accessible_continuation cx) (cx.of_module.type_at i)

-- what a continuation of the type at this index still takes and gives
abbrev pub continuation_signature : Context → ℕ → Option Signature
continuation_signature cx i =
    option_and_then (continued_signature cx.of_module) (continuation_type cx i)

-- the same of the type that an id names
abbrev pub named_continuation : ModuleContext → CoreTypeId → Option Signature
named_continuation md id =
    option_and_then (continued_signature md) (option_and_then continuation_of (md.type_of_id id))

-- the same of the type that a concrete reference is to
abbrev pub referenced_continuation : ModuleContext → ValType → Option Signature
referenced_continuation md (Ref r) = option_and_then (named_continuation md) (id_in r.heap_type)
referenced_continuation md _ = None

-- the one type is below the other, as types of functions (Specification, "Matching: Function Types")
abbrev pub is_function_below : ModuleContext → Signature → Signature → Bool
is_function_below md f g = is_signature_below md.below f.params f.results g.params g.results

abbrev pub function : List ValType → List ValType → Signature
function params results = record { params = params; results = results }

-- ---- handlers, of what is resumed and still takes and gives f

-- what the continuation of a suspension takes and gives: what the tag gives back, and what f gives
abbrev pub continues : ModuleContext → Signature → Signature → Option Signature → Bool
continues md f tag None = false
continues md f tag (Some g) = is_function_below md (function tag.results f.results) g

-- what is carried to this label: what the tag carries, and the continuation
abbrev pub suspension_clause :
    ModuleContext → Signature → ℕ → Signature → List ValType × ValType → Option Clause
suspension_clause md f label tag p =
    guard (continues md f tag (referenced_continuation md p.1))
    (Some (clause_to label (tag.params ++ p.1 ∷ [])))

-- a tag by which continuations are switched that give what f gives
abbrev pub is_switch_tag : ModuleContext → Signature → Signature → Bool
is_switch_tag md f tag =
    is_function_below md tag (function [] f.results) && is_function_below md (function [] f.results) tag

-- what a handler carries to a label, where it names one
abbrev pub handler_clauses : Context → List Head → Signature → Handle → Option (List Clause)
handler_clauses cx hs f (OnLabel tag label) =
    option_and_then
    (λ s. option_map (λ c. c ∷ [])
    (option_and_then (suspension_clause cx.of_module f label s) (split_last (label_types_at cx hs label))))
    (cx.of_module.tag_at tag)
handler_clauses cx hs f (OnSwitch tag) =
    option_and_then (λ s. guard (is_switch_tag cx.of_module f s) (Some [])) (cx.of_module.tag_at tag)

-- the same of each handler
abbrev pub all_clauses : Context → List Head → Signature → List Handle → Option (List Clause)
all_clauses cx hs f [] = Some []
all_clauses cx hs f (h ∷ handlers) =
    option_and_then (λ clauses. option_map (λ others. clauses ++ others) (all_clauses cx hs f handlers))
    (handler_clauses cx hs f h)

-- a handler is taken as a branch
abbrev pub clause_target : Clause → Target
clause_target c = record { depth = c.depth; carried = λ found. c.types }

-- ---- rows

-- of a function, with null or without, a continuation that starts it
abbrev pub cont_new_row : Context → ℕ → Row
cont_new_row cx i =
    lookups_row (continuation_type cx i) (type_reference cx non_null_reference i)
    (λ f t. plain_row (Ref (nullable_reference (Concrete f)) ∷ []) (t ∷ []))

-- how many of the parameters of f are bound where g is left to take
abbrev pub bound_count : Signature → Signature → ℕ
bound_count f g = length f.params - length g.params

-- the first parameters are bound: what is left is below what a continuation of the second type has
abbrev pub may_bind : ModuleContext → Signature → Signature → Bool
may_bind md f g =
    nat_le (length g.params) (length f.params)
    && is_function_below md (function (drop (bound_count f g) f.params) f.results) g

abbrev pub cont_bind_row : Context → ℕ → ℕ → Row
cont_bind_row cx i j =
    lookups_row (continuation_signature cx i) (continuation_signature cx j)
    (λ f g. lookups_row (type_reference cx nullable_reference i) (type_reference cx non_null_reference j)
    (λ t u. plain_row_if (may_bind cx.of_module f g) (take (bound_count f g) f.params ++ t ∷ []) (u ∷ [])))

abbrev pub suspend_row : Context → ℕ → Row
suspend_row cx tag = lookup_row (cx.of_module.tag_at tag) (λ s. plain_row s.params s.results)

-- to what these operands and a continuation that gives f's results leave, or to the labels of its handlers
abbrev pub resumed_row : Context → List Head → Signature → List ValType → ValType → List Clause → Row
resumed_row cx hs f expected t clauses =
    record (plain_row_if (clauses_fit cx hs clauses) (expected ++ t ∷ []) f.results) {
      targets = map clause_target clauses;
    }

-- a continuation of the type at this index, above what it is resumed with
abbrev pub resuming_row : Context → List Head → (Signature → Option (List ValType)) → ℕ → List Handle → Row
resuming_row cx hs expected i handlers =
    lookups_row (continuation_signature cx i) (type_reference cx nullable_reference i)
    (λ f t. lookups_row (expected f) (all_clauses cx hs f handlers)
    (λ ts clauses. resumed_row cx hs f ts t clauses))

abbrev pub resume_row : Context → List Head → ℕ → List Handle → Row
resume_row cx hs i handlers = resuming_row cx hs (λ f. Some f.params) i handlers

-- what an exception with the tag carries
abbrev pub resume_throw_row : Context → List Head → ℕ → ℕ → List Handle → Row
resume_throw_row cx hs i tag handlers =
    resuming_row cx hs (λ f. exception_types cx.of_module tag) i handlers

abbrev pub resume_throw_ref_row : Context → List Head → ℕ → List Handle → Row
resume_throw_ref_row cx hs i handlers =
    resuming_row cx hs (λ f. Some (Ref (nullable_reference exception) ∷ [])) i handlers

-- what a tag by which continuations are switched gives back, where it carries nothing
abbrev pub switch_types : Signature → Option (List ValType)
switch_types s = guard (nat_eq (length s.params) 0) (Some s.results)

-- f leads back to the continuation that it takes last, which takes g: both give what the tag says
abbrev pub may_switch : ModuleContext → List ValType → Signature → Signature → Bool
may_switch md types f g = is_function_below md (function types types) (function f.results g.results)

abbrev pub switched_row : Context → List ValType → Signature → ValType → List ValType × ValType → Row
switched_row cx types f t p =
    lookup_row (referenced_continuation cx.of_module p.1)
    (λ g. plain_row_if (may_switch cx.of_module types f g) (p.0 ++ t ∷ []) g.params)

abbrev pub switch_row : Context → ℕ → ℕ → Row
switch_row cx i tag =
    lookups_row (continuation_signature cx i) (type_reference cx nullable_reference i)
    (λ f t. lookups_row (option_and_then switch_types (cx.of_module.tag_at tag)) (split_last f.params)
    (λ types p. switched_row cx types f t p))

-- ---- the group

abbrev pub continuation_row : Context → List Head → ContinuationOp → Row
continuation_row cx hs (ContNew i) = cont_new_row cx i
continuation_row cx hs (ContBind i j) = cont_bind_row cx i j
continuation_row cx hs (Suspend tag) = suspend_row cx tag
continuation_row cx hs (Resume i table) = resume_row cx hs i table.handlers.now
continuation_row cx hs (ResumeThrow i tag table) = resume_throw_row cx hs i tag table.handlers.now
continuation_row cx hs (ResumeThrowRef i table) = resume_throw_ref_row cx hs i table.handlers.now
continuation_row cx hs (Switch i tag) = switch_row cx i tag
