-- Runs of small bodies with exact references and descriptors: what a machine may do there, with which types, and
-- where it is stuck.
use Rattle.std.proofs.Common.{◌≡◌, true, false, List, [], ◌∷◌, drop, Option, Some, None, refl, sym, subst}
use Rattle.validate_resources.specs.Lists.{Declared, context_of}
use Rattle.validate_resources.specs.Lawful.{lawful_lists}
use Rattle.validate_resources.specs.Named.{nothing_declared}
use Rattle.validate_types.specs.Refs.{reference, non_null_reference, is_exact}
use Rattle.validate_types.specs.declared.heap.AbstractHeapType.TheVariants.{Any, None as NoneHeap}
use Rattle.validate_types.specs.declared.heap.HeapType.TheVariants.{Concrete, Exact}
use Rattle.validate_types.specs.declared.heap.UnpackedIndex.{UnpackedIndex}
use Rattle.validate_types.specs.declared.heap.UnpackedIndex.TheVariants.{Module}
use Rattle.validate_types.specs.declared.types.CompositeInnerType.{CompositeInnerType}
use Rattle.validate_types.specs.declared.types.CompositeInnerType.TheVariants.{Struct as StructInner}
use Rattle.validate_visit.specs.declared.op.Op.{Op}
use Rattle.validate_visit.specs.declared.op.Op.TheVariants.{Reference, Struct}
use Rattle.validate_visit.specs.declared.op.ReferenceOp.TheVariants.{RefGetDesc, RefCastDescEqNonNull, BrOnCastDescEq}
use Rattle.validate_visit.specs.declared.op.StructOp.TheVariants.{StructNewDefault, StructNewDefaultDesc}
use Rattle.validation_rules.specs.Casts.{with_last}
use Rattle.validation_rules.specs.Context.{SubType, ValType, Ref, BlockType, FuncType, Context}
use Rattle.validation_rules.specs.Descriptors.{without_last}
use Rattle.validation_rules.specs.Exact.{declared_heap}
use Rattle.validation_rules.specs.Fits.{MaybeType, Known}
use Rattle.validation_rules.specs.Rows.{Ends, Target, Operator}
use Rattle.validation_rules.specs.Operators.{operators, operator, looking_row, row_operator}
use Rattle.validation_rules.proofs.Steps.{some_injective}
use Rattle.validation_rules.proofs.ExampleWords.{null, no_null, abstract, id, concrete, exact, of_functions}
use Rattle.validation_rules.proofs.ExampleWords.{to_nothing, every, within, block, end, drops, ref_null}
use Rattle.type_safety.specs.Machine.{Label, At, LabelAccepts, Demand, configuration, IsNotStuck, Step}
use Rattle.type_safety.proofs.Outcomes.{holding, by_going_on, by_jumping}
use Rattle.type_safety.specs.Theorem.{IsTypeSafe}
use Rattle.type_safety.proofs.Bodies.{body_safety}
use Rattle.type_safety.proofs.ExampleWords.{block_label, outermost, only, demands_operands, none_there, opens_nothing, is_no_value}

-- ---- a function from nothing to nothing, a struct 1 with descriptors of type 2, and a reference to 1

abbrev described_type : CompositeInnerType → Option UnpackedIndex → Option UnpackedIndex → SubType
described_type inner descriptor described = record {
  is_final = true;
  supertype_idx = None;
  composite_type = record { inner = inner; shared = false; descriptor_idx = descriptor; describes_idx = described };
}

abbrev gives : List ValType → SubType
gives results = described_type (of_functions [] results) None None

abbrev declared : Declared
declared = record nothing_declared { types = gives [] ∷ described_type (StructInner []) (Some (id 2)) None ∷ described_type (StructInner []) None (Some (id 1)) ∷ gives (null (concrete 1) ∷ []) ∷ [] }

abbrev cx : Context
cx = within declared every false

abbrev to_described : BlockType
to_described = FuncType 3

abbrev get_desc : Op
get_desc = Reference (RefGetDesc 1)

abbrev cast_desc : Op
cast_desc = Reference (RefCastDescEqNonNull (Exact (Module 1)))

abbrev new_descriptor : Op
new_descriptor = Struct (StructNewDefault 2)

abbrev new_described : Op
new_described = Struct (StructNewDefaultDesc 1)

abbrev in_body : List ValType → List Label
in_body own = outermost to_nothing own ∷ []

abbrev in_block : List ValType → List Label
in_block own = block_label 0 to_described own ∷ in_body []

-- ---- a descriptor is made, and a struct with it; its descriptor is read, and the struct cast by it

abbrev reading_ops : List Op
reading_ops = new_descriptor ∷ new_described ∷ get_desc ∷ new_described ∷ new_descriptor ∷ cast_desc ∷ drops ∷ end ∷ []

abbrev reading : List Operator
reading = operators cx reading_ops

-- of an exact reference an exact descriptor
reads_exact : Step cx reading (At 2 (in_body (no_null (exact 1) ∷ [])) []) (At 3 (in_body (no_null (exact 2) ∷ [])) [])
reads_exact = (
  operator cx get_desc,
  refl,
  demands_operands (holding _ refl refl) refl refl refl,
  by_going_on (no_null (exact 2) ∷ []) (no_null (exact 2) ∷ []) refl refl refl (refl, tt) refl,
)

-- and of what lies below it: a reference to nothing
reads_of_none : Step cx reading (At 2 (in_body (no_null (abstract NoneHeap) ∷ [])) []) (At 3 (in_body (no_null (exact 2) ∷ [])) [])
reads_of_none = (
  operator cx get_desc,
  refl,
  demands_operands (holding _ refl refl) refl refl refl,
  by_going_on (no_null (exact 2) ∷ []) (no_null (exact 2) ∷ []) refl refl refl (refl, tt) refl,
)

-- of another reference a descriptor that may be exact
reads_below : Step cx reading (At 2 (in_body (null (concrete 1) ∷ [])) []) (At 3 (in_body (no_null (exact 2) ∷ [])) [])
reads_below = (
  operator cx get_desc,
  refl,
  demands_operands (holding _ refl refl) refl refl refl,
  by_going_on (no_null (concrete 2) ∷ []) (no_null (exact 2) ∷ []) refl refl refl (refl, tt) refl,
)

-- a struct is made with an exact descriptor alone
stuck_at_descriptor : IsNotStuck cx reading (At 3 (in_body (no_null (concrete 2) ∷ [])) []) → ⊥
stuck_at_descriptor d =
    let e : operator cx new_described ≡ d.0 = some_injective _ _ d.1 in
    let d' = subst (λ op. Demand cx reading (configuration 3 (block_label 0 to_nothing (no_null (concrete 2) ∷ [])) [] [] op)) (sym e) d.2 in
    is_no_value d'.row.1

-- and cast to an exact type by such a one, above it
casts : Step cx reading (At 5 (in_body (null (exact 2) ∷ no_null (exact 1) ∷ [])) []) (At 6 (in_body (no_null (exact 1) ∷ [])) [])
casts = (
  operator cx cast_desc,
  refl,
  demands_operands (holding _ refl refl) refl refl refl,
  by_going_on (no_null (exact 1) ∷ []) (no_null (exact 1) ∷ []) refl refl refl (refl, tt) refl,
)

stuck_at_cast : IsNotStuck cx reading (At 5 (in_body (null (concrete 2) ∷ no_null (exact 1) ∷ [])) []) → ⊥
stuck_at_cast d =
    let e : operator cx cast_desc ≡ d.0 = some_injective _ _ d.1 in
    let d' = subst (λ op. Demand cx reading (configuration 5 (block_label 0 to_nothing (null (concrete 2) ∷ no_null (exact 1) ∷ [])) [] [] op)) (sym e) d.2 in
    is_no_value d'.row.1

reading_safe : IsTypeSafe cx reading to_nothing
reading_safe = body_safety (context_of declared) (lawful_lists declared refl) cx reading_ops to_nothing refl ([], refl)

-- ---- out of a block of a reference to 1

abbrev branch : Op
branch = Reference (BrOnCastDescEq (record { relative_depth = 0; from_ref_type = reference true (abstract Any); to_ref_type = reference true (Exact (Module 1)) }))

abbrev branching_ops : List Op
branching_ops = block to_described ∷ ref_null (abstract Any) ∷ new_descriptor ∷ branch ∷ drops ∷ ref_null (Concrete (Module 1)) ∷ end ∷ drops ∷ end ∷ []

abbrev branching : List Operator
branching = operators cx branching_ops

-- what is carried in the place of the operand that is cast, which lies under the descriptor
abbrev carrying : Target
carrying = record { depth = 0; carried = λ found. with_last (null (exact 1)) (without_last found) }

abbrev Accepts : Target → Type 0
Accepts t = LabelAccepts cx (drop t.depth (in_block (no_null (exact 2) ∷ null (abstract Any) ∷ []))) (t.carried (null (abstract Any) ∷ no_null (exact 2) ∷ []))

at_branch : Demand cx branching (configuration 3 (block_label 0 to_described (no_null (exact 2) ∷ null (abstract Any) ∷ [])) (in_body []) [] (operator cx branch))
at_branch = record {
  row = holding _ refl refl;
  targets = only (λ t. Accepts t) carrying (refl, tt);
  clauses = λ j c e. absurd (none_there j e);
  no_else = λ h e. absurd (opens_nothing h e refl);
}

-- behind the block, with an exact reference or with one to nothing
leaves : Step cx branching (At 3 (in_block (no_null (exact 2) ∷ null (abstract Any) ∷ [])) []) (At 7 (in_body (no_null (exact 1) ∷ [])) [])
leaves = (
  operator cx branch,
  refl,
  at_branch,
  by_jumping 0 _ refl refl (record { label = block_label 0 to_described (no_null (exact 2) ∷ null (abstract Any) ∷ []); outer = in_body []; is = refl; types = no_null (exact 1) ∷ []; below = (refl, tt); arrives = (6, (Ends, (0, refl), refl), refl) }),
)

-- on, without the descriptor, and it isn't null
stays : Step cx branching (At 3 (in_block (no_null (exact 2) ∷ null (abstract Any) ∷ [])) []) (At 4 (in_block (no_null (abstract Any) ∷ [])) [])
stays = (
  operator cx branch,
  refl,
  at_branch,
  by_going_on (no_null (abstract Any) ∷ []) (no_null (abstract Any) ∷ []) refl refl refl (refl, tt) refl,
)

stuck_without_descriptor : IsNotStuck cx branching (At 3 (in_block (null (abstract Any) ∷ [])) []) → ⊥
stuck_without_descriptor d =
    let e : operator cx branch ≡ d.0 = some_injective _ _ d.1 in
    let d' = subst (λ op. Demand cx branching (configuration 3 (block_label 0 to_described (null (abstract Any) ∷ [])) (in_body []) [] op)) (sym e) d.2 in
    is_no_value d'.row.1

branching_safe : IsTypeSafe cx branching to_nothing
branching_safe = body_safety (context_of declared) (lawful_lists declared refl) cx branching_ops to_nothing refl ([], refl)

-- ---- an operator whose row is wrong: what it reads is exact of exact references alone, and not of those to nothing

abbrev wrong_pushes : List MaybeType → Option (List MaybeType)
wrong_pushes (Known (Ref r) ∷ []) = Some (Known (Ref (non_null_reference (declared_heap (is_exact r.heap_type) (id 2)))) ∷ [])
wrong_pushes _ = None

abbrev wrong : Operator
wrong = row_operator (looking_row 1 wrong_pushes)

abbrev wrong_code : List Operator
wrong_code = wrong ∷ operator cx new_described ∷ []

-- where the rules see an exact reference, the machine may have one to nothing
reads_wrong : Step cx wrong_code (At 0 (in_body (no_null (abstract NoneHeap) ∷ [])) []) (At 1 (in_body (no_null (concrete 2) ∷ [])) [])
reads_wrong = (
  wrong,
  refl,
  demands_operands (holding _ refl refl) refl refl refl,
  by_going_on (no_null (concrete 2) ∷ []) (no_null (concrete 2) ∷ []) refl refl refl (refl, tt) refl,
)

stuck_behind_wrong : IsNotStuck cx wrong_code (At 1 (in_body (no_null (concrete 2) ∷ [])) []) → ⊥
stuck_behind_wrong d =
    let e : operator cx new_described ≡ d.0 = some_injective _ _ d.1 in
    let d' = subst (λ op. Demand cx wrong_code (configuration 1 (block_label 0 to_nothing (no_null (concrete 2) ∷ [])) [] [] op)) (sym e) d.2 in
    is_no_value d'.row.1
