-- Exact references and descriptors: the order of exact types, what is allocated, whose descriptor is read, and
-- casts by a descriptor.
use Rattle.std.proofs.Common.{◌≡◌, ◌-◌, ◌++◌, ℕ, Bool, true, false, List, [], ◌∷◌, map, Option, Some, None, refl}
use Rattle.validate_resources.specs.Lists.{Declared, may_be_looked_up}
use Rattle.validate_resources.specs.Named.{nothing_declared}
use Rattle.validate_resources.specs.Indices.{is_id}
use Rattle.validate_types.specs.Features.{custom_descriptors}
use Rattle.validate_types.specs.Refs.{reference}
use Rattle.validate_types.specs.declared.heap.AbstractHeapType.TheVariants.{Func, Any, Eq as EqHeap, Struct as StructHeap, Array as ArrayHeap, I31, None as NoneHeap, NoFunc, Extern}
use Rattle.validate_types.specs.declared.heap.HeapType.{HeapType}
use Rattle.validate_types.specs.declared.heap.HeapType.TheVariants.{Exact}
use Rattle.validate_types.specs.declared.heap.UnpackedIndex.{UnpackedIndex}
use Rattle.validate_types.specs.declared.heap.UnpackedIndex.TheVariants.{Module}
use Rattle.validate_types.specs.declared.refs.RefType.{RefType}
use Rattle.validate_types.specs.declared.types.CompositeInnerType.{CompositeInnerType}
use Rattle.validate_types.specs.declared.types.CompositeInnerType.TheVariants.{Struct as StructInner, Array as ArrayInner}
use Rattle.validate_types.specs.declared.types.FieldType.{FieldType}
use Rattle.validate_types.specs.declared.types.StorageType.TheVariants.{I8, Val as Value}
use Rattle.validate_visit.specs.declared.op.ArrayOp.TheVariants.{ArrayNewDefault}
use Rattle.validate_visit.specs.declared.op.Op.{Op}
use Rattle.validate_visit.specs.declared.op.Op.TheVariants.{Struct, Array, Reference}
use Rattle.validate_visit.specs.declared.op.ReferenceOp.TheVariants.{RefFunc, RefGetDesc, RefCastDescEqNonNull, RefCastDescEqNullable, BrOnCastDescEq, BrOnCastDescEqFail}
use Rattle.validate_visit.specs.declared.op.StructOp.TheVariants.{StructNewDesc, StructNewDefaultDesc}
use Rattle.validation_rules.specs.Context.{SubType, ValType, I32, I64, F32, BlockType, Empty, FuncType, Context}
use Rattle.validation_rules.specs.Fits.{MaybeType, Bottom, UnknownRef, Known}
use Rattle.validation_rules.specs.Rows.{body_head}
use Rattle.validation_rules.specs.Static.{State, open_state, step}
use Rattle.validation_rules.specs.Operators.{operator}
use Rattle.validation_rules.proofs.ExampleWords.{null, no_null, abstract, id, concrete, exact, named, of_functions}
use Rattle.validation_rules.proofs.ExampleWords.{every, within, struct_new, struct_new_default, premise_in}

abbrev named_exact : ℕ → HeapType
named_exact i = Exact (Module i)

-- ---- types: 1 is a struct with descriptors of type 2, 3 one below it with descriptors of type 4, which lies below
-- 2; 5 is a struct without, 6 an array, 7 what a block gives, and 8 a struct with descriptors of type 5, and with a
-- field without a default value

abbrev described_type : Option UnpackedIndex → CompositeInnerType → Option UnpackedIndex → Option UnpackedIndex → SubType
described_type above inner descriptor described = record {
  is_final = false;
  supertype_idx = above;
  composite_type = record { inner = inner; shared = false; descriptor_idx = descriptor; describes_idx = described };
}

abbrev field : ValType → FieldType
field t = record { element_type = Value t; mutable = true }

abbrev function : List ValType → CompositeInnerType
function results = of_functions [] results

abbrev types : List SubType
types =
    described_type None (function []) None None
    ∷ described_type None (StructInner (field I32 ∷ [])) (Some (id 2)) None
    ∷ described_type None (StructInner []) None (Some (id 1))
    ∷ described_type (Some (id 1)) (StructInner (field I32 ∷ [])) (Some (id 4)) None
    ∷ described_type (Some (id 2)) (StructInner []) None (Some (id 3))
    ∷ described_type None (StructInner []) None None
    ∷ described_type None (ArrayInner (record { 0 = record { element_type = I8; mutable = true } })) None None
    ∷ described_type None (function (I64 ∷ null (concrete 1) ∷ [])) None None
    ∷ described_type None (StructInner (field (no_null (abstract Func)) ∷ [])) (Some (id 5)) None
    ∷ []

-- functions 0 and 1 may be referred to, and a reference to 1 is exact
abbrev declared : Declared
declared = record nothing_declared { types = types; functions = record { type_index = 0; referenced = true; exact = false } ∷ record { type_index = 0; referenced = true; exact = true } ∷ [] }

it_is_one : may_be_looked_up is_id declared ≡ true
it_is_one = refl

-- one in which an array, or a function, has descriptors is none
abbrev with_type : SubType → Declared
with_type s = record declared { types = types ++ s ∷ [] }

on_structs_alone : map (λ inner. may_be_looked_up is_id (with_type (described_type None inner (Some (id 2)) None))) (StructInner [] ∷ function [] ∷ ArrayInner (record { 0 = field I32 }) ∷ []) ≡ true ∷ false ∷ false ∷ []
on_structs_alone = refl

descriptor_unknown : may_be_looked_up is_id (with_type (described_type None (StructInner []) (Some (id 10)) None)) ≡ false × may_be_looked_up is_id (with_type (described_type None (StructInner []) None (Some (id 10)))) ≡ false
descriptor_unknown = (refl, refl)

abbrev under : ℕ → Context
under bits = within declared bits false

abbrev cx : Context
cx = under every

abbrev without : Context
without = under (every - custom_descriptors)

-- ---- the order

abbrev below : HeapType → HeapType → Bool
below h k = cx.of_module.below (null h) (null k)

exact_up : map (below (exact 3)) (exact 3 ∷ concrete 3 ∷ concrete 1 ∷ abstract StructHeap ∷ abstract EqHeap ∷ abstract Any ∷ []) ≡ true ∷ true ∷ true ∷ true ∷ true ∷ true ∷ []
exact_up = refl

exact_beside : map (below (exact 3)) (exact 1 ∷ concrete 2 ∷ exact 0 ∷ abstract ArrayHeap ∷ abstract Func ∷ abstract NoneHeap ∷ []) ≡ false ∷ false ∷ false ∷ false ∷ false ∷ false ∷ []
exact_beside = refl

-- below it lies what is exact in the same type, and the bottom type of its kind
below_exact : map (λ h. below h (exact 1)) (exact 1 ∷ concrete 1 ∷ exact 3 ∷ concrete 3 ∷ abstract NoneHeap ∷ abstract NoFunc ∷ abstract StructHeap ∷ []) ≡ true ∷ false ∷ false ∷ false ∷ true ∷ false ∷ false ∷ []
below_exact = refl

below_exact_function : map (λ h. below h (exact 0)) (exact 0 ∷ concrete 0 ∷ abstract NoFunc ∷ abstract NoneHeap ∷ []) ≡ true ∷ false ∷ true ∷ false ∷ []
below_exact_function = refl

-- ---- operators

abbrev struct_new_desc : ℕ → Op
struct_new_desc i = Struct (StructNewDesc i)

abbrev struct_new_default_desc : ℕ → Op
struct_new_default_desc i = Struct (StructNewDefaultDesc i)

abbrev get_desc : ℕ → Op
get_desc i = Reference (RefGetDesc i)

abbrev cast_desc : HeapType → Op
cast_desc h = Reference (RefCastDescEqNonNull h)

abbrev cast_desc_null : HeapType → Op
cast_desc_null h = Reference (RefCastDescEqNullable h)

abbrev br_on_cast_desc : ℕ → RefType → RefType → Op
br_on_cast_desc d from to = Reference (BrOnCastDescEq (record { relative_depth = d; from_ref_type = from; to_ref_type = to }))

abbrev br_on_cast_desc_fail : ℕ → RefType → RefType → Op
br_on_cast_desc_fail d from to = Reference (BrOnCastDescEqFail (record { relative_depth = d; from_ref_type = from; to_ref_type = to }))

abbrev state_in : BlockType → List MaybeType → Bool → State
state_in ty own dead = open_state (record { head = body_head ty; operands = own; dead = dead; first_set = [] } ∷ [])

-- the state after the operator over these operands, the top first
abbrev after : Context → Op → List MaybeType → Bool → Option State
after c op own dead = step c (operator c op) (state_in (FuncType 7) own dead)

abbrev Goes : Op → List ValType → List ValType → Type 0
Goes op own left = after cx op (map Known own) false ≡ Some (state_in (FuncType 7) (map Known left) false)

abbrev GoesWithout : Op → List ValType → List ValType → Type 0
GoesWithout op own left = after without op (map Known own) false ≡ Some (state_in (FuncType 7) (map Known left) false)

abbrev GoesInDead : Op → List MaybeType → List MaybeType → Type 0
GoesInDead op own left = after cx op own true ≡ Some (state_in (FuncType 7) left true)

abbrev NoneGoes : List (Op × List ValType) → Type 0
NoneGoes steps = map (λ p. after cx p.0 (map Known p.1) false) steps ≡ map (λ p. None) steps

abbrev NoneGoesInDead : List (Op × List MaybeType) → Type 0
NoneGoesInDead steps = map (λ p. after cx p.0 p.1 true) steps ≡ map (λ p. None) steps

-- what the row asks but for operands
abbrev premise : Context → Op → Bool
premise c op = premise_in c (body_head Empty ∷ []) op

-- ---- what is allocated

allocated : Goes (struct_new 5) [] (no_null (exact 5) ∷ []) × Goes (struct_new_default 5) [] (no_null (exact 5) ∷ []) × Goes (Array (ArrayNewDefault 6)) (I32 ∷ []) (no_null (exact 6) ∷ [])
allocated = (refl, refl, refl)

allocated_without : GoesWithout (struct_new 5) [] (no_null (concrete 5) ∷ []) × GoesWithout (struct_new_default 5) [] (no_null (concrete 5) ∷ []) × GoesWithout (Array (ArrayNewDefault 6)) (I32 ∷ []) (no_null (concrete 6) ∷ [])
allocated_without = (refl, refl, refl)

-- a struct whose type has descriptors gets one, on top: exact in their type, or null
described : Goes (struct_new_desc 1) (no_null (exact 2) ∷ I32 ∷ F32 ∷ []) (no_null (exact 1) ∷ F32 ∷ []) × Goes (struct_new_desc 1) (null (abstract NoneHeap) ∷ I32 ∷ []) (no_null (exact 1) ∷ []) × Goes (struct_new_default_desc 3) (null (exact 4) ∷ []) (no_null (exact 3) ∷ [])
described = (refl, refl, refl)

described_refused : NoneGoes ((struct_new 1, I32 ∷ []) ∷ (struct_new_default 1, []) ∷ (struct_new_desc 1, I32 ∷ []) ∷ (struct_new_desc 1, no_null (concrete 2) ∷ I32 ∷ []) ∷ (struct_new_desc 1, no_null (exact 4) ∷ I32 ∷ []) ∷ (struct_new_desc 1, I32 ∷ no_null (exact 2) ∷ []) ∷ (struct_new_default_desc 1, []) ∷ (struct_new_default_desc 1, no_null (concrete 2) ∷ []) ∷ (struct_new_desc 5, no_null (exact 2) ∷ []) ∷ (struct_new_desc 2, no_null (exact 2) ∷ []) ∷ (struct_new_default_desc 5, []) ∷ (struct_new_default_desc 8, no_null (exact 5) ∷ []) ∷ (struct_new_desc 0, []) ∷ (struct_new_desc 9, []) ∷ [])
described_refused = refl

described_in_dead : GoesInDead (struct_new_desc 1) [] (Known (no_null (exact 1)) ∷ []) × GoesInDead (struct_new_desc 1) (UnknownRef None ∷ []) (Known (no_null (exact 1)) ∷ []) × NoneGoesInDead ((struct_new_desc 5, []) ∷ (struct_new 1, []) ∷ [])
described_in_dead = (refl, refl, refl)

-- a reference to a function is exact where the module says so
functions : Goes (Reference (RefFunc 0)) [] (no_null (concrete 0) ∷ []) × Goes (Reference (RefFunc 1)) [] (no_null (exact 0) ∷ []) × GoesWithout (Reference (RefFunc 1)) [] (no_null (concrete 0) ∷ [])
functions = (refl, refl, refl)

-- ---- `ref.get_desc`

gets : Goes (get_desc 1) (null (concrete 1) ∷ F32 ∷ []) (no_null (concrete 2) ∷ F32 ∷ []) × Goes (get_desc 1) (no_null (concrete 3) ∷ []) (no_null (concrete 2) ∷ [])
gets = (refl, refl)

-- exact of a reference that is exact in the same type, or that is null at the most; not in one below it
gets_exact : Goes (get_desc 1) (null (exact 1) ∷ []) (no_null (exact 2) ∷ []) × Goes (get_desc 1) (null (abstract NoneHeap) ∷ []) (no_null (exact 2) ∷ []) × Goes (get_desc 1) (no_null (exact 3) ∷ []) (no_null (concrete 2) ∷ []) × Goes (get_desc 3) (no_null (exact 3) ∷ []) (no_null (exact 4) ∷ [])
gets_exact = (refl, refl, refl, refl)

gets_in_dead : GoesInDead (get_desc 1) [] (Known (no_null (exact 2)) ∷ []) × GoesInDead (get_desc 1) (UnknownRef None ∷ []) (Known (no_null (exact 2)) ∷ []) × GoesInDead (get_desc 1) (UnknownRef (Some NoneHeap) ∷ []) (Known (no_null (concrete 2)) ∷ []) × GoesInDead (get_desc 1) (Known (null (concrete 1)) ∷ []) (Known (no_null (concrete 2)) ∷ [])
gets_in_dead = (refl, refl, refl, refl)

get_refused : NoneGoes ((get_desc 5, null (concrete 5) ∷ []) ∷ (get_desc 2, null (exact 2) ∷ []) ∷ (get_desc 3, null (concrete 1) ∷ []) ∷ (get_desc 3, null (exact 1) ∷ []) ∷ (get_desc 1, null (abstract StructHeap) ∷ []) ∷ (get_desc 1, I32 ∷ []) ∷ (get_desc 1, []) ∷ (get_desc 0, null (concrete 0) ∷ []) ∷ (get_desc 9, []) ∷ [])
get_refused = refl

get_of_other_known : NoneGoesInDead ((get_desc 5, []) ∷ (get_desc 1, UnknownRef (Some I31) ∷ []) ∷ (get_desc 1, Known (null (concrete 2)) ∷ []) ∷ [])
get_of_other_known = refl

-- ---- casts by a descriptor, which is on top

casts : Goes (cast_desc (named 1)) (null (concrete 2) ∷ null (abstract Any) ∷ F32 ∷ []) (no_null (concrete 1) ∷ F32 ∷ []) × Goes (cast_desc_null (named 1)) (no_null (exact 4) ∷ no_null (abstract EqHeap) ∷ []) (null (concrete 1) ∷ [])
casts = (refl, refl)

-- to an exact type by an exact descriptor, or by null
casts_exact : Goes (cast_desc (named_exact 1)) (null (exact 2) ∷ null (abstract Any) ∷ []) (no_null (exact 1) ∷ []) × Goes (cast_desc_null (named_exact 1)) (null (abstract NoneHeap) ∷ null (concrete 3) ∷ []) (null (exact 1) ∷ [])
casts_exact = (refl, refl)

casts_in_dead : GoesInDead (cast_desc (named_exact 1)) [] (Known (no_null (exact 1)) ∷ []) × GoesInDead (cast_desc (named_exact 1)) (UnknownRef None ∷ []) (Known (no_null (exact 1)) ∷ []) × GoesInDead (cast_desc_null (named 1)) (Known (null (concrete 2)) ∷ UnknownRef None ∷ []) (Known (null (concrete 1)) ∷ [])
casts_in_dead = (refl, refl, refl)

cast_refused : NoneGoes ((cast_desc (named_exact 1), null (concrete 2) ∷ null (abstract Any) ∷ []) ∷ (cast_desc (named_exact 1), null (exact 4) ∷ null (abstract Any) ∷ []) ∷ (cast_desc (named 1), null (abstract Any) ∷ null (concrete 2) ∷ []) ∷ (cast_desc (named 1), null (concrete 1) ∷ null (abstract Any) ∷ []) ∷ (cast_desc (named 1), null (concrete 2) ∷ null (abstract Extern) ∷ []) ∷ (cast_desc (named 1), null (concrete 2) ∷ []) ∷ (cast_desc (named 5), null (concrete 2) ∷ null (abstract Any) ∷ []) ∷ (cast_desc (abstract StructHeap), null (concrete 2) ∷ null (abstract Any) ∷ []) ∷ (cast_desc (concrete 1), null (concrete 2) ∷ null (abstract Any) ∷ []) ∷ (cast_desc (named 9), null (concrete 2) ∷ null (abstract Any) ∷ []) ∷ [])
cast_refused = refl

cast_of_other_known : NoneGoesInDead ((cast_desc (named_exact 1), Known (null (concrete 2)) ∷ []) ∷ (cast_desc (named 5), []) ∷ (cast_desc (named 1), UnknownRef (Some I31) ∷ []) ∷ (cast_desc (named 1), Bottom ∷ Known I32 ∷ []) ∷ [])
cast_of_other_known = refl

-- ---- branches by a cast by a descriptor

abbrev any : Bool → RefType
any nullable = reference nullable (abstract Any)

-- to the body's results: an i64, and a reference to 1
branches : Goes (br_on_cast_desc 0 (any true) (reference true (named 1))) (null (concrete 2) ∷ null (abstract Any) ∷ I64 ∷ F32 ∷ []) (no_null (abstract Any) ∷ I64 ∷ F32 ∷ []) × Goes (br_on_cast_desc 0 (any true) (reference false (named_exact 3))) (null (exact 4) ∷ null (abstract EqHeap) ∷ I64 ∷ []) (null (abstract Any) ∷ I64 ∷ [])
branches = (refl, refl)

branches_fail : Goes (br_on_cast_desc_fail 0 (reference true (named 1)) (reference true (named_exact 3))) (null (exact 4) ∷ null (concrete 1) ∷ I64 ∷ []) (null (exact 3) ∷ I64 ∷ [])
branches_fail = refl

branch_refused : NoneGoes ((br_on_cast_desc 0 (any true) (reference true (named_exact 1)), null (concrete 2) ∷ null (abstract Any) ∷ I64 ∷ []) ∷ (br_on_cast_desc 0 (any true) (reference true (named 1)), null (abstract Any) ∷ I64 ∷ []) ∷ (br_on_cast_desc 0 (any true) (reference true (named 1)), null (concrete 2) ∷ null (abstract Any) ∷ []) ∷ (br_on_cast_desc 0 (any true) (reference true (named 8)), null (concrete 5) ∷ null (abstract Any) ∷ I64 ∷ []) ∷ (br_on_cast_desc_fail 0 (any true) (reference true (named 1)), null (concrete 2) ∷ null (abstract Any) ∷ I64 ∷ []) ∷ (br_on_cast_desc 1 (any true) (reference true (named 1)), null (concrete 2) ∷ null (abstract Any) ∷ I64 ∷ []) ∷ (br_on_cast_desc 0 (reference true (abstract Func)) (reference true (named 1)), null (concrete 2) ∷ null (abstract Func) ∷ I64 ∷ []) ∷ (br_on_cast_desc 0 (any true) (any true), null (concrete 2) ∷ null (abstract Any) ∷ I64 ∷ []) ∷ [])
branch_refused = refl

branch_in_dead : GoesInDead (br_on_cast_desc 0 (any true) (reference true (named_exact 1))) (UnknownRef None ∷ []) (Known (no_null (abstract Any)) ∷ Known I64 ∷ []) × NoneGoesInDead ((br_on_cast_desc 0 (any true) (reference true (named_exact 1)), Known (null (concrete 2)) ∷ []) ∷ [])
branch_in_dead = (refl, refl)

-- ---- without the proposal none of them holds

abbrev on_descriptors : List Op
on_descriptors = struct_new_desc 1 ∷ struct_new_default_desc 1 ∷ get_desc 1 ∷ cast_desc (named 1) ∷ cast_desc_null (named 1) ∷ br_on_cast_desc 0 (any true) (reference true (named 1)) ∷ br_on_cast_desc_fail 0 (any true) (reference true (named 1)) ∷ []

none_without : map (premise without) on_descriptors ≡ map (λ op. false) on_descriptors
none_without = refl
