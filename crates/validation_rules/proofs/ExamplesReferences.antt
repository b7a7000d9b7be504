-- References: the order of types, what unknown references fit, and locals that begin unset, computed.
use Rattle.std.specs.Prelude.{◌≡◌, ℕ, Bool, true, false, List, [], ◌∷◌, Option, Some, None, map, refl}
use Rattle.validate_resources.specs.Lists.{Declared, context_of}
use Rattle.validate_resources.specs.Named.{nothing_declared}
use Rattle.validate_types.specs.Types.{is_defaultable}
use Rattle.validate_types.specs.declared.heap.AbstractHeapType.{AbstractHeapType}
use Rattle.validate_types.specs.declared.heap.AbstractHeapType.TheVariants.{Func, NoFunc, Extern, Any, Eq as EqHeap, I31, None as NoneHeap}
use Rattle.validate_types.specs.declared.heap.HeapType.TheVariants.{Abstract, Concrete}
use Rattle.validate_types.specs.declared.heap.UnpackedIndex.TheVariants.{Module}
use Rattle.validate_types.specs.declared.heap.UnpackedIndex.{UnpackedIndex}
use Rattle.validate_types.specs.declared.types.GlobalType.{GlobalType}
use Rattle.validate_visit.specs.declared.op.ControlOp.TheVariants.{GlobalGet, GlobalSet}
use Rattle.validate_visit.specs.declared.op.Op.{Op}
use Rattle.validate_visit.specs.declared.op.Op.TheVariants.{Control}
use Rattle.validation_rules.specs.Context.{SubType, ValType, I32, I64, BlockType, Empty, Val, Context}
use Rattle.validation_rules.specs.Fits.{MaybeType, Bottom, UnknownRef, Known, fits}
use Rattle.validation_rules.specs.Static.{state_before, start}
use Rattle.validation_rules.specs.Operators.{select_result, operators}
use Rattle.validation_rules.proofs.Refusals.{IsRefusedAtLast}
use Rattle.validation_rules.proofs.ExampleWords.{null, no_null, abstract, id, concrete, an_open_type, of_functions}
use Rattle.validation_rules.proofs.ExampleWords.{every, within, unreachable, block, end, return_call, typed_select}
use Rattle.validation_rules.proofs.ExampleWords.{local_get, local_set, DoneUnder}

-- ---- a module of four function types: 1 is declared below 0, 2 below 1, and 3 is shared

abbrev from_nothing : Option UnpackedIndex → Bool → SubType
from_nothing above shared = an_open_type above shared (of_functions [] [])

abbrev types : List SubType
types = from_nothing None false ∷ from_nothing (Some (id 0)) false ∷ from_nothing (Some (id 1)) false ∷ from_nothing None true ∷ []

abbrev globals : List GlobalType
globals = record { content_type = null (abstract Func); mutable = true; shared = false } ∷ []

abbrev declared : Declared
declared = record nothing_declared { types = types; globals = globals }

-- all proposals on; a local of each of four types, of which the second and the fourth begin unset
abbrev locals : List ValType
locals = null (abstract Func) ∷ no_null (abstract Func) ∷ I32 ∷ no_null (concrete 1) ∷ []

abbrev cx : Context
cx = record { of_module = context_of declared; features = record { 0 = 2097151 }; shared = false; locals = locals; set_at_entry = map is_defaultable locals }

abbrev below : ValType → ValType → Bool
below t u = cx.of_module.below t u

-- ---- the order

up_the_chain : map (λ (p : ℕ × ℕ). below (null (concrete p.0)) (null (concrete p.1))) ((0, 0) ∷ (1, 0) ∷ (2, 1) ∷ (2, 0) ∷ []) ≡ true ∷ true ∷ true ∷ true ∷ []
up_the_chain = refl

not_down : map (λ (p : ℕ × ℕ). below (null (concrete p.0)) (null (concrete p.1))) ((0, 1) ∷ (1, 2) ∷ (0, 2) ∷ (3, 0) ∷ (0, 3) ∷ []) ≡ false ∷ false ∷ false ∷ false ∷ false ∷ []
not_down = refl

below_every_function : map (λ i. below (null (concrete i)) (null (abstract Func))) (0 ∷ 1 ∷ 2 ∷ 3 ∷ []) ≡ true ∷ true ∷ true ∷ false ∷ []
below_every_function = refl

shared_apart : below (null (concrete 3)) (null (Abstract true Func)) ≡ true
shared_apart = refl

bottom_below : map (λ i. below (null (abstract NoFunc)) (null (concrete i))) (0 ∷ 1 ∷ 2 ∷ 3 ∷ []) ≡ true ∷ true ∷ true ∷ false ∷ []
bottom_below = refl

function_not_below_a_type : below (null (abstract Func)) (null (concrete 0)) ≡ false
function_not_below_a_type = refl

null_goes_up : below (no_null (abstract Func)) (null (abstract Func)) ≡ true
null_goes_up = refl

null_does_not_go_down : below (null (abstract Func)) (no_null (abstract Func)) ≡ false
null_does_not_go_down = refl

hierarchies : map (λ (p : AbstractHeapType × AbstractHeapType). below (null (abstract p.0)) (null (abstract p.1))) ((I31, EqHeap) ∷ (EqHeap, Any) ∷ (NoneHeap, I31) ∷ (Func, Any) ∷ (Extern, Any) ∷ (Any, EqHeap) ∷ []) ≡ true ∷ true ∷ true ∷ false ∷ false ∷ false ∷ []
hierarchies = refl

-- a type that the module doesn't have, and one by its index in the module, are below nothing
unknown_types : map (λ t. below t t) (null (concrete 4) ∷ null (Concrete (Module 0)) ∷ []) ≡ false ∷ false ∷ []
unknown_types = refl

numbers_apart : map (λ t. below t I32) (null (abstract Func) ∷ null (abstract NoneHeap) ∷ I64 ∷ I32 ∷ []) ≡ false ∷ false ∷ false ∷ true ∷ []
numbers_apart = refl

-- ---- unknown references

any_reference : map (fits cx (UnknownRef None)) (null (abstract Func) ∷ no_null (concrete 0) ∷ no_null (Abstract true Any) ∷ I32 ∷ I64 ∷ []) ≡ true ∷ true ∷ true ∷ false ∷ false ∷ []
any_reference = refl

-- with the sharedness that is expected
some_eq : map (fits cx (UnknownRef (Some EqHeap))) (no_null (abstract EqHeap) ∷ null (abstract Any) ∷ no_null (Abstract true Any) ∷ null (abstract I31) ∷ null (abstract Func) ∷ I32 ∷ []) ≡ true ∷ true ∷ true ∷ false ∷ false ∷ false ∷ []
some_eq = refl

-- ---- `select` takes no reference

selected_numbers : select_result Bottom (Known I64) ≡ Some (Known I64)
selected_numbers = refl

no_references : map (λ (p : MaybeType × MaybeType). select_result p.0 p.1) ((Known (null (abstract Func)), Known (null (abstract Func))) ∷ (Bottom, Known (null (abstract Func))) ∷ (Known (null (abstract Func)), Bottom) ∷ (UnknownRef None, Bottom) ∷ (Bottom, UnknownRef None) ∷ (Known I32, UnknownRef None) ∷ []) ≡ None ∷ None ∷ None ∷ None ∷ None ∷ None ∷ []
no_references = refl

-- ---- bodies

abbrev Done : BlockType → List Op → List MaybeType → Type 0
Done ty ops left = DoneUnder cx ty ops left

abbrev Refused : BlockType → List Op → Type 0
Refused ty ops = IsRefusedAtLast cx ty ops

read_with_default : Done (Val (null (abstract Func))) (local_get 0 ∷ end ∷ []) (Known (null (abstract Func)) ∷ [])
read_with_default = refl

-- a local without a default value is read once it is set
read_before_set : Refused (Val (no_null (abstract Func))) (local_get 1 ∷ [])
read_before_set = refl

read_after_set : Done (Val (no_null (abstract Func))) (unreachable ∷ local_set 1 ∷ local_get 1 ∷ end ∷ []) (Known (no_null (abstract Func)) ∷ [])
read_after_set = refl

-- what a block sets is unset behind it
unset_behind : Refused (Val (no_null (abstract Func))) (block Empty ∷ unreachable ∷ local_set 1 ∷ end ∷ local_get 1 ∷ [])
unset_behind = refl

-- what was set before it stays set
set_before : Done (Val (no_null (abstract Func))) (unreachable ∷ local_set 1 ∷ block Empty ∷ local_get 1 ∷ local_set 1 ∷ end ∷ local_get 1 ∷ end ∷ []) (Known (no_null (abstract Func)) ∷ [])
set_before = refl

-- a function of a type is a function
given_below : Done (Val (null (abstract Func))) (unreachable ∷ local_set 3 ∷ local_get 3 ∷ end ∷ []) (Known (null (abstract Func)) ∷ [])
given_below = refl

expected_below : Refused (Val (no_null (concrete 1))) (local_get 0 ∷ end ∷ [])
expected_below = refl

-- the index of the module becomes the id
written_with_its_type : Done (Val (null (concrete 0))) (unreachable ∷ typed_select (null (Concrete (Module 0))) ∷ end ∷ []) (Known (null (concrete 0)) ∷ [])
written_with_its_type = refl

an_unknown_type : Refused (Val (null (concrete 0))) (unreachable ∷ typed_select (null (Concrete (Module 4))) ∷ [])
an_unknown_type = refl

a_global : Done (Val (null (abstract Func))) (Control (GlobalGet 0) ∷ Control (GlobalSet 0) ∷ Control (GlobalGet 0) ∷ end ∷ []) (Known (null (abstract Func)) ∷ [])
a_global = refl

-- ---- a tail call, whose results may lie below those of the body, and not above

abbrev a_giver : ValType → SubType
a_giver t = record { is_final = true; supertype_idx = None; composite_type = record { inner = of_functions [] (t ∷ []); shared = false; descriptor_idx = None; describes_idx = None } }

abbrev givers : Declared
givers = record nothing_declared { types = a_giver (no_null (abstract Func)) ∷ a_giver (null (abstract Func)) ∷ []; functions = record { type_index = 0; referenced = false; exact = false } ∷ record { type_index = 1; referenced = false; exact = false } ∷ [] }

abbrev calling : Context
calling = within givers every false

results_below : state_before calling (operators calling (return_call 0 ∷ end ∷ [])) (start (Val (null (abstract Func)))) 2 ≡ Some (record { frames = []; left = Known (null (abstract Func)) ∷ [] })
results_below = refl

results_above : state_before calling (operators calling (return_call 1 ∷ [])) (start (Val (no_null (abstract Func)))) 1 ≡ None
results_above = refl
