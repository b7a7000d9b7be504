-- The states that a validator is made in (the crate's own).
use Rattle.std.specs.Prelude.{◌≡◌, ◌⊎◌, ℕ, ◌+◌, ◌<◌, ◌≤◌, Bool, true, false, [], ◌++◌, Some, None, length, map}
use Rattle.std.specs.Prelude.{replicate}
use Rattle.validate_locals.specs.Limit.{max_locals}
use Rattle.validate_resources.specs.Context.{ModuleContext, signature_of, signature_at}
use Rattle.validate_types.specs.Types.{Signature, is_defaultable}
use Rattle.validate_types.specs.declared.features.WasmFeatures.{WasmFeatures}
use Rattle.validate_types.specs.declared.types.SubType.{SubType}
use Rattle.validate_types.specs.declared.types.ValType.{ValType}
use Rattle.validate_visit.specs.declared.frame.BlockType.{BlockType}
use Rattle.validate_visit.specs.declared.frame.BlockType.TheVariants.{Val, FuncType}
use Rattle.validation_rules.specs.Static.{start}
use Rattle.validate_stacks.specs.State.{BodyState}

-- the start of a function's body: one frame of the function's type, its parameters the locals
abbrev pub func_start : WasmFeatures → ℕ → Bool → Signature → BodyState
func_start features index shared signature = record {
  present = start (FuncType index);
  shared = shared;
  features = features;
  locals = signature.params;
  set_at_entry = map (λ _. true) signature.params;
  undone = None;
}

-- the start of a constant expression: one frame that gives this type, and no locals
abbrev pub const_start : WasmFeatures → ValType → BodyState
const_start features ty =
    record {
      present = start (Val ty);
      shared = false;
      features = features;
      locals = [];
      set_at_entry = [];
      undone = None;
    }

-- the type at this index, which is one of functions and hasn't too many parameters, and the state in
-- which a function of it starts
pub record IsFuncStart
    (md : ModuleContext) (features : WasmFeatures) (index : ℕ) (v : BodyState) : Type 0 where
  pub type : SubType
  pub signature : Signature
  pub is_there : md.type_at index ≡ Some type
  pub is_func : signature_of type ≡ Some signature
  pub starts : v ≡ func_start features index type.composite_type.shared signature
  pub within_limit : length signature.params ≤ max_locals

-- the function type at this index has too many parameters
pub record HasTooManyParams (md : ModuleContext) (index : ℕ) : Type 0 where
  pub signature : Signature
  pub is_there : signature_at md index ≡ Some signature
  pub too_many : max_locals < length signature.params

-- with so many more locals of a type, set when the body begins where it has a default value
abbrev pub with_locals : ℕ → ValType → BodyState → BodyState
with_locals count ty v = record v {
  locals = v.locals ++ replicate count ty;
  set_at_entry = v.set_at_entry ++ replicate count (is_defaultable ty);
}

-- so many more locals of the canonical type
pub record DefinesLocals (md : ModuleContext) (count : ℕ) (ty : ValType) (v w : BodyState) : Type 0 where
  pub type : ValType
  pub is_canonical : md.canonical_type v.features ty ≡ Some type
  pub defines : w ≡ with_locals count type v
  pub within_limit : length v.locals + count ≤ max_locals

-- the type is refused, or there would be too many locals
abbrev pub CannotDefine : ModuleContext → ℕ → ValType → BodyState → Type 0
CannotDefine md count ty v = (md.canonical_type v.features ty ≡ None) ⊎ (max_locals < length v.locals + count)
