-- What stays the same while a body is validated (WebAssembly core specification, "Validation:
-- Contexts", with the features and the mark of a shared function, which are the crate's own).
pub use Rattle.validate_resources.specs.Context.{ModuleContext, IsValidBelow}
pub use Rattle.validate_types.specs.Types.{Signature}
pub use Rattle.validate_types.specs.declared.features.WasmFeatures.{WasmFeatures}
pub use Rattle.validate_types.specs.declared.types.SubType.{SubType}
pub use Rattle.validate_types.specs.declared.types.ValType.{ValType}
pub use Rattle.validate_types.specs.declared.types.ValType.TheVariants.{I32, I64, F32, F64, V128, Ref}
pub use Rattle.validate_visit.specs.declared.frame.BlockType.{BlockType}
pub use Rattle.validate_visit.specs.declared.frame.BlockType.TheVariants.{Empty, Val, FuncType}
use Rattle.std.specs.Prelude.{Bool, List, [], ◌∷◌, unwrap_or}
use Rattle.std.specs.List.{AllZip}
use Rattle.validate_resources.specs.Context.{signature_at}

pub record Context : Type 0 where
  -- the module's look-ups, and the order on its types: false where either side isn't valid
  pub of_module : ModuleContext
  -- the proposals that are on
  pub features : WasmFeatures
  -- whether the function is shared
  pub shared : Bool
  -- the types of the locals, the parameters first
  pub locals : List ValType
  -- which of the locals are set when the body begins: the parameters, and those with a default value
  pub set_at_entry : List Bool

-- as many, and each below its place (Specification, "Matching: Result Types")
abbrev pub AllBelow : Context → List ValType → List ValType → Type 0
AllBelow cx ts us = AllZip (IsValidBelow cx.of_module) ts us

-- takes nothing and gives nothing
abbrev pub empty_signature : Signature
empty_signature = record { params = []; results = [] }

-- what a block type stands for (Specification, "Validation: Block Types"); nothing, where it names no
-- type of functions
abbrev pub block_signature : ModuleContext → BlockType → Signature
block_signature md Empty = empty_signature
block_signature md (Val t) = record { params = []; results = t ∷ [] }
block_signature md (FuncType i) = unwrap_or (signature_at md i) empty_signature
