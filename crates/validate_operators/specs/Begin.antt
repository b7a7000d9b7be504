-- The states that bodies start in, with their locals, and why one doesn't (the crate's own).
use Rattle.std.specs.Prelude.{◌≡◌, ◌⊎◌, ℕ, List, [], ◌∷◌, Some, None, map, slice_get, take}
use Rattle.validate_types.specs.declared.features.WasmFeatures.{WasmFeatures}
use Rattle.validate_types.specs.declared.types.ValType.{ValType}
use Rattle.validate_resources.specs.Context.{ModuleContext, signature_at}
use Rattle.validate_visit.specs.declared.body.BodyKind.{BodyKind}
use Rattle.validate_visit.specs.declared.body.BodyKind.TheVariants.{Function, Expression}
use Rattle.validate_visit.specs.declared.body.LocalGroup.{LocalGroup}
use Rattle.validate_stacks.specs.State.{BodyState}
use Rattle.validate_operators.specs.Start.{const_start, IsFuncStart, HasTooManyParams, DefinesLocals, CannotDefine}

-- a constant expression starts: its type passes the check, and the frame gives the canonical form
pub record IsExpressionStart
    (md : ModuleContext) (features : WasmFeatures) (ty : ValType) (v : BodyState) : Type 0 where
  pub type : ValType
  pub is_canonical : md.canonical_type features ty ≡ Some type
  pub starts : v ≡ const_start features type

-- a body of this kind starts in this state
abbrev pub IsBodyStart : ModuleContext → WasmFeatures → BodyKind → BodyState → Type 0
IsBodyStart md features (Function index) v = IsFuncStart md features index v
IsBodyStart md features (Expression ty) v = IsExpressionStart md features ty v

-- Why a body can't start: the function's type is unknown, isn't one of functions or has too many
-- parameters, or the expression's type doesn't pass the check.
abbrev pub CannotStart : ModuleContext → WasmFeatures → BodyKind → Type 0
CannotStart md features (Function index) = (signature_at md index ≡ None) ⊎ HasTooManyParams md index
CannotStart md features (Expression ty) = md.canonical_type features ty ≡ None

-- groups of locals, each so many of a type, define them one after another, from the state v on to the state w
abbrev pub DefinesEach : ModuleContext → List (ℕ × ValType) → BodyState → BodyState → Type 0
DefinesEach md [] v w = v ≡ w
DefinesEach md (l ∷ ls) v w = (u : BodyState) × DefinesLocals md l.0 l.1 v u × DefinesEach md ls u w

-- the body's start, with exactly the locals that these groups define
pub record HasLocals
    (md : ModuleContext) (features : WasmFeatures) (kind : BodyKind) (groups : List (ℕ × ValType))
    (w : BodyState) : Type 0 where
  pub start : BodyState
  pub starts : IsBodyStart md features kind start
  pub defines : DefinesEach md groups start w

-- these groups, wherever they stand
abbrev pub without_places : List LocalGroup → List (ℕ × ValType)
without_places groups = map (λ (l : LocalGroup). (l.count, l.ty)) groups

-- a group, the one at this offset, defines no locals in the state that those before it lead to
pub record HasBadGroup
    (md : ModuleContext) (features : WasmFeatures) (kind : BodyKind) (groups : List LocalGroup)
    (offset : ℕ) : Type 0 where
  pub index : ℕ
  pub group : LocalGroup
  pub is_there : slice_get groups index ≡ Some group
  pub at_offset : offset ≡ group.offset
  pub before : BodyState
  pub has_those_before : HasLocals md features kind (without_places (take index groups)) before
  pub cannot : CannotDefine md group.count group.ty before

-- Why a body that begins at the offset `begun` is refused before its operators, and where: it can't start,
-- or a group, the first such, defines no locals.
abbrev pub CannotBegin :
    ModuleContext → WasmFeatures → BodyKind → ℕ → List LocalGroup → ℕ → Type 0
CannotBegin md features kind begun groups offset =
    (CannotStart md features kind × (offset ≡ begun)) ⊎ HasBadGroup md features kind groups offset
