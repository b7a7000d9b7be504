-- Parameters are declared one by one.
use Rattle.std.proofs.Common.{◌≡◌, ℕ, refl, sym, ap, ◌∙◌, subst, Some, is_some, Result, Ok, Err, OnOk}
use Rattle.validate_resources.specs.Context.{ModuleContext, IsLawful, Valid, signature_of}
use Rattle.validate_types.specs.Types.{Signature}
use Rattle.validate_types.specs.ErrorValue.{ErrorValue}
use Rattle.validate_types.specs.declared.features.WasmFeatures.{WasmFeatures}
use Rattle.validate_types.specs.declared.types.SubType.{SubType}
use Rattle.validate_types.specs.declared.types.ValType.{ValType}
use Rattle.validate_visit.specs.declared.frame.BlockType.TheVariants.{Val, FuncType}
use Rattle.validate_visit.specs.declared.frame.FrameKind.TheVariants.{Block}
use Rattle.validate_stacks.specs.State.{BodyState, IsStarting}
use Rattle.validate_stacks.specs.Steps.{body_with_frame, empty_body}
use Rattle.validate_operators.specs.Start.{func_start, const_start}

-- the state that a function's body starts in is a starting one
func_starts : (md : ModuleContext) (features : WasmFeatures) (i : ℕ) (s : SubType) (f : Signature) → IsLawful md → md.type_at i ≡ Some s → signature_of s ≡ Some f
    → IsStarting md (func_start features i s.composite_type.shared f)
func_starts md features i s f laws h k =
    record {
      block_type = FuncType i;
      one_frame = refl;
      none_pending = refl;
      is_valid = record {
        locals_valid = (laws.types i s h).params f k;
        frames = (record { block = record { type = s; is_there = h; is_func = ap is_some k; is_shared = λ e. e }; operands = tt }, tt);
        left = tt;
      };
    }

pub starting_func : (md : ModuleContext) (features : WasmFeatures) (i : ℕ) (s : SubType) (f : Signature) (r : Result (Unit {0}) ErrorValue) (w : BodyState) → IsLawful md → md.type_at i ≡ Some s → signature_of s ≡ Some f
    → OnOk r (w ≡ func_start features i s.composite_type.shared f) → OnOk r (IsStarting md w)
starting_func md features i s f (Err e) w laws h j k = tt
starting_func md features i s f (Ok u) w laws h j k = subst (IsStarting md) (sym k) (func_starts md features i s f laws h j)

-- so is the state that a constant expression starts in
const_starts : (md : ModuleContext) (features : WasmFeatures) (ty : ValType) (w : BodyState) → w ≡ const_start features ty → Valid md ty → IsStarting md w
const_starts md features ty w e h =
    subst (IsStarting md) (sym e)
    (record {
      block_type = Val ty;
      one_frame = refl;
      none_pending = refl;
      is_valid = record { locals_valid = tt; frames = (record { block = h; operands = tt }, tt); left = tt };
    })

pub starting_const : (features : WasmFeatures) (ty : ValType) (r : Result (Unit {0}) ErrorValue) (v w : BodyState) → v ≡ empty_body features → OnOk r (w ≡ body_with_frame Block (Val ty) v) → OnOk r ((md : ModuleContext) → Valid md ty → IsStarting md w)
starting_const features ty (Err e) v w empty k = tt
starting_const features ty (Ok u) v w empty k = λ md. const_starts md features ty w (k ∙ ap (body_with_frame Block (Val ty)) empty)
