-- What a status says of a module in a handle (the crate's own).
use Rattle.std.specs.Prelude.{◌≡◌, ◌≢◌, ◌≤◌, ◌⊎◌, ◌↔◌, ℕ, Some}
use Rattle.module_check.specs.FaultyModule.{HasInvalid, HasMalformed, IsMalformedFunction, IsRefusedFunction}
use Rattle.module_check.specs.Items.{item_count}
use Rattle.module_check.specs.Loaded.{IsAcceptedFunction, IsAcceptedModule, IsSafeFunction, IsValid}
use Rattle.module_check.specs.UncoveredModule.{HasUncovered, IsUncoveredFunction}
use Rattle.module_check.specs.Verdicts.{Reports, total}
use Rattle.module_check.specs.declared.module_verdict.ModuleVerdict.{ModuleVerdict}
use Rattle.module_check.specs.declared.verdict.Item.TheVariants.{Function}
use Rattle.c_api.specs.Calls.{OnHeld, OnModule, OfModule, HasNoModule, HasNoBody, IsDeclared}
use Rattle.c_api.specs.Handle.{MaybeKept}
use Rattle.c_api.specs.Items.{AreSafeFrom, IsReported}

-- what the check of the body of this function answers
pub record BodyAnswer (o : MaybeKept) (function status : ℕ) (v : ModuleVerdict) : Type 0 where
  pub safe : status ≡ 0 → OnModule o (λ m. IsSafeFunction m function)
  pub refused : (status ≡ 1) ⊎ (status ≡ 2) → OnModule o (λ m. ¬ IsAcceptedFunction m function)
  pub invalid : status ≡ 1 → OnModule o (λ m. IsRefusedFunction m function v.offset)
  pub malformed : status ≡ 2 → OnModule o (λ m. IsMalformedFunction m function)
  pub uncovered : status ≡ 4 → OnModule o (λ m. IsUncoveredFunction m function)
  pub reported : status ≢ 0 → status ≢ 6 → Reports (Some (Function function)) v
  pub missing : status ≡ 5 ↔ OnHeld o (λ h. HasNoBody h function)
  pub none : status ≡ 6 ↔ HasNoModule o
  pub known : status ≤ 6

-- that of each body and each constant expression
pub record ModuleAnswer (o : MaybeKept) (status : ℕ) (v : ModuleVerdict) : Type 0 where
  pub valid : status ≡ 0 → OnModule o IsValid
  pub refused : (status ≡ 1) ⊎ (status ≡ 2) → OnModule o (λ m. ¬ IsAcceptedModule m)
  pub invalid : status ≡ 1 → OnModule o HasInvalid
  pub malformed : status ≡ 2 → OnModule o HasMalformed
  pub uncovered : status ≡ 4 → OnModule o HasUncovered
  pub counted : status ≢ 3 → OfModule o (λ m. total v ≡ item_count m)
  pub missing : status ≡ 5 ↔ OnHeld o IsDeclared
  pub none : status ≡ 6 ↔ HasNoModule o
  pub known : status ≤ 6

-- that of those from the place start on, behind which the position is at the place end
pub record NextAnswer (o : MaybeKept) (start end status : ℕ) (v : ModuleVerdict) : Type 0 where
  pub rest : status ≡ 0 → OnModule o (λ m. AreSafeFrom m start)
  pub reported : status ≢ 0 → OfModule o (λ m. IsReported m start end v)
  pub unmoved : (status ≡ 0) ⊎ ((status ≡ 5) ⊎ (status ≡ 6)) → end ≡ start
  pub missing : status ≡ 5 ↔ OnHeld o IsDeclared
  pub none : status ≡ 6 ↔ HasNoModule o
  pub known : status ≤ 6
