-- A function that is begun over a module, in a handle.
use Rattle.std.proofs.Common.{◌≡◌, ℕ, List, Option, None, Some, Result, Ok, Err, IfOk, sym, ap, ◌∙◌, subst}
use Rattle.std.specs.Prelude.{MatchResult, IfSome}
use Rattle.module_check.specs.declared.verdict.Verdict.{Verdict}
use Rattle.binary_operators.specs.declared.types.CanonicalTypes.{CanonicalTypes}
use Rattle.module_check.specs.Begin.{DefinesRead}
use Rattle.module_check.specs.Loaded.{declared, features_of}
use Rattle.module_check.specs.declared.loaded.LoadedModule.{LoadedModule}
use Rattle.module_rules.specs.Features.{operator_features}
use Rattle.wasmparser_validate.specs.Functions.{function_from}
use Rattle.validate_operators.specs.Begin.{IsBodyStart, CannotStart}
use Rattle.validate_operators.specs.Start.{IsFuncStart}
use Rattle.validate_resources.specs.Context.{ModuleContext}
use Rattle.validate_stacks.specs.State.{BodyState, IsStarting}
use Rattle.validate_types.specs.declared.features.WasmFeatures.{WasmFeatures}
use Rattle.validate_visit.specs.declared.body.BodyKind.{BodyKind}
use Rattle.c_api.specs.Bodies.{StartsBody, StartsWithLocals, IsBodyBegun}
use Rattle.c_api.specs.Calls.{OnWhole, OnHeld}
use Rattle.c_api.specs.FunctionCalls.{OnFunction}
use Rattle.c_api.specs.Functions.{InProgress, IsBegun, module_under}
use Rattle.c_api.specs.Handle.{MaybeKept}
use Rattle.c_api.specs.Modules.{context_in, features_in, module_of}
use Rattle.c_api.specs.declared.body_calls.BodyPlace.{BodyPlace}
use Rattle.c_api.specs.declared.kept.Kept.TheVariants.{Module, Function}
use Rattle.c_api.specs.declared.shared.HeldModule.{HeldModule}
use Rattle.c_api.specs.declared.shared.HeldModule.TheVariants.{Whole, Declared}
use Rattle.c_api.specs.declared.shared.SharedModule.{SharedModule}

-- what holds of a module holds of the one in a handle that has the same
pub on_same : (o : MaybeKept) (h : HeldModule) (P : HeldModule → Type 0) → OnHeld o (λ i. h ≡ i) → P h → OnHeld o P
on_same None h P same p = absurd same
on_same (Some (Module s)) h P same p = subst P same p
on_same (Some (Function f)) h P same p = absurd same

-- the function that was begun is in the handle
pub kept_begun : (r : Result InProgress Verdict) (o : MaybeKept) (P : InProgress → Type 0) → IfOk r P → MatchResult r (λ f. o ≡ Some (Function f)) (λ _. ⊥) → OnFunction o P
kept_begun (Ok f) o P p e = subst (λ x. OnFunction x P) (sym e) p
kept_begun (Err v) o P p e = absurd e

module _ (s : SharedModule) (v : BodyState) (index first behind : ℕ) where
  over_whole : (f : InProgress) (h : HeldModule) → module_of s ≡ h → f ≡ function_from s v → OnWhole h (λ m. StartsBody m index first behind v) → OnWhole h (λ m. IsBodyBegun m index first behind f)
  over_whole f (Whole m) e k starts = record {
    is_module = ap module_under k ∙ e;
    is_start = k ∙ sym (ap (λ (g : InProgress). function_from g.resources g.starting) k);
    starts = subst (StartsBody m index first behind) (sym (ap (λ (g : InProgress). g.starting) k)) starts;
  }
  over_whole f (Declared d) e k starts = starts

  -- so is that of a body
  pub body_begun : (o : MaybeKept) → OnWhole (module_of s) (λ m. StartsBody m index first behind v) → OnFunction o (λ f. f ≡ function_from s v) → OnWhole (module_of s) (λ m. OnFunction o (IsBodyBegun m index first behind))
  body_begun None starts k = absurd k
  body_begun (Some (Module x)) starts k = absurd k
  body_begun (Some (Function f)) starts k = over_whole f (module_of s) (λ i. module_of s) k starts

  -- and of one that was kept, if there was memory for it
  pub place_begun : (r : Option BodyPlace) (o : MaybeKept) (status : ℕ) → OnWhole (module_of s) (λ m. StartsBody m index first behind v) → IfSome r (λ p. (status ≡ 0) × (p.first ≡ first) × (p.behind ≡ behind) × OnFunction o (λ f. f ≡ function_from s v)) → IfSome r (λ p. (status ≡ 0) × OnWhole (module_of s) (λ m. OnFunction o (IsBodyBegun m index p.first p.behind)))
  place_begun None o status starts k = tt
  place_begun (Some p) o status starts k = (
    k.0,
    subst (λ (n : ℕ). OnWhole (module_of s) (λ m. OnFunction o (IsBodyBegun m index n p.behind))) (sym k.1)
        (subst (λ (n : ℕ). OnWhole (module_of s) (λ m. OnFunction o (IsBodyBegun m index first n))) (sym k.2) (body_begun o starts k.3)),
  )

-- the lookup is what the module declares
module _ (m : LoadedModule) (md : ModuleContext) (is : md ≡ declared m) where
  pub starting_in : (v : BodyState) → IsStarting md v → IsStarting (declared m) v
  starting_in v starts = subst (λ (x : ModuleContext). IsStarting x v) is starts

  pub starts_with_locals : (fs : WasmFeatures) → fs ≡ operator_features (features_of m) → (ty : ℕ) (types : CanonicalTypes) (bytes behind : List ℕ) (v w : BodyState) → IsFuncStart md fs ty v → DefinesRead md types bytes behind v w → StartsWithLocals m ty types bytes behind w
  starts_with_locals fs on ty types bytes behind v w made defined = record {
    start = v;
    of_type = subst (λ (x : WasmFeatures). IsFuncStart (declared m) x ty v) on (subst (λ (x : ModuleContext). IsFuncStart x fs ty v) is made);
    has_locals = subst (λ (x : ModuleContext). DefinesRead x types bytes behind v w) is defined;
  }

  -- what is answered of the validator, whatever it is of
  module _ {V : Type 0} (state : V → BodyState) where
    pub all_starting : {E : Type 0} → (r : Result V E) → IfOk r (λ v. IsStarting md (state v)) → IfOk r (λ v. IsStarting (declared m) (state v))
    all_starting (Ok v) starts = starting_in (state v) starts
    all_starting (Err e) starts = tt

    pub all_with_locals : {E : Type 0} → (r : Result V E) (fs : WasmFeatures) → fs ≡ operator_features (features_of m) → (ty : ℕ) (types : CanonicalTypes) (bytes behind : List ℕ) (v : BodyState) → IsFuncStart md fs ty v → IfOk r (λ w. DefinesRead md types bytes behind v (state w)) → IfOk r (λ w. StartsWithLocals m ty types bytes behind (state w))
    all_with_locals (Ok w) fs on ty types bytes behind v made defined = starts_with_locals fs on ty types bytes behind v (state w) made defined
    all_with_locals (Err e) fs on ty types bytes behind v made defined = tt

-- a body starts in the lookup of the module that is held, under its proposals
module _ (h : HeldModule) (md : ModuleContext) (is : md ≡ context_in h) where
  pub starting_over : (v : BodyState) → IsStarting md v → IsStarting (context_in h) v
  starting_over v starts = subst (λ (x : ModuleContext). IsStarting x v) is starts

  module _ (fs : WasmFeatures) (on : fs ≡ features_in h) (kind : BodyKind) where
    pub made_over : (v : BodyState) → IsBodyStart md fs kind v → IsBodyStart (context_in h) (features_in h) kind v
    made_over v made = subst (λ (x : WasmFeatures). IsBodyStart (context_in h) x kind v) on (subst (λ (x : ModuleContext). IsBodyStart x fs kind v) is made)

    pub cannot_start : CannotStart md fs kind → CannotStart (context_in h) (features_in h) kind
    cannot_start cannot = subst (λ (x : WasmFeatures). CannotStart (context_in h) x kind) on (subst (λ (x : ModuleContext). CannotStart x fs kind) is cannot)

-- so does the function over a share of it
pub kind_begun : (s : SharedModule) (kind : BodyKind) (v : BodyState) (f : InProgress) → f ≡ function_from s v → IsBodyStart (context_in (module_of s)) (features_in (module_of s)) kind v → IsBegun (module_of s) kind f
kind_begun s kind v f e made = record {
  is_module = ap module_under e;
  is_start = e ∙ sym (ap (λ (g : InProgress). function_from g.resources g.starting) e);
  of_kind = subst (λ (x : BodyState). IsBodyStart (context_in (module_of s)) (features_in (module_of s)) kind x) (sym (ap (λ (g : InProgress). g.starting) e)) made;
}
