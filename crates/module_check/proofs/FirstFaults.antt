-- A body is not accepted where its first fault is told, and a vector operator that is told stands there.
use Rattle.std.proofs.Common.{◌≡◌, ℕ, Bool, List, inl, inr, refl, sym, ◌∙◌, subst}
use Rattle.binary_operators.specs.declared.error.Cause.TheVariants.{Malformed, VectorOperator, OutOfMemory}
use Rattle.binary_operators.specs.declared.types.CanonicalTypes.{CanonicalTypes}
use Rattle.validate_types.specs.declared.features.WasmFeatures.{WasmFeatures}
use Rattle.validate_resources.specs.Context.{ModuleContext}
use Rattle.validate_visit.specs.declared.body.BodyKind.{BodyKind}
use Rattle.validate_visit.specs.declared.body.BodyKind.TheVariants.{Function, Expression}
use Rattle.validate_visit.specs.declared.op.Op.{Op}
use Rattle.validate_operators.specs.Begin.{DefinesEach}
use Rattle.module_check.specs.Accepted.{AreAcceptedOperators, IsAcceptedCode}
use Rattle.module_check.specs.Faults.{HasFault, HasFirstFault, HaveNoLocals}
use Rattle.module_check.specs.Refusals.{IsMalformed, IsRefusal, IsVector}
use Rattle.module_check.specs.Uncovered.{HasVector}
use Rattle.module_check.specs.declared.verdict.CheckError.{CheckError}
use Rattle.module_check.specs.declared.verdict.CheckError.TheVariants.{Unread, Refused}
use Rattle.module_check.proofs.Begun.{no_function, no_expression}
use Rattle.module_check.proofs.Behind.{not_reached, vector_reached}

pub vector_is_refusal : (e : CheckError) → IsVector e → IsRefusal e
vector_is_refusal (Unread e) vector = λ memory. let clash : VectorOperator ≡ OutOfMemory = sym vector ∙ memory in absurd cc
vector_is_refusal (Refused e) vector = absurd vector

pub malformed_is_refusal : (e : CheckError) → IsMalformed e → IsRefusal e
malformed_is_refusal (Unread e) malformed = λ memory. let clash : Malformed malformed.0 ≡ OutOfMemory = sym malformed.1 ∙ memory in absurd cc
malformed_is_refusal (Refused e) malformed = absurd malformed

module _ (md : ModuleContext) (features : WasmFeatures) (types : CanonicalTypes) (may : Op → Bool) (end : ℕ) (bytes : List ℕ) where
  without_locals : (kind : BodyKind) → HaveNoLocals md features types kind bytes → ¬ IsAcceptedCode md features types kind may bytes
  without_locals (Function index) none = λ a. none a.groups a.is_code.behind a.begun a.is_code.has_locals a.has_locals
  without_locals (Expression ty) none = λ a. none a.groups bytes a.begun (a.is_code.0, refl) a.has_locals

  behind_locals : (kind : BodyKind) (e : CheckError) → HasFault md features types kind may end bytes e → IsRefusal e → ¬ IsAcceptedCode md features types kind may bytes
  behind_locals (Function index) e f refusal =
      no_function md features types may f.has_locals.start f.begun bytes f.behind (Function index) index refl f.has_locals.starts
      (record { groups = f.groups; are_read = f.are_read; define = f.has_locals.defines })
      (not_reached md types may end f.begun f.behind e f.reached refusal)
  behind_locals (Expression ty) e f refusal =
      let begun : f.has_locals.start ≡ f.begun = subst (λ g. DefinesEach md g f.has_locals.start f.begun) f.are_read.0 f.has_locals.defines in
      no_expression md features types may f.has_locals.start bytes (Expression ty) ty refl f.has_locals.starts
      (subst (λ x. ¬ AreAcceptedOperators md types may x bytes) (sym begun)
      (subst (λ b. ¬ AreAcceptedOperators md types may f.begun b) (sym f.are_read.1)
      (not_reached md types may end f.begun f.behind e f.reached refusal)))

  pub no_code : (kind : BodyKind) (e : CheckError) → HasFirstFault md features types kind may end bytes e → IsRefusal e → ¬ IsAcceptedCode md features types kind may bytes
  no_code kind e (inl f) refusal = without_locals kind f.1
  no_code kind e (inr f) refusal = behind_locals kind e f refusal

  pub vector_there : (kind : BodyKind) (e : CheckError) → HasFirstFault md features types kind may end bytes e → IsVector e → HasVector md features types kind may bytes
  vector_there kind e (inl f) vector = absurd (f.0 vector)
  vector_there kind e (inr f) vector = record {
    groups = f.groups;
    behind = f.behind;
    are_read = f.are_read;
    begun = f.begun;
    has_locals = f.has_locals;
    reached = vector_reached md types may end f.begun f.behind e f.reached vector;
  }
