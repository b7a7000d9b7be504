-- A module in which something is malformed or refused isn't accepted.
use Rattle.std.proofs.Common.{ap, subst, sym, refl, ◌∙◌, ◌≡◌, arith, ℕ, zero, suc, ◌^◌, ◌<◌, Bool, List, [], ◌∷◌, length, Some, None, slice_get, unwrap_or}
use Rattle.std.specs.Prelude.{◌⊎◌}
use Rattle.std.proofs.lemmas.Bool.{cases_lt}
use mathlib.Core.Logic.{inl, inr}
use Rattle.binary_modules.specs.declared.initializers.ConstantExpression.{ConstantExpression}
use Rattle.binary_operators.specs.Unread.{Unread}
use Rattle.binary_operators.specs.declared.types.CanonicalTypes.{CanonicalTypes}
use Rattle.module_rules.specs.Constants.{is_constant_in}
use Rattle.module_rules.specs.Features.{operator_features}
use Rattle.module_rules.specs.declared.features.ModuleFeatures.{ModuleFeatures}
use Rattle.validate_operators.specs.Begin.{CannotStart}
use Rattle.validate_resources.specs.Context.{ModuleContext}
use Rattle.validate_types.specs.declared.features.WasmFeatures.{WasmFeatures}
use Rattle.validate_types.specs.declared.types.ValType.{ValType}
use Rattle.validate_visit.specs.declared.body.BodyKind.{BodyKind}
use Rattle.validate_visit.specs.declared.body.BodyKind.TheVariants.{Function, Expression}
use Rattle.validate_visit.specs.declared.op.Op.{Op}
use Rattle.module_check.specs.Accepted.{IsAcceptedCode}
use Rattle.module_check.specs.Constant.{may_stand}
use Rattle.module_check.specs.Decoded.{AreNoValidModule}
use Rattle.module_check.specs.Faults.{IsMalformedCode, IsRefusedCode, end_of}
use Rattle.module_check.specs.FaultyModule.{HasInvalid, HasMalformed, IsMalformedExpression, IsMalformedFunction, IsRefusedExpression, IsRefusedFunction}
use Rattle.module_check.specs.Items.{StandsAt, expression_count, function_at, item_count}
use Rattle.module_check.specs.Loaded.{declarations, declared, bytes_of, features_of, HasBody, HasPlace, IsAcceptedFunction, IsAcceptedExpression, IsAcceptedModule}
use Rattle.module_check.specs.Uncovered.{HasVector}
use Rattle.module_check.specs.UncoveredModule.{HasUncovered, IsUncoveredExpression, IsUncoveredFunction}
use Rattle.module_check.specs.Unloaded.{AreInvalid, AreMalformed}
use Rattle.module_check.specs.declared.loaded.LoadedModule.{LoadedModule}
use Rattle.module_check.proofs.Begun.{no_start}
use Rattle.module_check.proofs.Behind.{unread_vector, vector_fault}
use Rattle.module_check.proofs.Counted.{few_functions}
use Rattle.module_check.proofs.Decoded.{is_no_valid, unloaded_no_valid, unread_no_valid}
use Rattle.module_check.proofs.FirstFaults.{malformed_is_refusal, no_code}
use Rattle.module_check.proofs.Wherever.{wherever}

some_same : {A : Type 0} (a b : A) → Some a ≡ Some b → a ≡ b
some_same a b e = ap (λ o. unwrap_or o a) e

one_there : {A : Type 0} (l : List A) (i : ℕ) → i < length l → (a : A) × (slice_get l i ≡ Some a)
one_there [] i h = absurd (omega arith)
one_there (a ∷ l) zero h = (a, refl)
one_there (a ∷ l) (suc i) h = one_there l i (omega arith)

-- ---- code that can't start, or has a fault

module _ (md : ModuleContext) (features : WasmFeatures) (types : CanonicalTypes) (kind : BodyKind) (may : Op → Bool) (body : Unread) where
  malformed_code : IsMalformedCode md features types kind may body → ¬ IsAcceptedCode md features types kind may body.left
  malformed_code h = no_code md features types may (end_of body) body.left kind h.error h.has_fault (malformed_is_refusal h.error h.is_malformed)

  refused_code : (offset : ℕ) → CannotStart md features kind ⊎ IsRefusedCode md features types kind may body offset → ¬ IsAcceptedCode md features types kind may body.left
  refused_code offset (inl none) = λ a. no_start md features kind a.has_locals.start none a.has_locals.starts
  refused_code offset (inr h) = no_code md features types may (end_of body) body.left kind h.error h.has_fault h.is_refusal

  -- a vector operator isn't read
  uncovered_code : HasVector md features types kind may body.left → ¬ IsAcceptedCode md features types kind may body.left
  uncovered_code h = no_code md features types may 0 body.left kind unread_vector (inr (record {
    groups = h.groups;
    behind = h.behind;
    are_read = h.are_read;
    begun = h.begun;
    has_locals = h.has_locals;
    reached = vector_fault md types may 0 h.begun h.behind h.reached;
  })) (λ memory. absurd cc)

-- ---- what stands in a module

module _ (m : LoadedModule) where
  -- a function has one body, which is read by the same list, wherever it lies
  same_body : (function type_index : ℕ) (body : Unread) (types : CanonicalTypes) → HasBody m function type_index body types → ¬ IsAcceptedCode (declared m) (operator_features (features_of m)) types (Function type_index) (may_stand None) body.left → ¬ IsAcceptedFunction m function
  same_body function type_index body types h none = λ a.
      let same_type = some_same a.type_index type_index (sym a.is_body.is_of_type ∙ h.is_of_type) in
      let same = some_same a.body body (sym a.is_body.is_body ∙ h.is_body) in
      let there =
      wherever (declared m) (operator_features (features_of m)) (Function a.type_index) (may_stand None) a.body.left a.types types
      (a.is_body.are_types.canonical ∙ sym h.are_types.canonical) (a.is_body.are_types.behind ∙ sym h.are_types.behind) a.is_accepted in
      none
      (subst (λ (b : Unread). IsAcceptedCode (declared m) (operator_features (features_of m)) types (Function type_index) (may_stand None) b.left) same
      (subst (λ (t : ℕ). IsAcceptedCode (declared m) (operator_features (features_of m)) types (Function t) (may_stand None) a.body.left) same_type there))

  same_place : (e : ConstantExpression) (value_type : ValType) (types : CanonicalTypes) → HasPlace m e value_type types → ¬ IsAcceptedCode (declared m) (operator_features (features_of m)) types (Expression value_type) (is_constant_in (features_of m) (declarations m) e.place) e.bytes.left → ¬ IsAcceptedExpression m e
  same_place e value_type types h none = λ a.
      let same_type = some_same a.value_type value_type (sym a.has_place.is_of_type ∙ h.is_of_type) in
      let may = is_constant_in (features_of m) (declarations m) e.place in
      let there =
      wherever (declared m) (operator_features (features_of m)) (Expression a.value_type) may e.bytes.left a.types types
      (a.has_place.are_types.canonical ∙ sym h.are_types.canonical) (a.has_place.are_types.behind ∙ sym h.are_types.behind) a.is_accepted in
      none (subst (λ (t : ValType). IsAcceptedCode (declared m) (operator_features (features_of m)) types (Expression t) may e.bytes.left) same_type there)

  malformed_function : (function : ℕ) → IsMalformedFunction m function → ¬ IsAcceptedFunction m function
  malformed_function function h =
      same_body function h.type_index h.body h.types h.is_body
      (malformed_code (declared m) (operator_features (features_of m)) h.types (Function h.type_index) (may_stand None) h.body h.is_malformed)

  refused_function : (function offset : ℕ) → IsRefusedFunction m function offset → ¬ IsAcceptedFunction m function
  refused_function function offset (inl none) = λ a. none a.type_index a.body a.types a.is_body
  refused_function function offset (inr h) =
      same_body function h.type_index h.body h.types h.is_body
      (refused_code (declared m) (operator_features (features_of m)) h.types (Function h.type_index) (may_stand None) h.body offset h.is_refused)

  uncovered_function : (function : ℕ) → IsUncoveredFunction m function → ¬ IsAcceptedFunction m function
  uncovered_function function h =
      same_body function h.type_index h.body h.types h.is_body
      (uncovered_code (declared m) (operator_features (features_of m)) h.types (Function h.type_index) (may_stand None) h.body h.has_vector)

  malformed_expression : (e : ConstantExpression) → IsMalformedExpression m e → ¬ IsAcceptedExpression m e
  malformed_expression e h =
      same_place e h.value_type h.types h.has_place
      (malformed_code (declared m) (operator_features (features_of m)) h.types (Expression h.value_type) (is_constant_in (features_of m) (declarations m) e.place) e.bytes h.is_malformed)

  refused_expression : (e : ConstantExpression) (offset : ℕ) → IsRefusedExpression m e offset → ¬ IsAcceptedExpression m e
  refused_expression e offset (inl none) = λ a. none a.value_type a.types a.has_place
  refused_expression e offset (inr h) =
      same_place e h.value_type h.types h.has_place
      (refused_code (declared m) (operator_features (features_of m)) h.types (Expression h.value_type) (is_constant_in (features_of m) (declarations m) e.place) e.bytes offset h.is_refused)

  uncovered_expression : (e : ConstantExpression) → IsUncoveredExpression m e → ¬ IsAcceptedExpression m e
  uncovered_expression e h =
      same_place e h.value_type h.types h.has_place
      (uncovered_code (declared m) (operator_features (features_of m)) h.types (Expression h.value_type) (is_constant_in (features_of m) (declarations m) e.place) e.bytes h.has_vector)

  -- what stands at a place of the row and isn't accepted
  not_there : (of_expression : ConstantExpression → Type 0) (of_function : ℕ → Type 0) (place : ℕ) → place < item_count m → ((e : ConstantExpression) → of_expression e → ¬ IsAcceptedExpression m e) → ((function : ℕ) → of_function function → ¬ IsAcceptedFunction m function) → StandsAt m of_expression of_function place → ¬ IsAcceptedModule m
  not_there of_expression of_function place within no_expression no_function here = λ a.
      elim (cases_lt place (expression_count m)) [
        | inl inside ↦
            let e = one_there m.expressions.items place inside in
            no_expression e.0 (here.expression e.0 e.1) (a.expressions place e.0 e.1)
        | inr past ↦
            let few = few_functions (declarations m) m.within in
            let counted = m.counted in
            let there : function_at m place < length m.declared.functions.items = omega (arith, counted, within, past) in
            let small : function_at m place < 2 ^ 32 = omega (arith, few, there) in
            no_function (function_at m place) (here.body past small) (a.functions (function_at m place) (omega arith) there)
      ]

  pub invalid_module : HasInvalid m → ¬ IsAcceptedModule m
  invalid_module h =
      not_there (λ e. (offset : ℕ) × IsRefusedExpression m e offset) (λ function. (offset : ℕ) × IsRefusedFunction m function offset) h.0 h.1
      (λ e x. refused_expression e x.0 x.1) (λ function x. refused_function function x.0 x.1) h.2

  pub malformed_module : HasMalformed m → ¬ IsAcceptedModule m
  malformed_module h = not_there (IsMalformedExpression m) (IsMalformedFunction m) h.0 h.1 malformed_expression malformed_function h.2

  pub uncovered_module : HasUncovered m → ¬ IsAcceptedModule m
  uncovered_module h = not_there (IsUncoveredExpression m) (IsUncoveredFunction m) h.0 h.1 uncovered_expression uncovered_function h.2

-- ---- bytes

pub not_valid : (features : ModuleFeatures) (bytes : List ℕ) (m : LoadedModule) → bytes_of m ≡ bytes → features_of m ≡ features → ¬ IsAcceptedModule m → AreNoValidModule features bytes
not_valid features bytes m b f none =
    subst (λ (x : ModuleFeatures). AreNoValidModule x bytes) f (subst (AreNoValidModule (features_of m)) b (is_no_valid m none))

pub no_valid_invalid : (features : ModuleFeatures) (bytes : List ℕ) → AreInvalid features bytes → AreNoValidModule features bytes
no_valid_invalid features bytes (inl unloaded) = unloaded_no_valid features bytes unloaded
no_valid_invalid features bytes (inr h) = not_valid features bytes h.loaded h.of_bytes h.under (invalid_module h.loaded h.has_invalid)

pub no_valid_malformed : (features : ModuleFeatures) (bytes : List ℕ) → AreMalformed features bytes → AreNoValidModule features bytes
no_valid_malformed features bytes (inl none) = unread_no_valid features bytes none
no_valid_malformed features bytes (inr h) = not_valid features bytes h.loaded h.of_bytes h.under (malformed_module h.loaded h.has_malformed)
