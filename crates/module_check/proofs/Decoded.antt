-- What is said of a loaded module is so of the module that its bytes are decoded to.
use Rattle.std.proofs.Common.{ap, subst, sym, refl, ◌∙◌, ◌≡◌, ℕ, ◌-◌, ◌≤◌, ◌<◌, Bool, false, List, length, map, Option, Some, None, slice_get, unwrap_or}
use Rattle.std.specs.Option.{option_map}
use Rattle.std.specs.Prelude.{◌≢◌, Result, Ok, Err, IfOk, IfErr, OnOk}
use Rattle.std.proofs.lemmas.List.{length-map}
use Rattle.std.proofs.lemmas.Option.{slice_get-map, slice_get_within}
use mathlib.Core.Bool.{true≢false}
use mathlib.Core.Logic.{inl, inr}
use Rattle.binary_modules.specs.ContentsRead.{bytes_of as bytes_left}
use Rattle.binary_modules.specs.Kept.{told}
use Rattle.binary_modules.specs.Modules.{DecodedModule, IsNoModule, decode, naming_all, unplaced_module}
use Rattle.binary_modules.specs.declared.initializers.ConstantExpression.{ConstantExpression}
use Rattle.binary_operators.specs.Unread.{Unread}
use Rattle.binary_operators.specs.declared.types.CanonicalTypes.{CanonicalTypes}
use Rattle.module_rules.specs.Constants.{is_constant_in}
use Rattle.module_rules.specs.Declarations.{Declarations}
use Rattle.module_rules.specs.Features.{operator_features}
use Rattle.module_rules.specs.Lookup.{lookup_lists}
use Rattle.module_rules.specs.Validity.{is_valid_module}
use Rattle.module_rules.specs.Within.{is_within}
use Rattle.module_rules.specs.declared.features.ModuleFeatures.{ModuleFeatures}
use Rattle.module_rules.specs.declared.module.Place.{Place}
use Rattle.validate_resources.specs.Context.{ModuleContext}
use Rattle.validate_resources.specs.Kept.{declared_lists}
use Rattle.validate_resources.specs.Lists.{Declared, context_of, module_of}
use Rattle.validate_visit.specs.declared.body.BodyKind.TheVariants.{Function, Expression}
use Rattle.validate_visit.specs.declared.op.Op.{Op}
use Rattle.module_check.specs.Accepted.{IsAcceptedCode}
use Rattle.module_check.specs.Constant.{may_stand}
use Rattle.module_check.specs.Decoded.{FunctionIs, ExpressionIs, CodeIs, IsValidDecoded, AreValidModule, AreNoValidModule, AreTooLarge, DeclareInvalid, DeclareValid}
use Rattle.module_check.specs.Loaded.{bytes_of, declarations, declared, features_of, AreTypesOf, IsAcceptedFunction, IsAcceptedExpression, IsAcceptedModule, IsSafeFunction, IsSafeExpression, IsSafeModule, IsValid}
use Rattle.module_check.specs.Safe.{IsSafeCode}
use Rattle.module_check.specs.Unloaded.{AreUnloaded}
use Rattle.module_check.specs.declared.load_refusal.LoadRefusal.{LoadRefusal}
use Rattle.module_check.specs.declared.load_refusal.LoadRefusal.TheVariants.{Judged, TooLarge}
use Rattle.module_check.specs.declared.loaded.LoadedModule.{LoadedModule}
use Rattle.module_check.specs.declared.verdict.Verdict.TheVariants.{Accepted, Malformed, NotCovered, OutOfMemory, Refused}
use Rattle.validate_types.specs.declared.error.Error.{Error}
use Rattle.module_check.proofs.Offsets.{constant_same, expression_same, lookup_same, valid_same, within_same}
use Rattle.module_check.proofs.Wherever.{safe_wherever}

some_same : {A : Type 0} (a b : A) → Some a ≡ Some b → a ≡ b
some_same a b e = ap (λ o. unwrap_or o a) e

none_there : {A : Type 0} (o : Option A) (a : A) → o ≡ None → o ≡ Some a → ⊥
none_there o a n s = absurd cc

mapped_there : {A B : Type 0} (f : A → B) (o : Option A) (b : B) → option_map f o ≡ Some b → (a : A) × (o ≡ Some a) × (f a ≡ b)
mapped_there f None b e = absurd (none_there None b refl e)
mapped_there f (Some a) b e = (a, refl, some_same (f a) b e)

-- what is type safe is accepted
accepted_of : (features : ModuleFeatures) (m : DecodedModule) (lookup : ModuleContext) → CodeIs IsSafeCode features m lookup → CodeIs IsAcceptedCode features m lookup
accepted_of features m lookup h = record {
  functions = λ function own there.
      let f = h.functions function own there in
      record { type_index = f.type_index; is_of_type = f.is_of_type; body = f.body; is_body = f.is_body; is_so = f.is_so.accepted };
  expressions = λ place e is.
      let x = h.expressions place e is in
      record { value_type = x.value_type; is_of_type = x.is_of_type; is_so = x.is_so.accepted };
}

-- ---- bytes of no valid module

pub unread_no_valid : (features : ModuleFeatures) (bytes : List ℕ) → IsNoModule bytes → AreNoValidModule features bytes
unread_no_valid features bytes none = λ other is valid. none_there (decode bytes) other none is

pub invalid_no_valid : (features : ModuleFeatures) (bytes : List ℕ) → DeclareInvalid features bytes → AreNoValidModule features bytes
invalid_no_valid features bytes h = λ other is valid.
    let same = some_same h.decoded other (sym h.is_decoded ∙ is) in
    true≢false (sym valid.declarations_valid ∙ ap (λ (m : DecodedModule). is_valid_module features m.declared) (sym same) ∙ h.is_invalid)

pub unloaded_no_valid : (features : ModuleFeatures) (bytes : List ℕ) → AreUnloaded features bytes → AreNoValidModule features bytes
unloaded_no_valid features bytes (inl none) = unread_no_valid features bytes none
unloaded_no_valid features bytes (inr invalid) = invalid_no_valid features bytes invalid

-- ---- declarations that aren't valid, or are past a limit

module _ (bytes : List ℕ) (d : Declarations) (bodies : List (List ℕ)) (expressions : List (Place × List ℕ)) (is : decode bytes ≡ Some (unplaced_module d bodies expressions)) where
  pub declare_invalid : (features : ModuleFeatures) → is_valid_module features d ≡ false → DeclareInvalid features bytes
  declare_invalid features e = record {
    decoded = unplaced_module d bodies expressions;
    is_decoded = is;
    is_invalid = valid_same features d ∙ e;
  }

  pub are_too_large : is_within d ≡ false → AreTooLarge bytes
  are_too_large e = record {
    decoded = unplaced_module d bodies expressions;
    is_decoded = is;
    is_past = within_same d ∙ e;
  }

-- ---- bytes whose declarations are valid

pub declares_valid : (features : ModuleFeatures) (bytes : List ℕ) → AreValidModule features bytes → DeclareValid features bytes
declares_valid features bytes h = record {
  decoded = h.decoded;
  is_decoded = h.is_decoded;
  is_valid = h.is_valid.declarations_valid;
  is_within = h.is_within;
}

pub declare_valid : (m : LoadedModule) → DeclareValid (features_of m) (bytes_of m)
declare_valid m = record {
  decoded = unplaced_module (declarations m) (bytes_left m.bodies.items) (map told m.expressions.items);
  is_decoded = m.read;
  is_valid = valid_same (features_of m) (declarations m) ∙ m.valid;
  is_within = within_same (declarations m) ∙ m.within;
}

module _ (features : ModuleFeatures) (bytes : List ℕ) where
  not_unread : DeclareValid features bytes → IsNoModule bytes → ⊥
  not_unread h none = none_there (decode bytes) h.decoded none h.is_decoded

  not_unloaded : DeclareValid features bytes → AreUnloaded features bytes → ⊥
  not_unloaded h (inl none) = not_unread h none
  not_unloaded h (inr invalid) =
      let same = some_same invalid.decoded h.decoded (sym invalid.is_decoded ∙ h.is_decoded) in
      true≢false (sym h.is_valid ∙ ap (λ (m : DecodedModule). is_valid_module features m.declared) (sym same) ∙ invalid.is_invalid)

  pub not_past : DeclareValid features bytes → AreTooLarge bytes → ⊥
  not_past h past =
      let same = some_same past.decoded h.decoded (sym past.is_decoded ∙ h.is_decoded) in
      true≢false (sym h.is_within ∙ ap (λ (m : DecodedModule). is_within m.declared) (sym same) ∙ past.is_past)

  -- nothing but want of memory is told of them
  pub memory_alone : (refusal : LoadRefusal) → refusal ≢ Judged Accepted → ((offset : ℕ) → refusal ≡ Judged (NotCovered offset) → IsNoModule bytes) → ((e : Error) → refusal ≡ Judged (Malformed e) → IsNoModule bytes) → ((e : Error) → refusal ≡ Judged (Refused e) → AreUnloaded features bytes) → ((e : Error) → refusal ≡ TooLarge e → AreTooLarge bytes) → DeclareValid features bytes → refusal ≡ Judged OutOfMemory
  memory_alone (Judged Accepted) accepted unread malformed invalid large h = absurd (accepted refl)
  memory_alone (Judged (Refused e)) accepted unread malformed invalid large h = absurd (not_unloaded h (invalid e refl))
  memory_alone (Judged (Malformed e)) accepted unread malformed invalid large h = absurd (not_unread h (malformed e refl))
  memory_alone (Judged (NotCovered offset)) accepted unread malformed invalid large h = absurd (not_unread h (unread offset refl))
  memory_alone (Judged OutOfMemory) accepted unread malformed invalid large h = refl
  memory_alone (TooLarge e) accepted unread malformed invalid large h = absurd (not_past h (large e refl))

  pub loads_valid : (r : Result LoadedModule LoadRefusal) → IfOk r (λ m. bytes_of m ≡ bytes) → IfOk r (λ m. features_of m ≡ features) → OnOk r (DeclareValid features bytes)
  loads_valid (Ok m) b f =
      subst (λ (x : ModuleFeatures). DeclareValid x bytes) f (subst (DeclareValid (features_of m)) b (declare_valid m))
  loads_valid (Err v) b f = tt

  pub loads_complete : (r : Result LoadedModule LoadRefusal) → IfErr r (λ v. v ≢ Judged Accepted) → IfErr r (λ v. (offset : ℕ) → v ≢ Judged (NotCovered offset)) → IfErr r (λ v. (e : Error) → v ≢ Judged (Malformed e)) → IfErr r (λ v. (e : Error) → v ≡ Judged (Refused e) → DeclareInvalid features bytes) → IfErr r (λ v. (e : Error) → v ≡ TooLarge e → AreTooLarge bytes) → IfErr r (λ v. DeclareValid features bytes → v ≡ Judged OutOfMemory)
  loads_complete (Ok m) accepted covered readable invalid large = tt
  loads_complete (Err v) accepted covered readable invalid large =
      memory_alone v accepted (λ offset is. absurd (covered offset is)) (λ e is. absurd (readable e is)) (λ e is. inr (invalid e is)) large

-- ---- code

module _ (m : LoadedModule) where
  abbrev pub decoded : DecodedModule
  decoded = unplaced_module (declarations m) (bytes_left m.bodies.items) (map told m.expressions.items)

  -- indices of types are read as those of this list
  listed : (types : CanonicalTypes) → AreTypesOf m types → (types.canonical.now ≡ (naming_all m.declared.canonical.items).canonical.now) × (types.group ≡ (naming_all m.declared.canonical.items).group)
  listed types t = (t.canonical, t.behind)

  body_of : (i : ℕ) (body : Unread) → slice_get m.bodies.items i ≡ Some body → slice_get (bytes_left m.bodies.items) i ≡ Some body.left
  body_of i body is = slice_get-map (λ (r : Unread). r.left) m.bodies.items i ∙ ap (option_map (λ (r : Unread). r.left)) is

  safe_function : (function : ℕ) → IsSafeFunction m function → FunctionIs IsSafeCode (features_of m) decoded (declared m) function
  safe_function function h = record {
    type_index = h.type_index;
    is_of_type = h.is_body.is_of_type;
    body = h.body.left;
    is_body = body_of (function - m.declared.imports.functions) h.body h.is_body.is_body;
    is_so = safe_wherever (declared m) (operator_features (features_of m)) (Function h.type_index) (may_stand None) h.body.left h.types (naming_all m.declared.canonical.items) h.is_body.are_types.canonical h.is_body.are_types.behind h.is_safe;
  }

  safe_expression : (e : ConstantExpression) → IsSafeExpression m e → ExpressionIs IsSafeCode (features_of m) decoded (declared m) (told e)
  safe_expression e h = record {
    value_type = h.value_type;
    is_of_type = expression_same (declarations m) e.place ∙ h.has_place.is_of_type;
    is_so =
        subst (λ (may : Op → Bool). IsSafeCode (declared m) (operator_features (features_of m)) (naming_all m.declared.canonical.items) (Expression h.value_type) may e.bytes.left)
        (sym (constant_same (features_of m) (declarations m) e.place))
        (safe_wherever (declared m) (operator_features (features_of m)) (Expression h.value_type) (is_constant_in (features_of m) (declarations m) e.place) e.bytes.left h.types (naming_all m.declared.canonical.items) h.has_place.are_types.canonical h.has_place.are_types.behind h.is_safe);
  }

  -- a constant expression that stands there is one of the module's
  told_there : (place : ℕ) (e : Place × List ℕ) → slice_get (map told m.expressions.items) place ≡ Some e → (x : ConstantExpression) × (slice_get m.expressions.items place ≡ Some x) × (told x ≡ e)
  told_there place e is = mapped_there told (slice_get m.expressions.items place) e (sym (slice_get-map told m.expressions.items place) ∙ is)

  body_there : (i : ℕ) (body : List ℕ) → slice_get (bytes_left m.bodies.items) i ≡ Some body → (x : Unread) × (slice_get m.bodies.items i ≡ Some x) × (x.left ≡ body)
  body_there i body is =
      mapped_there (λ (r : Unread). r.left) (slice_get m.bodies.items i) body (sym (slice_get-map (λ (r : Unread). r.left) m.bodies.items i) ∙ is)

  as_many_functions : length decoded.declared.functions ≡ length m.declared.functions.items
  as_many_functions = length-map m.declared.functions.items _

  decoded_safe : IsSafeModule m → CodeIs IsSafeCode (features_of m) decoded (declared m)
  decoded_safe h = record {
    functions = λ function own there.
        safe_function function (h.functions function own (subst (λ n. function < n) as_many_functions there));
    expressions = λ place e is.
        let x = told_there place e is in
        subst (ExpressionIs IsSafeCode (features_of m) decoded (declared m)) x.2 (safe_expression x.0 (h.expressions place x.0 (slice_get_within m.expressions.items place x.0 x.1) x.1));
  }

  are_lists : module_of (lookup_lists decoded.declared) ≡ Some (declared_lists m.lists)
  are_lists = ap module_of (lookup_same (declarations m)) ∙ m.lookup

  -- a valid module is what its bytes are decoded to
  pub are_valid : IsValid m → AreValidModule (features_of m) (bytes_of m)
  are_valid h =
      let safe = decoded_safe h.code_safe in
      record {
        decoded = decoded;
        is_decoded = h.is_module;
        is_valid = record {
          declarations_valid = valid_same (features_of m) (declarations m) ∙ h.declarations_valid;
          lists = declared_lists m.lists;
          are_lists = are_lists;
          code_accepted = accepted_of (features_of m) decoded (declared m) safe;
        };
        is_within = within_same (declarations m) ∙ h.declarations_within;
        is_safe = record { lists = declared_lists m.lists; are_lists = are_lists; code_safe = safe };
      }

  accepted_function : (function : ℕ) → m.declared.imports.functions ≤ function → FunctionIs IsAcceptedCode (features_of m) decoded (declared m) function → IsAcceptedFunction m function
  accepted_function function own h =
      let x = body_there (function - m.declared.imports.functions) h.body h.is_body in
      record {
        type_index = h.type_index;
        body = x.0;
        types = naming_all m.declared.canonical.items;
        is_body = record {
          is_of_type = h.is_of_type;
          is_own = own;
          is_body = x.1;
          are_types = record { canonical = refl; behind = refl };
        };
        is_accepted = subst (λ (b : List ℕ). IsAcceptedCode (declared m) (operator_features (features_of m)) (naming_all m.declared.canonical.items) (Function h.type_index) (may_stand None) b) (sym x.2) h.is_so;
      }

  accepted_expression : (e : ConstantExpression) → ExpressionIs IsAcceptedCode (features_of m) decoded (declared m) (told e) → IsAcceptedExpression m e
  accepted_expression e h = record {
    value_type = h.value_type;
    types = naming_all m.declared.canonical.items;
    has_place = record {
      is_of_type = sym (expression_same (declarations m) e.place) ∙ h.is_of_type;
      are_types = record { canonical = refl; behind = refl };
    };
    is_accepted =
        subst (λ (may : Op → Bool). IsAcceptedCode (declared m) (operator_features (features_of m)) (naming_all m.declared.canonical.items) (Expression h.value_type) may e.bytes.left)
        (constant_same (features_of m) (declarations m) e.place) h.is_so;
  }

  -- where what its bytes are decoded to is valid, its code is accepted
  accepted_decoded : IsValidDecoded (features_of m) decoded → IsAcceptedModule m
  accepted_decoded h =
      let same : h.lists ≡ declared_lists m.lists = some_same h.lists (declared_lists m.lists) (sym h.are_lists ∙ are_lists) in
      let code : CodeIs IsAcceptedCode (features_of m) decoded (declared m) =
      subst (λ (l : Declared). CodeIs IsAcceptedCode (features_of m) decoded (context_of l)) same h.code_accepted in
      record {
        functions = λ function own there.
            accepted_function function own (code.functions function own (subst (λ n. function < n) (sym as_many_functions) there));
        expressions = λ place e is.
            accepted_expression e (code.expressions place (told e) (slice_get-map told m.expressions.items place ∙ ap (option_map told) is));
      }

  pub is_no_valid : ¬ IsAcceptedModule m → AreNoValidModule (features_of m) (bytes_of m)
  is_no_valid none = λ other is valid.
      let same = some_same other decoded (sym is ∙ m.read) in
      none (accepted_decoded (subst (IsValidDecoded (features_of m)) same valid))
