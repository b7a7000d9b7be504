-- A body is accepted by the list by which its indices of types are read, wherever that lies.
use Rattle.std.proofs.Common.{◌≡◌, ℕ, Bool, List, [], subst}
use Rattle.binary_operators.specs.declared.types.CanonicalTypes.{CanonicalTypes}
use Rattle.binary_operators.specs.declared.types.GroupNames.{GroupNames}
use Rattle.binary_operators.proofs.Wherever.{lying, operators_same, function_same}
use Rattle.validate_types.specs.declared.features.WasmFeatures.{WasmFeatures}
use Rattle.validate_types.specs.declared.types.ValType.{ValType}
use Rattle.validate_visit.specs.declared.body.BodyKind.{BodyKind}
use Rattle.validate_visit.specs.declared.body.BodyKind.TheVariants.{Function, Expression}
use Rattle.validate_visit.specs.declared.op.Op.{Op}
use Rattle.validate_resources.specs.Context.{ModuleContext}
use Rattle.validate_operators.specs.Runs.{without_offsets}
use Rattle.module_check.specs.Accepted.{IsCode, IsAcceptedCode}
use Rattle.module_check.specs.Safe.{IsSafeCode}

module _ (p q : ℕ × ℕ) (l : List ℕ) (g : GroupNames) where
  code_same : (kind : BodyKind) (bytes : List ℕ) (groups : List (ℕ × ValType)) (ops : List Op) → IsCode (lying p l g) kind bytes groups ops → IsCode (lying q l g) kind bytes groups ops
  code_same (Function index) bytes groups ops c = function_same p q l g bytes groups ops c
  code_same (Expression ty) bytes groups ops c = (c.0, operators_same p q l g ops bytes [] c.1)

  abbrev accepted_same : (md : ModuleContext) (features : WasmFeatures) (kind : BodyKind) (may : Op → Bool) (bytes : List ℕ) → IsAcceptedCode md features (lying p l g) kind may bytes → IsAcceptedCode md features (lying q l g) kind may bytes
  accepted_same md features kind may bytes a = record {
    groups = a.groups;
    ops = a.ops;
    is_code = code_same kind bytes a.groups (without_offsets a.ops) a.is_code;
    each_stands = a.each_stands;
    begun = a.begun;
    has_locals = a.has_locals;
    rows_hold = a.rows_hold;
  }

  safe_same : (md : ModuleContext) (features : WasmFeatures) (kind : BodyKind) (may : Op → Bool) (bytes : List ℕ) → IsSafeCode md features (lying p l g) kind may bytes → IsSafeCode md features (lying q l g) kind may bytes
  safe_same md features kind may bytes a = record {
    accepted = accepted_same md features kind may bytes a.accepted;
    block_type = a.block_type;
    one_frame = a.one_frame;
    safe = a.safe;
  }

-- by the same list, wherever it lies
pub wherever : (md : ModuleContext) (features : WasmFeatures) (kind : BodyKind) (may : Op → Bool) (bytes : List ℕ) (s t : CanonicalTypes) → s.canonical.now ≡ t.canonical.now → s.group ≡ t.group → IsAcceptedCode md features s kind may bytes → IsAcceptedCode md features t kind may bytes
wherever md features kind may bytes s t same_list same_group a =
    subst (λ g. IsAcceptedCode md features (lying t.canonical.ref_ptr t.canonical.now g) kind may bytes) same_group
    (subst (λ l. IsAcceptedCode md features (lying t.canonical.ref_ptr l s.group) kind may bytes) same_list
    (accepted_same s.canonical.ref_ptr t.canonical.ref_ptr s.canonical.now s.group md features kind may bytes a))

pub safe_wherever : (md : ModuleContext) (features : WasmFeatures) (kind : BodyKind) (may : Op → Bool) (bytes : List ℕ) (s t : CanonicalTypes) → s.canonical.now ≡ t.canonical.now → s.group ≡ t.group → IsSafeCode md features s kind may bytes → IsSafeCode md features t kind may bytes
safe_wherever md features kind may bytes s t same_list same_group a =
    subst (λ g. IsSafeCode md features (lying t.canonical.ref_ptr t.canonical.now g) kind may bytes) same_group
    (subst (λ l. IsSafeCode md features (lying t.canonical.ref_ptr l s.group) kind may bytes) same_list
    (safe_same s.canonical.ref_ptr t.canonical.ref_ptr s.canonical.now s.group md features kind may bytes a))
