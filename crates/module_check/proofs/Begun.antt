-- What was read and accepted is the code of a body; where something isn't accepted, the bytes are no such code.
use Rattle.std.proofs.Common.{◌≡◌, ℕ, Bool, List, [], ◌∷◌, length, Option, Some, None, refl, sym, ap, ◌∙◌, subst, Result, Ok, Err, ◌⊎◌, inl, inr, arith}
use Rattle.std.specs.Option.{option_and_then}
use Rattle.std.specs.Prelude.{IsOk, OnOk, IfErr}
use Rattle.binary_operators.specs.Functions.{IsFunctionCode}
use Rattle.binary_operators.specs.declared.types.CanonicalTypes.{CanonicalTypes}
use Rattle.validate_types.specs.declared.features.WasmFeatures.{WasmFeatures}
use Rattle.validate_types.specs.declared.types.ValType.{ValType}
use Rattle.validate_types.specs.Types.{Signature}
use Rattle.validate_types.specs.declared.types.SubType.{SubType}
use Rattle.validate_resources.specs.Context.{ModuleContext, signature_at, signature_of}
use Rattle.validate_visit.specs.declared.op.Op.{Op}
use Rattle.validate_operators.specs.Runs.{without_offsets, IsAcceptedBody}
use Rattle.validate_operators.specs.Start.{DefinesLocals, CannotDefine, IsFuncStart, HasTooManyParams, func_start, const_start}
use Rattle.validate_stacks.specs.State.{BodyState, IsStarting}
use Rattle.validate_stacks.specs.Steps.{body_with_locals}
use Rattle.validate_operators.specs.Begin.{IsBodyStart, IsExpressionStart, CannotStart, DefinesEach}
use Rattle.module_check.specs.Accepted.{IsCode, AreAcceptedOperators, IsAcceptedCode}
use Rattle.module_check.specs.Begin.{DefinesRead}
use Rattle.module_check.specs.Safe.{AreSafeOperators, IsSafeCode}
use Rattle.module_check.specs.Faults.{HasFault, HaveNoLocals, ReachFault}
use Rattle.module_check.specs.Uncovered.{BeginLocals}
use Rattle.module_check.specs.declared.verdict.CheckError.{CheckError}
use Rattle.validate_visit.specs.declared.body.BodyKind.{BodyKind}
use Rattle.validate_visit.specs.declared.body.BodyKind.TheVariants.{Function, Expression}

-- ---- what is read is read in one way

pub some_same : {A : Type 0} → (a b : A) → Some a ≡ Some b → a ≡ b
some_same a b e = cc

pub both_same : {A B : Type 0} → (o : Option (A × B)) (a b : A) (x y : B) → o ≡ Some (a, x) → o ≡ Some (b, y) → (a ≡ b) × (x ≡ y)
both_same {A = A} {B = B} o a b x y e f =
    let p : A × B = (a, x) in
    let q : A × B = (b, y) in
    let same = some_same p q (sym e ∙ f) in
    (ap (λ (r : A × B). r.0) same, ap (λ (r : A × B). r.1) same)

pub none_or_some : {A : Type 0} → (a : A) → None ≡ Some a → ⊥
none_or_some a e = absurd cc

-- ---- a body begins in one way at most

module _ (md : ModuleContext) (features : WasmFeatures) where
  same_func_start : (index : ℕ) (v w : BodyState) → IsFuncStart md features index v → IsFuncStart md features index w → v ≡ w
  same_func_start index v w a b =
      let same_type : a.type ≡ b.type = cc in
      let same_signature : a.signature ≡ b.signature = cc in
      a.starts ∙ (ap (λ (t : SubType). func_start features index t.composite_type.shared a.signature) same_type
      ∙ (ap (λ (s : Signature). func_start features index b.type.composite_type.shared s) same_signature ∙ sym b.starts))

  same_expression_start : (ty : ValType) (v w : BodyState) → IsExpressionStart md features ty v → IsExpressionStart md features ty w → v ≡ w
  same_expression_start ty v w a b =
      let same_type : a.type ≡ b.type = cc in
      a.starts ∙ (ap (λ (t : ValType). const_start features t) same_type ∙ sym b.starts)

  same_start : (kind : BodyKind) (v w : BodyState) → IsBodyStart md features kind v → IsBodyStart md features kind w → v ≡ w
  same_start (Function index) v w a b = same_func_start index v w a b
  same_start (Expression ty) v w a b = same_expression_start ty v w a b

  no_func : (index : ℕ) (v : BodyState) → IsFuncStart md features index v → (signature_at md index ≡ None) ⊎ HasTooManyParams md index → ⊥
  no_func index v s (inl none) =
      let there : signature_at md index ≡ Some s.signature = ap (option_and_then signature_of) s.is_there ∙ s.is_func in
      absurd cc
  no_func index v s (inr many) =
      let there : signature_at md index ≡ Some s.signature = ap (option_and_then signature_of) s.is_there ∙ s.is_func in
      let same : many.signature ≡ s.signature = cc in
      omega (arith, many.too_many, s.within_limit, ap (λ (x : Signature). length x.params) same)

  pub no_start : (kind : BodyKind) (v : BodyState) → CannotStart md features kind → IsBodyStart md features kind v → ⊥
  no_start (Function index) v cannot s = no_func index v s cannot
  no_start (Expression ty) v cannot s = let clash : None ≡ Some s.type = sym cannot ∙ s.is_canonical in absurd cc

module _ (md : ModuleContext) where
  pub same_locals : (count : ℕ) (ty : ValType) (v u w : BodyState) → DefinesLocals md count ty v u → DefinesLocals md count ty v w → u ≡ w
  same_locals count ty v u w a b =
      let same_type : a.type ≡ b.type = cc in
      a.defines ∙ (ap (λ (t : ValType). body_with_locals count t v) same_type ∙ sym b.defines)

  pub no_locals : (count : ℕ) (ty : ValType) (v w : BodyState) → CannotDefine md count ty v → DefinesLocals md count ty v w → ⊥
  no_locals count ty v w (inl none) d = let clash : None ≡ Some d.type = sym none ∙ d.is_canonical in absurd cc
  no_locals count ty v w (inr many) d = omega (arith, many, d.within_limit)

  same_each : (groups : List (ℕ × ValType)) (v u w : BodyState) → DefinesEach md groups v u → DefinesEach md groups v w → u ≡ w
  same_each [] v u w a b = sym a ∙ b
  same_each (l ∷ ls) v u w a b =
      let first : a.0 ≡ b.0 = same_locals l.0 l.1 v a.0 b.0 a.1 b.1 in
      same_each ls b.0 u w (subst (λ x. DefinesEach md ls x u) first a.2) b.2

module _ (md : ModuleContext) (features : WasmFeatures) (types : CanonicalTypes) (may : Op → Bool) (v u : BodyState) (bytes behind : List ℕ) where
  begun : (kind : BodyKind) (groups : List (ℕ × ValType)) → IsBodyStart md features kind v → DefinesEach md groups v u → IsStarting md u → (s : AreSafeOperators md types may u behind) → IsCode types kind bytes groups (without_offsets s.accepted.ops) → IsSafeCode md features types kind may bytes
  begun kind groups starts defines starting s code = record {
    accepted = record {
      groups = groups;
      ops = s.accepted.ops;
      is_code = code;
      each_stands = s.accepted.each_stands;
      begun = u;
      has_locals = record { start = v; starts = starts; defines = defines };
      rows_hold = s.accepted.rows_hold;
    };
    block_type = starting.block_type;
    one_frame = starting.one_frame;
    safe = s.are_safe starting.block_type starting.one_frame;
  }

  pub function_code : (kind : BodyKind) (index : ℕ) → kind ≡ Function index → IsBodyStart md features kind v → DefinesRead md types bytes behind v u → IsStarting md u → AreSafeOperators md types may u behind → IsSafeCode md features types kind may bytes
  function_code kind index is starts d starting s =
      begun kind d.groups starts d.define starting s
      (subst (λ k. IsCode types k bytes d.groups (without_offsets s.accepted.ops)) (sym is)
      (record { behind = behind; has_locals = d.are_read; has_operators = s.accepted.are_read }))

  -- a fault stands behind the locals and what is accepted
  pub function_fault : (kind : BodyKind) (index told end : ℕ) (e : CheckError) → kind ≡ Function index → told ≡ end → IsBodyStart md features kind v → DefinesRead md types bytes behind v u → ReachFault md types may told u behind e → HasFault md features types kind may end bytes e
  function_fault kind index told end e is same starts d reached = record {
    groups = d.groups;
    behind = behind;
    are_read = subst (λ k. BeginLocals types k bytes d.groups behind) (sym is) d.are_read;
    begun = u;
    has_locals = record { start = v; starts = starts; defines = d.define };
    reached = subst (λ (n : ℕ). ReachFault md types may n u behind e) same reached;
  }

  -- the locals that the bytes begin with, in a body that is accepted
  read_of : (kind : BodyKind) (index : ℕ) → kind ≡ Function index → IsBodyStart md features kind v → (a : IsAcceptedCode md features types kind may bytes) → (rest : List ℕ) × DefinesRead md types bytes rest v a.begun × AreAcceptedOperators md types may a.begun rest
  read_of kind index is starts a =
      let code : IsFunctionCode types bytes a.groups (without_offsets a.ops) =
      subst (λ k. IsCode types k bytes a.groups (without_offsets a.ops)) is a.is_code in
      let here = same_start md features kind a.has_locals.start v a.has_locals.starts starts in (
        code.behind,
        record { groups = a.groups; are_read = code.has_locals; define = subst (λ x. DefinesEach md a.groups x a.begun) here a.has_locals.defines },
        record { ops = a.ops; are_read = code.has_operators; each_stands = a.each_stands; rows_hold = a.rows_hold },
      )

  -- it has no such locals
  pub no_groups : (kind : BodyKind) (index : ℕ) → kind ≡ Function index → IsBodyStart md features kind v → ((rest : List ℕ) (w : BodyState) → ¬ DefinesRead md types bytes rest v w) → HaveNoLocals md features types kind bytes
  no_groups kind index is starts none groups rest w read has =
      let here = same_start md features kind has.start v has.starts starts in
      none rest w (record {
        groups = groups;
        are_read = subst (λ k. BeginLocals types k bytes groups rest) is read;
        define = subst (λ x. DefinesEach md groups x w) here has.defines;
      })

  -- its operators aren't accepted
  pub no_function : (kind : BodyKind) (index : ℕ) → kind ≡ Function index → IsBodyStart md features kind v → DefinesRead md types bytes behind v u → ¬ AreAcceptedOperators md types may u behind → ¬ IsAcceptedCode md features types kind may bytes
  no_function kind index is starts d none = λ a.
      let r = read_of kind index is starts a in
      let same = both_same _ r.1.groups d.groups r.0 behind r.1.are_read d.are_read in
      let defined : DefinesEach md d.groups v a.begun = subst (λ g. DefinesEach md g v a.begun) same.0 r.1.define in
      let same_state : a.begun ≡ u = same_each md d.groups v a.begun u defined d.define in
      none (subst (λ x. AreAcceptedOperators md types may x behind) same_state
      (subst (λ l. AreAcceptedOperators md types may a.begun l) same.1 r.2))

module _ (md : ModuleContext) (features : WasmFeatures) (types : CanonicalTypes) (may : Op → Bool) (v : BodyState) (bytes : List ℕ) where
  pub expression_code : (kind : BodyKind) (ty : ValType) → kind ≡ Expression ty → IsBodyStart md features kind v → IsStarting md v → AreSafeOperators md types may v bytes → IsSafeCode md features types kind may bytes
  expression_code kind ty is starts starting s =
      begun md features types may v v bytes bytes kind [] starts refl starting s
      (subst (λ k. IsCode types k bytes [] (without_offsets s.accepted.ops)) (sym is) (refl, s.accepted.are_read))

  pub expression_fault : (kind : BodyKind) (ty : ValType) (told end : ℕ) (e : CheckError) → kind ≡ Expression ty → told ≡ end → IsBodyStart md features kind v → ReachFault md types may told v bytes e → HasFault md features types kind may end bytes e
  expression_fault kind ty told end e is same starts reached = record {
    groups = [];
    behind = bytes;
    are_read = subst (λ k. BeginLocals types k bytes [] bytes) (sym is) (refl, refl);
    begun = v;
    has_locals = record { start = v; starts = starts; defines = refl };
    reached = subst (λ (n : ℕ). ReachFault md types may n v bytes e) same reached;
  }

  pub no_expression : (kind : BodyKind) (ty : ValType) → kind ≡ Expression ty → IsBodyStart md features kind v → ¬ AreAcceptedOperators md types may v bytes → ¬ IsAcceptedCode md features types kind may bytes
  no_expression kind ty is starts none = λ a.
      let code = subst (λ k. IsCode types k bytes a.groups (without_offsets a.ops)) is a.is_code in
      let defined : DefinesEach md [] a.has_locals.start a.begun = subst (λ g. DefinesEach md g a.has_locals.start a.begun) code.0 a.has_locals.defines in
      let here : a.begun ≡ v = sym defined ∙ same_start md features kind a.has_locals.start v a.has_locals.starts starts in
      let rows : IsAcceptedBody md v a.ops = subst (λ x. IsAcceptedBody md x a.ops) here a.rows_hold in
      none (record { ops = a.ops; are_read = code.1; each_stands = a.each_stands; rows_hold = rows })

  pub not_started : (kind : BodyKind) → CannotStart md features kind → ¬ IsAcceptedCode md features types kind may bytes
  not_started kind cannot = λ a. no_start md features kind a.has_locals.start cannot a.has_locals.starts

-- what is promised where there is a value is so where there is one
pub given_ok : {T E P : Type 0} (r : Result T E) → IsOk r → OnOk r P → P
given_ok (Ok x) is h = h
given_ok (Err e) is h = absurd cc

-- what follows from it is so too
pub then_ok : {T E P Q : Type 0} (r : Result T E) → (P → Q) → OnOk r P → OnOk r Q
then_ok (Ok x) f h = f h
then_ok (Err e) f h = h

-- what follows of the error that there is, where two facts are told of it
pub error_of : {T E Q : Type 0} (r : Result T E) (R X : E → Type 0) → (IsOk r → ⊥) → IfErr r R → IfErr r X → ((e : E) → R e → X e → Q) → Q
error_of (Ok x) R X none is told f = absurd (none refl)
error_of (Err e) R X none is told f = f e is told

-- two facts that are told of the error that there is
pub both_told : {T E : Type 0} (r : Result T E) (X Y : E → Type 0) → IfErr r X → IfErr r Y → IfErr r (λ e. X e × Y e)
both_told (Ok x) X Y a b = tt
both_told (Err e) X Y a b = (a, b)
