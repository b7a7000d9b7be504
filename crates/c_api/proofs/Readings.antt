-- What bytes are read as, by the types of a module.
use Rattle.std.proofs.Common.{◌≡◌, ℕ, ◌+◌, ◌-◌, List, [], ◌∷◌, length, Option, Some, None, refl, sym, ap, ◌∙◌, subst, arith}
use Rattle.binary_operators.specs.Instructions.{operator as read_operator}
use Rattle.binary_operators.specs.Unplaced.{unplaced}
use Rattle.binary_operators.specs.declared.types.CanonicalTypes.{CanonicalTypes}
use Rattle.binary_operators.specs.declared.types.GroupNames.{GroupNames}
use Rattle.binary_operators.proofs.Shorter.{operator_shorter}
use Rattle.binary_operators.proofs.Wherever.{lying, operators_same}
use Rattle.module_check.proofs.Begun.{none_or_some, both_same}
use Rattle.module_check.proofs.Unplaced.{same_operator}
use Rattle.validate_stacks.specs.State.{BodyState, body_context}
use Rattle.validate_visit.specs.declared.op.Op.{Op}
use Rattle.validation_rules.specs.Operators.{operator}
use Rattle.validation_rules.specs.Static.{step}
use Rattle.c_api.specs.Modules.{context_in, AreTypesIn}
use Rattle.c_api.specs.Operators.{IsOperatorOf, BeginsWithNone, HasNoRow}
use Rattle.c_api.specs.declared.shared.HeldModule.{HeldModule}

-- how many bytes an operator has
pub length_taken : (types : CanonicalTypes) (bytes left : List ℕ) (op : Op) → read_operator types bytes ≡ Some (op, left) → length bytes ≡ (length bytes - length left) + length left
length_taken types bytes left op e = omega (arith, operator_shorter types bytes left op e)

read_lying : (p q : ℕ × ℕ) (l : List ℕ) (g : GroupNames) (bytes left : List ℕ) (op : Op) → read_operator (lying p l g) bytes ≡ Some (op, left) → read_operator (lying q l g) bytes ≡ Some (op, left)
read_lying p q l g bytes left op e =
    let r = operators_same p q l g (op ∷ []) bytes left (left, e, refl) in
    subst (λ x. read_operator (lying q l g) bytes ≡ Some (op, x)) r.2 r.1

module _ (h : HeldModule) where
  -- by the types of one module alike
  pub same_read : (s t : CanonicalTypes) → AreTypesIn h s → AreTypesIn h t → (bytes left : List ℕ) (op : Op) → read_operator s bytes ≡ Some (op, left) → read_operator t bytes ≡ Some (op, left)
  same_read s t are_s are_t bytes left op e =
      let same_list : s.canonical.now ≡ t.canonical.now = are_s.canonical ∙ sym are_t.canonical in
      let same_group : s.group ≡ t.group = are_s.behind ∙ sym are_t.behind in
      subst (λ g. read_operator (lying t.canonical.ref_ptr t.canonical.now g) bytes ≡ Some (op, left)) same_group
      (subst (λ l. read_operator (lying t.canonical.ref_ptr l s.group) bytes ≡ Some (op, left)) same_list
      (read_lying s.canonical.ref_ptr t.canonical.ref_ptr s.canonical.now s.group bytes left op e))

  -- where none is read by some of them, none is by others
  pub none_read : (s : CanonicalTypes) (bytes : List ℕ) → AreTypesIn h s → read_operator s bytes ≡ None → BeginsWithNone h bytes
  none_read s bytes are_s none = λ t are_t. by t are_t (read_operator t bytes) refl
    where
      by : (t : CanonicalTypes) → AreTypesIn h t → (o : Option (Op × List ℕ)) → read_operator t bytes ≡ o → o ≡ None
      by t are_t None e = refl
      by t are_t (Some r) e = absurd (none_or_some (r.0, r.1) (sym none ∙ same_read t s are_t are_s bytes r.1 r.0 e))

  -- bytes that begin with no operator begin with none whose row holds
  pub no_row_of_none : (bytes : List ℕ) (v : BodyState) → BeginsWithNone h bytes → HasNoRow h bytes v
  no_row_of_none bytes v none = λ types op behind are e. absurd (none_or_some (op, behind) (sym (none types are) ∙ e))

  -- nor do those of one whose row doesn't hold
  pub no_row : (bytes : List ℕ) (v : BodyState) (op : Op) (taken : ℕ) → IsOperatorOf h bytes op taken → step (body_context (context_in h) v) (operator (body_context (context_in h) v) op) v.present ≡ None → HasNoRow h bytes v
  no_row bytes v op taken is fails = λ types other behind are e.
      let cx = body_context (context_in h) v in
      let same = both_same (read_operator is.types bytes) other (unplaced op) behind is.behind (same_read types is.types are is.are_types bytes behind other e) is.is_read in
      ap (λ o. step cx (operator cx o) v.present) same.0 ∙ (ap (λ o. step cx o v.present) (same_operator cx op) ∙ fails)
