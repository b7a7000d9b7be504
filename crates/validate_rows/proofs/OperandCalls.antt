-- Calls of a function that the operand on top names, where it isn't there.
use Rattle.std.proofs.Common.{◌≡◌, ◌≢◌, ℕ, [], ◌∷◌, ◌++◌, reverse, Option, Some, None, refl, sym, ap, ◌∙◌}
use Rattle.validate_resources.specs.Context.{ModuleContext}
use Rattle.validate_types.specs.Types.{Signature}
use Rattle.validate_types.specs.declared.types.ValType.{ValType}
use Rattle.validation_rules.specs.Calls.{tail_call_row}
use Rattle.validation_rules.specs.Indirect.{typed_callee, call_operand_row, return_call_operand_row}
use Rattle.validation_rules.specs.Static.{heads}
use Rattle.validation_rules.specs.Operators.{plain_row, never_row, row_operator, staying_operator, lookup_row}
use Rattle.validate_stacks.specs.Pops.{body_popped_each}
use Rattle.validate_stacks.specs.State.{BodyState, body_context}
use Rattle.validate_stacks.specs.Visits.{step_body}
use Rattle.validate_stacks.proofs.Whole.{none_above}
use Rattle.validate_shapes.proofs.Rows.{plain_refused, not_plain, same_row}
use Rattle.validate_rows.proofs.TailCalls.{tail_refused}
use Rattle.validate_shapes.proofs.LookupRows.{at_labels}

module _ (md : ModuleContext) (v : BodyState) (o : v.present.frames ≢ []) (top : ValType) (type : ℕ) (n : body_popped_each md (reverse (top ∷ [])) v ≡ None) where
  pub call_missing : step_body md (λ c. row_operator (call_operand_row c (Some top) type)) v ≡ None
  call_missing = by (typed_callee (body_context md v) type) refl
    where
      by : (q : Option Signature) → typed_callee (body_context md v) type ≡ q → step_body md (λ c. row_operator (call_operand_row c (Some top) type)) v ≡ None
      by None e =
          same_row md v (λ c. row_operator (call_operand_row c (Some top) type)) (row_operator never_row) (ap (λ q. row_operator (lookup_row q (λ (s : Signature). plain_row (s.params ++ top ∷ []) s.results))) e)
          ∙ not_plain md v [] []
      by (Some s) e =
          same_row md v (λ c. row_operator (call_operand_row c (Some top) type)) (row_operator (plain_row (s.params ++ top ∷ []) s.results)) (ap (λ q. row_operator (lookup_row q (λ (s : Signature). plain_row (s.params ++ top ∷ []) s.results))) e)
          ∙ plain_refused md v (s.params ++ top ∷ []) s.results o (none_above md s.params (top ∷ []) v n)

  pub return_call_missing : step_body md (λ c. staying_operator (λ hs. return_call_operand_row c hs (Some top) type)) v ≡ None
  return_call_missing = at_labels md v (λ c hs. return_call_operand_row c hs (Some top) type) ∙ by (typed_callee (body_context md v) type) refl
    where
      by : (q : Option Signature) → typed_callee (body_context md v) type ≡ q → step_body md (λ c. row_operator (return_call_operand_row c (heads v.present.frames) (Some top) type)) v ≡ None
      by None e =
          same_row md v (λ c. row_operator (return_call_operand_row c (heads v.present.frames) (Some top) type)) (row_operator never_row) (ap (λ q. row_operator (lookup_row q (λ (s : Signature). tail_call_row (body_context md v) (heads v.present.frames) (s.params ++ top ∷ []) s.results))) e)
          ∙ not_plain md v [] []
      by (Some s) e =
          same_row md v (λ c. row_operator (return_call_operand_row c (heads v.present.frames) (Some top) type)) (row_operator (tail_call_row (body_context md v) (heads v.present.frames) (s.params ++ top ∷ []) s.results)) (ap (λ q. row_operator (lookup_row q (λ (s : Signature). tail_call_row (body_context md v) (heads v.present.frames) (s.params ++ top ∷ []) s.results))) e)
          ∙ (sym (at_labels md v (λ c hs. tail_call_row c hs (s.params ++ top ∷ []) s.results))
          ∙ tail_refused md v o (s.params ++ top ∷ []) s.results (none_above md s.params (top ∷ []) v n))
