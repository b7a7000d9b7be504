-- Calls in the place of the rest of a body.
use Rattle.std.proofs.Common.{◌≡◌, ◌≢◌, pred, Bool, true, false, List, [], ◌∷◌, length, reverse, None, Result, Ok, Err, OnOk, IfErr, MatchResult, refl, ap, ◌∙◌}
use Rattle.std.specs.Option.{option_map}
use Rattle.validate_resources.specs.Context.{ModuleContext}
use Rattle.validate_types.specs.declared.types.ValType.{ValType}
use Rattle.validation_rules.specs.Calls.{may_return, tail_call_row}
use Rattle.validation_rules.specs.Context.{Context}
use Rattle.validation_rules.specs.Rows.{Head, Operator, Row, Target, guard}
use Rattle.validation_rules.specs.Static.{Frame, heads}
use Rattle.validation_rules.specs.Operators.{staying_operator}
use Rattle.validation_rules.proofs.Rows.{row_with}
use Rattle.validate_stacks.specs.Attempts.{Stacked}
use Rattle.validate_stacks.specs.Moves.{Moves}
use Rattle.validate_stacks.specs.Pops.{body_popped_each, has_operands_fitting}
use Rattle.validate_stacks.specs.State.{BodyState, IsValidBody, body_context}
use Rattle.validate_stacks.specs.Steps.{body_unreachable}
use Rattle.validate_stacks.specs.Visits.{step_body}
use Rattle.validate_stacks.proofs.Moves.{not_popped}
use Rattle.validate_shapes.proofs.BranchSteps.{each_fits, ends_is}
use Rattle.validate_shapes.proofs.Moves.{unmoved, moves_found, ended_moves}

-- ---- the rest of a tail call

module _ (md : ModuleContext) (v : BodyState) (o : v.present.frames ≢ []) (expected results : List ValType) where
  abbrev returned : List Target
  returned = record { depth = pred (length (heads v.present.frames)); carried = λ found. results } ∷ []

  pub tail_with : (b : Bool) → may_return (body_context md v) (heads v.present.frames) results ≡ b → step_body md (λ c. staying_operator (λ hs. tail_call_row c hs expected results)) v ≡ guard b (option_map body_unreachable (body_popped_each md (reverse expected) v))
  tail_with b h =
      ends_is md v o (λ c hs. tail_call_row c hs expected results) b expected [] returned (ap (λ p. row_with p None expected [] [] None returned [] true) h)
      ∙ ap (guard b) (only v.present.frames refl)
    where
      only : (fs : List Frame) → v.present.frames ≡ fs → guard (each_fits (body_context md v) (length expected) v.present.frames []) (option_map body_unreachable (body_popped_each md (reverse expected) v)) ≡ option_map body_unreachable (body_popped_each md (reverse expected) v)
      only [] e = absurd (o e)
      only (g ∷ gs) e = ap (λ hs. guard (each_fits (body_context md v) (length expected) hs []) (option_map body_unreachable (body_popped_each md (reverse expected) v))) e

  pub tail_of_others : may_return (body_context md v) (heads v.present.frames) results ≡ false → step_body md (λ c. staying_operator (λ hs. tail_call_row c hs expected results)) v ≡ None
  tail_of_others h = tail_with false h

  pub tail_refused : body_popped_each md (reverse expected) v ≡ None → step_body md (λ c. staying_operator (λ hs. tail_call_row c hs expected results)) v ≡ None
  tail_refused n =
      let b = may_return (body_context md v) (heads v.present.frames) results in
      tail_with b refl ∙ (ap (λ p. guard b (option_map body_unreachable p)) n ∙ none_either b)
    where
      none_either : (b : Bool) → guard {A = BodyState} b None ≡ None
      none_either true = refl
      none_either false = refl

-- ---- bodies of tail calls: once the function is known, what it takes and gives

module _ {E : Type 0} (md : ModuleContext) (tells : E → Type 0) (s : Stacked) (open_frame : s.body.present.frames ≢ []) (row : Context → List Head → Row) (expected results : List ValType) where
  abbrev now_row : Row
  now_row = row (body_context md s.body) (heads s.body.present.frames)

  abbrev comes_back : Bool
  comes_back = may_return (body_context md s.body) (heads s.body.present.frames) results

  abbrev is_tail : Type 0
  is_tail = now_row ≡ tail_call_row (body_context md s.body) (heads s.body.present.frames) expected results

  abbrev tail : Context → Operator
  tail = λ c. staying_operator (λ hs. tail_call_row c hs expected results)

  -- the results are others
  pub others_unmoved : is_tail → (r : Result (Unit {0}) E) → OnOk r ⊥ → comes_back ≡ false → Moves md tells (λ c. staying_operator (row c)) s r s
  others_unmoved is r never h =
      moves_found md tells s row s (λ c hs. tail_call_row c hs expected results) r is
      (unmoved md tells tail s s r never refl (told r))
    where
      told : (r : Result (Unit {0}) E) → IfErr r (λ e. tells e → step_body md tail s.body ≡ None)
      told (Ok u) = tt
      told (Err e) = λ t. tail_of_others md s.body open_frame expected results h

  -- what is taken isn't there
  pub unfit_unmoved : is_tail → (r : Result (Unit {0}) E) → OnOk r ⊥ → has_operands_fitting (body_context md s.body) expected s.body ≡ false → Moves md tells (λ c. staying_operator (row c)) s r s
  unfit_unmoved is r never h =
      moves_found md tells s row s (λ c hs. tail_call_row c hs expected results) r is
      (unmoved md tells tail s s r never refl (told r))
    where
      told : (r : Result (Unit {0}) E) → IfErr r (λ e. tells e → step_body md tail s.body ≡ None)
      told (Ok u) = tt
      told (Err e) = λ t. tail_refused md s.body open_frame expected results (not_popped md expected s.body open_frame h)

  -- the live part ends
  pub tail_moves : is_tail → (w : Stacked) → comes_back ≡ true → has_operands_fitting (body_context md s.body) expected s.body ≡ true → IsValidBody md s.body → (a : Result (Unit {0}) E) → IfErr a (λ e. tells e → ⊥) → MatchResult a (λ _. w.body ≡ body_unreachable s.body) (λ _. w ≡ s) → Moves md tells (λ c. staying_operator (row c)) s a w
  tail_moves is w h fit state a told m =
      moves_found md tells s row w (λ c hs. tail_call_row c hs expected results) a is
      (ended_moves md tells tail s w expected (tail_with md s.body open_frame expected results true h) fit state a told m)
