-- One more accepted operator, and the whole body.
use Rattle.std.proofs.Common.{◌≡◌, ℕ, List, [], ◌∷◌, ◌++◌, length, Option, Some, ap, ◌∙◌}
use Rattle.std.specs.Option.{option_and_then}
use Rattle.std.proofs.lemmas.List.{length-map}
use Rattle.validate_resources.specs.Context.{ModuleContext}
use Rattle.validate_visit.specs.declared.op.Op.{Op}
use Rattle.validation_rules.specs.Context.{Context}
use Rattle.validation_rules.specs.Operators.{operator, operators}
use Rattle.validation_rules.specs.Static.{Frame, State, step, state_before}
use Rattle.validation_rules.proofs.Steps.{and_then_given}
use Rattle.validate_stacks.specs.State.{BodyState, body_context}
use Rattle.validate_operators.specs.Runs.{without_offsets, body_operators, body_before, IsAcceptedBody}

-- the static run over one more operator
pub run_more : (cx : Context) (ops : List (Op × ℕ)) (p : Op × ℕ) (s u w : State) → state_before cx (operators cx (without_offsets ops)) s (length ops) ≡ Some u → step cx (operator cx p.0) u ≡ Some w → state_before cx (operators cx (without_offsets (ops ++ p ∷ []))) s (length (ops ++ p ∷ [])) ≡ Some w
run_more cx [] p s u w h e =
    let same : s ≡ u = cc in
    ap (λ (o : Option State). option_and_then (λ (t : State). Some t) o) (ap (step cx (operator cx p.0)) same ∙ e)
run_more cx (q ∷ ops) p s u w h e =
    let m = and_then_given (step cx (operator cx q.0) s) (λ (v : State). state_before cx (operators cx (without_offsets ops)) v (length ops)) u h in
    ap (λ (o : Option State). option_and_then (λ (v : State). state_before cx (operators cx (without_offsets (ops ++ p ∷ []))) v (length (ops ++ p ∷ []))) o) m.1 ∙ run_more cx ops p m.0 u w m.2 e

pub accepted_whole : (md : ModuleContext) (s : BodyState) (ops : List (Op × ℕ)) (t : State) → body_before md s ops (length ops) ≡ Some t → t.frames ≡ [] → IsAcceptedBody md s ops
accepted_whole md s ops t run none =
    let cx = body_context md s in (
      t.left,
      ap (state_before cx (body_operators md s ops) s.present) (length-map (without_offsets ops) (operator cx) ∙ length-map ops (λ (p : Op × ℕ). p.0))
          ∙ (run ∙ ap (λ (fs : List Frame). Some (record { frames = fs; left = t.left })) none),
    )
