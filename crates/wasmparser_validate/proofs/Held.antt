-- What a run holds between operators lies below the operands of the static run.
use Rattle.std.proofs.Common.{◌≡◌, ℕ, List, [], ◌∷◌, ◌++◌, map, reverse, Some, refl, sym, ap, ap₂, ◌∙◌, subst}
use Rattle.std.specs.List.{flat_map}
use Rattle.std.proofs.lemmas.List.{reverse-append, append-nil}
use Rattle.validate_resources.specs.Context.{ModuleContext}
use Rattle.validate_visit.specs.declared.frame.BlockType.{BlockType}
use Rattle.validate_visit.specs.declared.op.Op.{Op}
use Rattle.validation_rules.specs.Context.{ValType, Context, AllBelow}
use Rattle.validation_rules.specs.Fits.{MaybeType, Known}
use Rattle.validation_rules.specs.Rows.{Operator}
use Rattle.validation_rules.specs.Static.{Frame, State, open_state, start, state_before}
use Rattle.validation_rules.proofs.Below.{append-known}
use Rattle.type_safety.specs.Machine.{Label, At}
use Rattle.type_safety.specs.Theorem.{OperandsBelow, LabelsBelow, IsTypeSafe}
use Rattle.validate_stacks.specs.State.{BodyState, body_context}
use Rattle.validate_operators.specs.Runs.{body_before, body_operators, IsSafeFrom}
use Rattle.wasmparser_validate.specs.Operands.{operands_in, types_in, operands_of_labels, RunsHoldBelow, AreTypesOfRuns}

module _ (cx : Context) where
  below-append : (ts us ps qs : List ValType) → AllBelow cx ts us → AllBelow cx ps qs → AllBelow cx (ts ++ ps) (us ++ qs)
  below-append [] [] ps qs h k = k
  below-append (t ∷ ts) (u ∷ us) ps qs h k = (h.0, below-append ts us ps qs h.1 k)
  below-append [] (u ∷ us) ps qs h k = elim h [ ]
  below-append (t ∷ ts) [] ps qs h k = elim h [ ]

  -- of two lists, one behind the other
  held-append : (ts us : List ValType) (xs ys : List MaybeType) → OperandsBelow cx ts xs → OperandsBelow cx us ys → OperandsBelow cx (ts ++ us) (xs ++ ys)
  held-append ts us xs ys h k = (
    h.0 ++ k.0,
    ap₂ (λ (l m : List MaybeType). l ++ m) h.1 k.1 ∙ append-known h.0 k.0,
    below-append ts h.0 us k.0 h.2 k.2,
  )

  -- from the other end
  held-reverse : (ts : List ValType) (xs : List MaybeType) → OperandsBelow cx ts xs → OperandsBelow cx (reverse ts) (reverse xs)
  held-reverse ts xs h = subst (λ ys. OperandsBelow cx (reverse ts) (reverse ys)) (sym h.1) (by ts h.0 h.2)
    where
      by : (ts us : List ValType) → AllBelow cx ts us → OperandsBelow cx (reverse ts) (reverse (map Known us))
      by [] [] b = ([], refl, tt)
      by (t ∷ ts) (u ∷ us) b =
          subst (λ l. OperandsBelow cx l (reverse (map Known (u ∷ us)))) (sym (reverse-append (t ∷ []) ts))
          (subst (λ l. OperandsBelow cx (reverse ts ++ t ∷ []) l) (sym (reverse-append (Known u ∷ []) (map Known us)))
          (held-append (reverse ts) (t ∷ []) (reverse (map Known us)) (Known u ∷ []) (by ts us b.1) (u ∷ [], refl, (b.0, tt))))
      by [] (u ∷ us) b = elim b [ ]
      by (t ∷ ts) [] b = elim b [ ]

  -- of all labels and all frames
  held_in_labels : (ls : List Label) (fs : List Frame) → LabelsBelow cx ls fs → OperandsBelow cx (flat_map (λ (l : Label). l.operands) ls) (flat_map (λ (f : Frame). f.operands) fs)
  held_in_labels [] [] h = ([], refl, tt)
  held_in_labels (l ∷ ls) (f ∷ fs) h = held-append l.operands (flat_map (λ (l : Label). l.operands) ls) f.operands (flat_map (λ (f : Frame). f.operands) fs) h.0.operands (held_in_labels ls fs h.1)
  held_in_labels [] (f ∷ fs) h = elim h [ ]
  held_in_labels (l ∷ ls) [] h = elim h [ ]

  held : (ls : List Label) (fs : List Frame) → LabelsBelow cx ls fs → OperandsBelow cx (operands_of_labels ls) (operands_in (open_state fs))
  held ls fs h =
      held-reverse (flat_map (λ (l : Label). l.operands) ls) (flat_map (λ (f : Frame). f.operands) fs ++ [])
      (subst (OperandsBelow cx (flat_map (λ (l : Label). l.operands) ls)) (sym (append-nil (flat_map (λ (f : Frame). f.operands) fs))) (held_in_labels ls fs h))

  -- of a type safe body, and the types in the state before place k
  pub runs_hold_below : (code : List Operator) (ty : BlockType) (k : ℕ) (s : State) → IsTypeSafe cx code ty → state_before cx code (start ty) k ≡ Some s → RunsHoldBelow cx code ty k (types_in s)
  runs_hold_below code ty k s safe before n labels set run =
      let validated = (safe n (At k labels set) run).1 in
      let is_there : Some (open_state validated.0) ≡ Some s = sym validated.1 ∙ before in
      let same : open_state validated.0 ≡ s = cc in
      (operands_in (open_state validated.0), ap types_in (sym same), held labels validated.0 validated.2)

-- the same of a list of operators with offsets
pub types_of_runs : (md : ModuleContext) (v : BodyState) (ops : List (Op × ℕ)) (ty : BlockType) (k : ℕ) (s : State) → v.present ≡ start ty → IsSafeFrom md v ops ty → body_before md v ops k ≡ Some s → AreTypesOfRuns md v ops ty k (types_in s)
types_of_runs md v ops ty k s is_start safe before =
    runs_hold_below (body_context md v) (body_operators md v ops) ty k s safe.type_safe (subst (λ (p : State). state_before (body_context md v) (body_operators md v ops) p k ≡ Some s) is_start before)
