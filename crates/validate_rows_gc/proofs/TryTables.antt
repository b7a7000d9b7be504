-- The clauses of a `try_table`, and its step.
use Rattle.std.proofs.Common.{◌≡◌, ◌≢◌, ℕ, zero, suc, Bool, true, false, ◌&&◌, List, [], ◌∷◌, reverse, drop, slice_get, Option, Some, None, refl, sym, ap, ap₂, ◌∙◌, append-nil}
use Rattle.std.specs.Option.{option_map, option_and_then}
use Rattle.validate_resources.specs.Context.{ModuleContext}
use Rattle.validate_types.specs.declared.types.ValType.{ValType}
use Rattle.validate_visit.specs.declared.catch.Catch.{Catch}
use Rattle.validate_visit.specs.declared.catch.TryTable.{TryTable}
use Rattle.validate_visit.specs.declared.frame.BlockType.{BlockType}
use Rattle.validation_rules.specs.Context.{Context, block_signature}
use Rattle.validation_rules.specs.Exceptions.{catch_clause, catch_clauses, operator_catching, try_table_operator, is_catch_part, has_first_caught}
use Rattle.validation_rules.specs.Operators.{checked_block, opener, opening_operator, opening_operator_if}
use Rattle.validation_rules.specs.Rows.{FrameKind, TryTable as TryTableFrame, Head, Clause, guard}
use Rattle.validation_rules.specs.Static.{Frame, State, heads, clause_fits, clauses_fit, step_in}
use Rattle.validation_rules.proofs.Pops.{and_false}
use Rattle.validation_rules.proofs.Steps.{some_injective}
use Rattle.validate_stacks.specs.Blocks.{body_with_block}
use Rattle.validate_stacks.specs.Pops.{body_popped_each}
use Rattle.validate_stacks.specs.State.{BodyState, body_context}
use Rattle.validate_stacks.specs.Steps.{type_and_kind}
use Rattle.validate_stacks.specs.Visits.{step_body}
use Rattle.validate_shapes.proofs.OpenerSteps.{opened_is}
use Rattle.validate_rows_gc.specs.Clauses.{is_fitting_clause, is_fitting_catch, are_fitting_catches}

-- ---- one clause

-- a part that caught an exception, at the label that was found
pub caught_there : (hs : List Head) (d : ℕ) (bt : BlockType) (kind : FrameKind) → option_map type_and_kind (slice_get hs d) ≡ Some (bt, kind) → has_first_caught (drop d hs) ≡ is_catch_part kind
caught_there [] zero bt kind e = absurd cc
caught_there [] (suc d) bt kind e = absurd cc
caught_there (h ∷ hs) zero bt kind e =
    let both : (h.block_type, h.kind) ≡ (bt, kind) = some_injective _ _ e in
    ap (λ (p : BlockType × FrameKind). is_catch_part p.1) both
caught_there (h ∷ hs) (suc d) bt kind e = caught_there hs d bt kind e

pub caught_none : (hs : List Head) (d : ℕ) → option_map type_and_kind (slice_get hs d) ≡ None → has_first_caught (drop d hs) ≡ false
caught_none [] zero e = refl
caught_none [] (suc d) e = refl
caught_none (h ∷ hs) zero e = absurd cc
caught_none (h ∷ hs) (suc d) e = caught_none hs d e

-- ---- all clauses

-- each is there and fits, or one isn't
abbrev are_fitting_clauses : Context → List Head → Option (List Clause) → Bool
are_fitting_clauses cx hs None = false
are_fitting_clauses cx hs (Some clauses) = clauses_fit cx hs clauses

clauses_by : (cx : Context) (hs : List Head) (catches : List Catch) → are_fitting_catches cx hs catches ≡ are_fitting_clauses cx hs (catch_clauses cx.of_module catches)
clauses_by cx hs [] = refl
clauses_by cx hs (c ∷ catches) =
    ap (λ b. is_fitting_catch cx hs c && b) (clauses_by cx hs catches)
    ∙ by (catch_clause cx.of_module c) (catch_clauses cx.of_module catches)
  where
    by : (o : Option Clause) (p : Option (List Clause)) → (is_fitting_clause cx hs o && are_fitting_clauses cx hs p) ≡ are_fitting_clauses cx hs (option_and_then (λ clause. option_map (λ others. clause ∷ others) p) o)
    by None p = refl
    by (Some clause) None = and_false (clause_fits cx hs clause)
    by (Some clause) (Some clauses) = refl

-- ---- the step of `try_table`

module _ (md : ModuleContext) (v : BodyState) (t : TryTable) where
  abbrev cx : Context
  cx = body_context md v

  abbrev hs_now : List Head
  hs_now = heads v.present.frames

  -- with a block type that didn't pass
  pub table_not_checked : checked_block cx t.ty ≡ None → step_body md (λ c. try_table_operator c t) v ≡ None
  table_not_checked n =
      ap (λ o. step_body md (λ c. operator_catching (opener c TryTableFrame [] t.ty o) (catch_clauses md t.catches.now)) v) n
      ∙ by (catch_clauses md t.catches.now) v.present.frames
    where
      by : (o : Option (List Clause)) (fs : List Frame) → option_map (λ (s : State). record v { present = s }) (step_in cx (operator_catching (opening_operator_if false cx TryTableFrame [] t.ty) o) fs v.present.left) ≡ None
      by o [] = refl
      by None (f ∷ fs) = refl
      by (Some clauses) (f ∷ fs) = refl

  module _ (o : v.present.frames ≢ []) (bt : BlockType) (checked : checked_block cx t.ty ≡ Some bt) where
    abbrev ps : List ValType
    ps = (block_signature md bt).params

    catching : (clauses : Option (List Clause)) → step_body md (λ c. operator_catching (opening_operator c TryTableFrame [] bt) clauses) v ≡ guard (are_fitting_clauses cx hs_now clauses) (step_body md (λ c. opening_operator c TryTableFrame [] bt) v)
    catching None = none v.present.frames
      where
        none : (fs : List Frame) → option_map (λ (s : State). record v { present = s }) (step_in cx (operator_catching (opening_operator cx TryTableFrame [] bt) None) fs v.present.left) ≡ None
        none [] = refl
        none (f ∷ fs) = refl
    catching (Some clauses) = some v.present.frames
      where
        some : (fs : List Frame) → option_map (λ (s : State). record v { present = s }) (step_in cx (operator_catching (opening_operator cx TryTableFrame [] bt) (Some clauses)) fs v.present.left) ≡ guard (clauses_fit cx (heads fs) clauses) (option_map (λ (s : State). record v { present = s }) (step_in cx (opening_operator cx TryTableFrame [] bt) fs v.present.left))
        some [] = nothing (clauses_fit cx [] clauses)
          where
            nothing : (b : Bool) → None ≡ guard {A = BodyState} b None
            nothing true = refl
            nothing false = refl
        some (f ∷ fs) = by (clauses_fit cx (heads (f ∷ fs)) clauses) refl
          where
            by : (b : Bool) → clauses_fit cx (heads (f ∷ fs)) clauses ≡ b → option_map (λ (s : State). record v { present = s }) (step_in cx (operator_catching (opening_operator cx TryTableFrame [] bt) (Some clauses)) (f ∷ fs) v.present.left) ≡ guard b (option_map (λ (s : State). record v { present = s }) (step_in cx (opening_operator cx TryTableFrame [] bt) (f ∷ fs) v.present.left))
            by true e = rw e refl
            by false e = rw e refl

    table_is : step_body md (λ c. try_table_operator c t) v ≡ guard (are_fitting_catches cx hs_now t.catches.now) (option_map (λ u. body_with_block md TryTableFrame bt u) (body_popped_each md (reverse ps) v))
    table_is =
        ap (λ p. step_body md (λ c. operator_catching (opener c TryTableFrame [] t.ty p) (catch_clauses md t.catches.now)) v) checked
        ∙ catching (catch_clauses md t.catches.now)
        ∙ ap₂ (λ b s. guard b s) (sym (clauses_by cx hs_now t.catches.now)) (opened_is md v TryTableFrame [] bt o ∙ ap (λ ws. option_map (λ u. body_with_block md TryTableFrame bt u) (body_popped_each md (reverse ws) v)) (append-nil ps))

    none_either : (b : Bool) → guard {A = BodyState} b None ≡ None
    none_either true = refl
    none_either false = refl

    pub table_refused : body_popped_each md (reverse ps) v ≡ None → step_body md (λ c. try_table_operator c t) v ≡ None
    table_refused n = table_is ∙ ap (λ s. guard (are_fitting_catches cx hs_now t.catches.now) (option_map (λ u. body_with_block md TryTableFrame bt u) s)) n ∙ none_either (are_fitting_catches cx hs_now t.catches.now)

    pub table_not_fitting : are_fitting_catches cx hs_now t.catches.now ≡ false → step_body md (λ c. try_table_operator c t) v ≡ None
    table_not_fitting n = table_is ∙ ap (λ b. guard b (option_map (λ u. body_with_block md TryTableFrame bt u) (body_popped_each md (reverse ps) v))) n

    pub table_passes : (u w : BodyState) → body_popped_each md (reverse ps) v ≡ Some u → are_fitting_catches cx hs_now t.catches.now ≡ true → w ≡ body_with_block md TryTableFrame bt u → step_body md (λ c. try_table_operator c t) v ≡ Some w
    table_passes u w p fit q =
        table_is ∙ ap₂ (λ b s. guard b (option_map (λ u. body_with_block md TryTableFrame bt u) s)) fit p ∙ ap Some (sym q)
