use Rattle.std.proofs.Common.{◌≡◌, false, Some, None, [], ◌∷◌, ◌++◌, List, length, sym, ap, ◌∙◌, subst}
use Rattle.std.specs.List.{AllByRecursion}
use Rattle.std.specs.Option.{option_copied}
use Rattle.validate_resources.specs.Context.{ModuleContext, Valid}
use Rattle.validate_types.specs.declared.types.ValType.{ValType}
use Rattle.validation_rules.specs.Context.{Context}
use Rattle.validation_rules.specs.Continuations.{referenced_continuation, may_switch, switch_row}
use Rattle.validation_rules.specs.Operators.{plain_row}
use Rattle.validation_rules.proofs.ValidContinuations.{referenced_valid}
use Rattle.validate_stacks.specs.State.{body_context}
use Rattle.validate_shapes.proofs.CarriedTypes.{front_and_last}
use Rattle.validate_rows_gc.proofs.ResumedRows.{no_other, not_leading_back, leading_back}
use Rattle.validate_rows_gc.proofs.continuations.switch_types.Given.{Over}
use Rattle.validate_rows_gc.proofs.continuations.switch_types.Goals.{In-Some, In-Some-referenced_continuation, After-is_func_subtype}
use Rattle.validate_rows_gc.proofs.continuations.switch_types.Goals as goal

module _ (g : Over) (c : In-Some g) where
  abbrev md : ModuleContext
  md = g.R.WasmModuleResources.context c.args.context.now.resources.now

  abbrev cx : Context
  cx = body_context md c.args.context.now.stacks.now.body

  takes_nothing : length c.in_ok-tag_type.tag_type.now.params ≡ 0
  takes_nothing = ap length (sym c.params.ensures) ∙ c.if-params-ne0.false

  ends_in_last : c.in_ok-func_type.func_type.now.params ≡ c.in-Some.others.now ++ c.in-Some.last.now ∷ []
  ends_in_last = sym c.params-2.ensures ∙ c.in-Some.ensures.cases.0

  others_and_last_valid : AllByRecursion (Valid md) c.in-Some.others.now × Valid md c.in-Some.last.now
  others_and_last_valid = front_and_last (Valid md) _ _ (subst (AllByRecursion (Valid md)) ends_in_last c.in_ok-func_type.ensures.params)

  barred_without_other : referenced_continuation md c.in-Some.last.now ≡ None → (switch_row cx c.args.cont_type_index c.args.tag_index).premise ≡ false
  barred_without_other = no_other cx c.args.cont_type_index c.args.tag_index c.in_ok-func_type.func_type.now c.in_ok-tag_type.tag_type.now c.in_ok-func_type.ensures.found c.in_ok-tag_type.ensures.found takes_nothing _ _ ends_in_last

-- the continuation that is switched to
module _ (g : Over) (c : In-Some-referenced_continuation g) where
  abbrev last_found : In-Some g
  last_found = (goal.at.In-Some-referenced_continuation g c).In-Some

  refers_to_other : referenced_continuation (md g last_found) c.in-Some.last.now ≡ Some c.in-Some-referenced_continuation.other.now
  refers_to_other = sym c.referenced_continuation.ensures ∙ ap option_copied c.in-Some-referenced_continuation.is

  other_valid : AllByRecursion (Valid (md g last_found)) c.in-Some-referenced_continuation.other.now.params × AllByRecursion (Valid (md g last_found)) c.in-Some-referenced_continuation.other.now.results
  other_valid = referenced_valid (cx g last_found) (g.met.R.WasmModuleResources.lawful c.args.context.now.resources.now) c.in-Some.last.now _ refers_to_other

switches_as_told : (g : Over) (c : After-is_func_subtype g) → may_switch (g.R.WasmModuleResources.context c.args.context.now.resources.now) c.in_ok-tag_type.tag_type.now.results c.in_ok-func_type.func_type.now c.in-Some-referenced_continuation.other.now ≡ c.is_func_subtype.result
switches_as_told g c = rw (sym c.results-pushed.ensures, sym c.results-back.ensures, sym c.results.ensures) (sym c.is_func_subtype.ensures)

pub returns-then-not-is_concrete_reference : goal.returns-then-not-is_concrete_reference
returns-then-not-is_concrete_reference g c =
    let none = barred_without_other g (goal.at.returns-then-not-is_concrete_reference g c).In-Some in
    record { found = tt; valid = tt; refused = λ _. none (c.is_concrete_reference.ensures (g.R.WasmModuleResources.context c.args.context.now.resources.now) c.if-not-is_concrete_reference.true) }

pub referenced_continuation-requires : goal.referenced_continuation-requires
referenced_continuation-requires g c = (others_and_last_valid g (goal.at.referenced_continuation-requires g c).In-Some).1

pub returns-in_default-referenced_continuation : goal.returns-in_default-referenced_continuation
returns-in_default-referenced_continuation g c =
    let none = barred_without_other g (goal.at.returns-in_default-referenced_continuation g c).In-Some in
    record { found = tt; valid = tt; refused = λ _. none (sym c.referenced_continuation.ensures ∙ ap option_copied c.in_default-referenced_continuation.is) }

pub is_func_subtype-requires-clause-r2 : goal.is_func_subtype-requires-clause-r2
is_func_subtype-requires-clause-r2 g c =
    subst (AllByRecursion (Valid (g.R.WasmModuleResources.context c.args.context.now.resources.now))) (sym c.results.ensures) (other_valid g (goal.at.is_func_subtype-requires-clause-r2 g c).In-Some-referenced_continuation).1

pub returns-then-not-is_func_subtype : goal.returns-then-not-is_func_subtype
returns-then-not-is_func_subtype g c =
    let at = goal.at.returns-then-not-is_func_subtype g c in
    record {
      found = tt;
      valid = tt;
      refused = λ _.
          not_leading_back (cx g at.In-Some) c.args.cont_type_index c.args.tag_index c.in_ok-func_type.func_type.now c.in_ok-tag_type.tag_type.now c.in_ok-func_type.ensures.found c.in_ok-tag_type.ensures.found (takes_nothing g at.In-Some) _ _ (ends_in_last g at.In-Some) c.in-Some-referenced_continuation.other.now (refers_to_other g at.In-Some-referenced_continuation)
          (switches_as_told g at.After-is_func_subtype ∙ c.if-not-is_func_subtype.true);
    }

pub returns : goal.returns
returns g c =
    let at = goal.at.returns g c in
    let valid = others_and_last_valid g at.In-Some in
    let switches = switches_as_told g at.After-is_func_subtype ∙ c.if-not-is_func_subtype.false in
    record {
      found =
          leading_back (cx g at.In-Some) c.args.cont_type_index c.args.tag_index c.in_ok-func_type.func_type.now c.in_ok-tag_type.tag_type.now c.in_ok-func_type.ensures.found c.in_ok-tag_type.ensures.found (takes_nothing g at.In-Some) _ _ (ends_in_last g at.In-Some) c.in-Some-referenced_continuation.other.now (refers_to_other g at.In-Some-referenced_continuation) c.in_ok-from.from c.in_ok-from.ensures.found switches
          ∙ ap (λ (ps : List ValType). plain_row (c.in-Some.others.now ++ c.in_ok-from.from ∷ []) ps) (sym c.params-3.ensures);
      valid = ((valid.0, c.in_ok-from.ensures.valid), subst (AllByRecursion (Valid (g.R.WasmModuleResources.context c.args.context.now.resources.now))) (sym c.params-3.ensures) (other_valid g at.In-Some-referenced_continuation).0);
      refused = tt;
    }
