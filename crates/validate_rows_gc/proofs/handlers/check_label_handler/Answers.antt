use Rattle.std.proofs.Common.{rules, ◌≡◌, false, List, Some, None, slice_get, [], ◌∷◌, ◌++◌, map, sym, refl, ap, ◌∙◌, subst}
use Rattle.std.specs.List.{AllByRecursion}
use Rattle.std.specs.Option.{option_copied, option_map}
use Rattle.validate_resources.specs.Context.{ModuleContext, Valid}
use Rattle.validate_visit.specs.declared.resume.Handle.TheVariants.{OnLabel}
use Rattle.validation_rules.specs.Branches.{label_types_at}
use Rattle.validation_rules.specs.Context.{Context}
use Rattle.validation_rules.specs.Continuations.{continues, referenced_continuation}
use Rattle.validation_rules.specs.Exceptions.{clause_to}
use Rattle.validation_rules.specs.Fits.{Known, all_fit}
use Rattle.validation_rules.specs.Rows.{Head}
use Rattle.validation_rules.specs.Static.{heads, clause_fits}
use Rattle.validate_stacks.specs.State.{body_context}
use Rattle.validation_rules.proofs.ValidContinuations.{referenced_valid}
use Rattle.validate_stacks.specs.Steps.{type_and_kind}
use Rattle.validate_shapes.proofs.BranchSteps.{label_there, no_label, no_types, label_valid}
use Rattle.validate_shapes.proofs.CarriedTypes.{carried_at, fits_and_last, front_and_last}
use Rattle.validate_rows_gc.specs.Handlers.{is_fitting_handler}
use Rattle.validate_rows_gc.proofs.HandlerLists.{none_left, taken_below, last_not_fitting, label_empty, not_continued, not_carried, both_hold}
use Rattle.validate_rows_gc.proofs.handlers.check_label_handler.Given.{Over}
use Rattle.validate_rows_gc.proofs.handlers.check_label_handler.Goals.{In_ok-tag_type, After-label_types-expected, In-Some, After-is_func_subtype, In-Some-referenced_continuation, After-is_func_subtype-2}
use Rattle.validate_rows_gc.proofs.handlers.check_label_handler.Goals as goal

module _ (g : Over) (c : In_ok-tag_type g) where
  abbrev md : ModuleContext
  md = g.R.WasmModuleResources.context c.args.context.now.resources.now

  abbrev cx : Context
  cx = body_context md c.args.context.now.stacks.now.body

  abbrev hs : List Head
  hs = heads c.args.context.now.stacks.now.body.present.frames

  refused_at_no_types : label_types_at cx hs c.args.label_index ≡ [] → is_fitting_handler cx hs c.args.resumed.now (OnLabel c.args.tag_index c.args.label_index) ≡ false
  refused_at_no_types = label_empty cx hs c.args.resumed.now c.in_ok-tag_type.tag_type.now c.args.tag_index c.args.label_index c.in_ok-tag_type.ensures.found

  refused_at_no_label : option_map type_and_kind (slice_get hs c.args.label_index) ≡ None → is_fitting_handler cx hs c.args.resumed.now (OnLabel c.args.tag_index c.args.label_index) ≡ false
  refused_at_no_label h = refused_at_no_types (no_types cx hs c.args.label_index (no_label hs c.args.label_index h))

module _ (g : Over) (c : After-label_types-expected g) where
  abbrev tagged : In_ok-tag_type g
  tagged = (goal.at.After-label_types-expected g c).In_ok-tag_type

  expected_is_of_label : c.label_types-expected.result.now ≡ label_types_at (cx g tagged) (hs g tagged) c.args.label_index
  expected_is_of_label = c.label_types-expected.ensures (cx g tagged) refl ∙ sym (label_there (cx g tagged) (hs g tagged) c.args.label_index _ _ c.in_ok-block_type.ensures.found).1

-- the label's types end in a last one
module _ (g : Over) (c : In-Some g) where
  abbrev found : In_ok-tag_type g
  found = (goal.at.In-Some g c).In_ok-tag_type

  ends_in_last : label_types_at (cx g found) (hs g found) c.args.label_index ≡ c.in-Some.others.now ++ c.in-Some.last.now ∷ []
  ends_in_last = sym (expected_is_of_label g (goal.at.In-Some g c).After-label_types-expected) ∙ c.in-Some.ensures.cases.0

  others_and_last_valid : AllByRecursion (Valid (md g found)) c.in-Some.others.now × Valid (md g found) c.in-Some.last.now
  others_and_last_valid =
      let laws = g.met.R.WasmModuleResources.lawful c.args.context.now.resources.now in
      front_and_last (Valid (md g found)) _ _ (subst (AllByRecursion (Valid (md g found))) c.in-Some.ensures.cases.0 (label_valid (md g found) c.args.context.now.stacks.now.body _ _ laws c.requires.state (expected_is_of_label g (goal.at.In-Some g c).After-label_types-expected)))

  refused_where_not_continued : continues (md g found) c.args.resumed.now c.in_ok-tag_type.tag_type.now (referenced_continuation (md g found) c.in-Some.last.now) ≡ false → is_fitting_handler (cx g found) (hs g found) c.args.resumed.now (OnLabel c.args.tag_index c.args.label_index) ≡ false
  refused_where_not_continued = not_continued (cx g found) (hs g found) c.args.resumed.now c.in_ok-tag_type.tag_type.now _ _ c.in_ok-tag_type.ensures.found _ _ ends_in_last

  refused_at_no_continuation : referenced_continuation (md g found) c.in-Some.last.now ≡ None → is_fitting_handler (cx g found) (hs g found) c.args.resumed.now (OnLabel c.args.tag_index c.args.label_index) ≡ false
  refused_at_no_continuation n = refused_where_not_continued (ap (continues (md g found) c.args.resumed.now c.in_ok-tag_type.tag_type.now) n)

-- what the tag carries, and the last type of the label
module _ (g : Over) (c : After-is_func_subtype g) where
  abbrev ended : In-Some g
  ended = (goal.at.After-is_func_subtype g c).In-Some

  carried_to_label : clause_fits (cx g (found g ended)) (hs g (found g ended)) (clause_to c.args.label_index (c.in_ok-tag_type.tag_type.now.params ++ c.in-Some.last.now ∷ [])) ≡ all_fit (cx g (found g ended)) (map Known (c.in_ok-tag_type.tag_type.now.params ++ c.in-Some.last.now ∷ [])) (c.in-Some.others.now ++ c.in-Some.last.now ∷ [])
  carried_to_label =
      let cx = cx g (found g ended) in
      let types = c.in_ok-tag_type.tag_type.now.params ++ c.in-Some.last.now ∷ [] in
      carried_at cx types _ _ c.args.label_index _ _ c.in_ok-block_type.ensures.found (c.label_types-expected.ensures cx refl) ∙ ap (all_fit cx (map Known types)) c.in-Some.ensures.cases.0

  params_fit_others : all_fit (cx g (found g ended)) (map Known c.in_ok-tag_type.tag_type.now.params) c.in-Some.others.now ≡ c.is_func_subtype.result
  params_fit_others =
      let cx = cx g (found g ended) in
      ap (λ ps. all_fit cx (map Known ps) c.in-Some.others.now) (sym c.params.ensures) ∙ (sym (taken_below cx c.in-Some.others.now c.params.result.now) ∙ sym c.is_func_subtype.ensures)

module _ (g : Over) (c : In-Some-referenced_continuation g) where
  abbrev last_found : In_ok-tag_type g
  last_found = (goal.at.In-Some-referenced_continuation g c).In_ok-tag_type

  last_continues : referenced_continuation (md g last_found) c.in-Some.last.now ≡ Some c.in-Some-referenced_continuation.continued.now
  last_continues = sym c.referenced_continuation.ensures ∙ ap option_copied c.in-Some-referenced_continuation.is

  continued_valid : AllByRecursion (Valid (md g last_found)) c.in-Some-referenced_continuation.continued.now.params × AllByRecursion (Valid (md g last_found)) c.in-Some-referenced_continuation.continued.now.results
  continued_valid = referenced_valid (cx g last_found) (g.met.R.WasmModuleResources.lawful c.args.context.now.resources.now) c.in-Some.last.now _ last_continues

continues_as_told : (g : Over) (c : After-is_func_subtype-2 g) → continues (g.R.WasmModuleResources.context c.args.context.now.resources.now) c.args.resumed.now c.in_ok-tag_type.tag_type.now (referenced_continuation (g.R.WasmModuleResources.context c.args.context.now.resources.now) c.in-Some.last.now) ≡ c.is_func_subtype-2.result
continues_as_told g c =
    ap (continues (g.R.WasmModuleResources.context c.args.context.now.resources.now) c.args.resumed.now c.in_ok-tag_type.tag_type.now) (last_continues g (goal.at.After-is_func_subtype-2 g c).In-Some-referenced_continuation)
    ∙ (rw (sym c.results.ensures, sym c.results-2.ensures, sym c.params-params.ensures, sym c.results-results.ensures) (sym c.is_func_subtype-2.ensures))

pub returns-in_err-block_type-clause-refused : goal.returns-in_err-block_type-clause-refused
returns-in_err-block_type-clause-refused g c =
    search (rules, refused_at_no_label g (goal.at.returns-in_err-block_type-clause-refused g c).In_ok-tag_type)

pub returns-in_default-clause-refused : goal.returns-in_default-clause-refused
returns-in_default-clause-refused g c =
    let at = goal.at.returns-in_default-clause-refused g c in
    refused_at_no_types g at.In_ok-tag_type (sym (expected_is_of_label g at.After-label_types-expected) ∙ none_left _ c.in_default.ensures.cases)

pub returns-then-not-is_concrete_reference-clause-refused : goal.returns-then-not-is_concrete_reference-clause-refused
returns-then-not-is_concrete_reference-clause-refused g c =
    refused_at_no_continuation g (goal.at.returns-then-not-is_concrete_reference-clause-refused g c).In-Some (c.is_concrete_reference.ensures (g.R.WasmModuleResources.context c.args.context.now.resources.now) c.if-not-is_concrete_reference.true)

pub is_func_subtype-requires-clause-p1 : goal.is_func_subtype-requires-clause-p1
is_func_subtype-requires-clause-p1 g c = (others_and_last_valid g (goal.at.is_func_subtype-requires-clause-p1 g c).In-Some).0

pub returns-then-not-is_func_subtype-clause-refused : goal.returns-then-not-is_func_subtype-clause-refused
returns-then-not-is_func_subtype-clause-refused g c =
    let at = goal.at.returns-then-not-is_func_subtype-clause-refused g c in
    let told = params_fit_others g at.After-is_func_subtype ∙ c.if-not-is_func_subtype.true in
    not_carried (cx g at.In_ok-tag_type) (hs g at.In_ok-tag_type) c.args.resumed.now _ _ c.args.label_index c.in_ok-tag_type.ensures.found _ _ (ends_in_last g at.In-Some) (carried_to_label g at.After-is_func_subtype ∙ last_not_fitting (cx g at.In_ok-tag_type) _ _ _ _ told)

pub referenced_continuation-requires : goal.referenced_continuation-requires
referenced_continuation-requires g c = (others_and_last_valid g (goal.at.referenced_continuation-requires g c).In-Some).1

pub returns-in_default-referenced_continuation-clause-refused : goal.returns-in_default-referenced_continuation-clause-refused
returns-in_default-referenced_continuation-clause-refused g c =
    refused_at_no_continuation g (goal.at.returns-in_default-referenced_continuation-clause-refused g c).In-Some
    (sym c.referenced_continuation.ensures ∙ ap option_copied c.in_default-referenced_continuation.is)

pub is_func_subtype-requires-2-clause-p2 : goal.is_func_subtype-requires-2-clause-p2
is_func_subtype-requires-2-clause-p2 g c =
    subst (AllByRecursion (Valid (g.R.WasmModuleResources.context c.args.context.now.resources.now))) (sym c.params-params.ensures) (continued_valid g (goal.at.is_func_subtype-requires-2-clause-p2 g c).In-Some-referenced_continuation).0

pub is_func_subtype-requires-2-clause-r2 : goal.is_func_subtype-requires-2-clause-r2
is_func_subtype-requires-2-clause-r2 g c =
    subst (AllByRecursion (Valid (g.R.WasmModuleResources.context c.args.context.now.resources.now))) (sym c.results-results.ensures) (continued_valid g (goal.at.is_func_subtype-requires-2-clause-r2 g c).In-Some-referenced_continuation).1

pub returns-then-not-is_func_subtype-2-clause-refused : goal.returns-then-not-is_func_subtype-2-clause-refused
returns-then-not-is_func_subtype-2-clause-refused g c =
    let at = goal.at.returns-then-not-is_func_subtype-2-clause-refused g c in
    refused_where_not_continued g at.In-Some (continues_as_told g at.After-is_func_subtype-2 ∙ c.if-not-is_func_subtype-2.true)

pub returns-clause-fits : goal.returns-clause-fits
returns-clause-fits g c =
    let at = goal.at.returns-clause-fits g c in
    let laws = g.met.R.WasmModuleResources.lawful c.args.context.now.resources.now in
    let last_below_itself = laws.reflexive c.in-Some.last.now (others_and_last_valid g at.In-Some).1 in
    let told = params_fit_others g at.After-is_func_subtype ∙ c.if-not-is_func_subtype.false in
    both_hold (cx g at.In_ok-tag_type) (hs g at.In_ok-tag_type) c.args.resumed.now _ _ c.args.label_index c.in_ok-tag_type.ensures.found _ _ (ends_in_last g at.In-Some) (continues_as_told g at.After-is_func_subtype-2 ∙ c.if-not-is_func_subtype-2.false)
    (carried_to_label g at.After-is_func_subtype ∙ fits_and_last (cx g at.In_ok-tag_type) _ _ _ _ told last_below_itself)
