use Rattle.std.proofs.Common.{rules, ◌≡◌, ◌&&◌, true, List, [], ◌∷◌, ◌++◌, None, reverse, refl, sym, ap, ◌∙◌, subst, arith}
use Rattle.std.proofs.lemmas.List.{length-append, length-map}
use Rattle.std.specs.List.{AllByRecursion}
use Rattle.std.specs.Option.{option_map}
use Rattle.validate_resources.specs.Context.{ModuleContext, Valid}
use Rattle.validate_types.specs.Types.{unpacked_fields}
use Rattle.validate_types.specs.declared.types.FieldType.{FieldType}
use Rattle.validation_rules.specs.Context.{Context, ValType}
use Rattle.validation_rules.specs.Exact.{allocated_reference}
use Rattle.validation_rules.specs.Operators.{plain_row, lookups_row, lookup_row, row_operator}
use Rattle.validation_rules.specs.Rows.{Row}
use Rattle.validation_rules.specs.Structs.{field_value, struct_type, struct_new_desc_row}
use Rattle.validate_stacks.specs.AtOnce.{body_dropped}
use Rattle.validate_stacks.specs.Pops.{body_popped_each, body_pushed_each, has_operands_fitting}
use Rattle.validate_stacks.specs.State.{body_context}
use Rattle.validate_stacks.specs.Visits.{step_body}
use Rattle.validate_stacks.proofs.MatchedOperands.{under_next}
use Rattle.validate_stacks.proofs.Moves.{not_popped, popped}
use Rattle.validate_shapes.proofs.LookupRows.{found_as}
use Rattle.validate_shapes.proofs.Moves.{unmoved, moves_barred, exchange_moves, plain_is}
use Rattle.validate_rows_gc.proofs.DescriptorSteps.{made_missing, described_as}
use Rattle.validate_rows_gc.proofs.structs.new_desc.Given.{Over}
use Rattle.validate_rows_gc.proofs.structs.new_desc.Goals.{In_ok-expect_new_descriptor, After-as_slice-fields}
use Rattle.validate_rows_gc.proofs.structs.new_desc.Goals as goal

module _ (g : Over) (c : In_ok-expect_new_descriptor g) where
  abbrev md : ModuleContext
  md = g.R.WasmModuleResources.context c.args.context.resources.now

  abbrev cx : Context
  cx = body_context md c.args.context.stacks.now.body

  abbrev descriptor : ValType
  descriptor = c.in_ok-expect_new_descriptor.field-0

  abbrev made_of : List FieldType → ValType → Row
  made_of fields t = plain_row (unpacked_fields fields ++ descriptor ∷ []) (t ∷ [])

  row_is : struct_new_desc_row cx c.args.index ≡ lookups_row (struct_type cx c.args.index) (allocated_reference cx c.args.index) made_of
  row_is = described_as md c.args.context.stacks.now.body c.args.index descriptor c.in_ok-expect_new_descriptor.ensures.described (λ d fields t. plain_row (unpacked_fields fields ++ d ∷ []) (t ∷ []))

-- the type is known: a value for each field is taken, and the descriptor above them
module _ (g : Over) (c : After-as_slice-fields g) where
  abbrev described : In_ok-expect_new_descriptor g
  described = (goal.at.After-as_slice-fields g c).In_ok-expect_new_descriptor

  abbrev values : List ValType
  values = unpacked_fields c.as_slice-fields.result.now

  abbrev expected : List ValType
  expected = values ++ descriptor g described ∷ []

  values_valid : AllByRecursion (Valid (md g described)) values
  values_valid = subst (λ (fields : List FieldType). AllByRecursion (Valid (md g described)) (unpacked_fields fields)) (search rules) c.in_ok-struct_type.ensures.valid

  makes : step_body (md g described) (λ x. row_operator (struct_new_desc_row x c.args.index)) c.args.context.stacks.now.body ≡ option_map (λ u. body_pushed_each (c.in_ok-made.made ∷ []) u) (body_popped_each (md g described) (reverse expected) c.args.context.stacks.now.body)
  makes =
      let v = c.args.context.stacks.now.body in
      let fields : c.in_ok-struct_type.struct_type.now ≡ c.as_slice-fields.result.now = search rules in
      let found = row_is g described
      ∙ (ap (λ o. lookups_row o (allocated_reference (cx g described) c.args.index) (made_of g described)) c.in_ok-struct_type.ensures.found
      ∙ (ap (λ o. lookup_row o (made_of g described c.in_ok-struct_type.struct_type.now)) c.in_ok-made.ensures.found
      ∙ ap (λ (fs : List FieldType). made_of g described fs c.in_ok-made.made) fields)) in
      sym (found_as (md g described) v (λ x hs. struct_new_desc_row x c.args.index) (λ x hs. plain_row expected (c.in_ok-made.made ∷ [])) found)
      ∙ plain_is (md g described) v expected (c.in_ok-made.made ∷ []) c.requires.open_frame

  -- the values are looked for below the descriptor
  fit_below : has_operands_fitting (cx g described) expected c.args.context.stacks.now.body ≡ true && has_operands_fitting (cx g described) values (body_dropped 1 c.args.context.stacks.now.body)
  fit_below =
      under_next (cx g described) values (descriptor g described) c.args.context.stacks.now.body
      ∙ ap (λ b. b && has_operands_fitting (cx g described) values (body_dropped 1 c.args.context.stacks.now.body)) c.in_ok-expect_new_descriptor.ensures.fits

pub returns-in_err-expect_new_descriptor : goal.returns-in_err-expect_new_descriptor
returns-in_err-expect_new_descriptor g c =
    let md = g.R.WasmModuleResources.context c.args.context.resources.now in
    let none = made_missing md c.args.context.stacks.now.body c.requires.open_frame (λ fields. true) (unpacked_fields) c.args.index c.in_err-expect_new_descriptor.ensures.refused in
    unmoved _ _ _ _ _ _ (search rules) refl (search (rules, none))

pub returns-in_err-struct_type : goal.returns-in_err-struct_type
returns-in_err-struct_type g c =
    let at = (goal.at.returns-in_err-struct_type g c).In_ok-expect_new_descriptor in
    let none = ap (λ (r : Row). r.premise) (row_is g at) ∙ ap (λ o. (lookups_row o (allocated_reference (cx g at) c.args.index) (made_of g at)).premise) c.in_err-struct_type.ensures.refused in
    moves_barred (md g at) _ c.args.context.stacks.now (λ cx hs. struct_new_desc_row cx c.args.index) _ (search rules) (search (rules, none))

pub returns-in_err-made : goal.returns-in_err-made
returns-in_err-made g c =
    let at = (goal.at.returns-in_err-made g c).In_ok-expect_new_descriptor in
    let found = ap (λ (r : Row). r.premise) (row_is g at) ∙ ap (λ o. (lookups_row o (allocated_reference (cx g at) c.args.index) (made_of g at)).premise) c.in_ok-struct_type.ensures.found in
    let none = λ (n : allocated_reference (cx g at) c.args.index ≡ None). found ∙ ap (λ o. (lookup_row o (made_of g at c.in_ok-struct_type.struct_type.now)).premise) n in
    moves_barred (md g at) _ c.args.context.stacks.now (λ cx hs. struct_new_desc_row cx c.args.index) _ (search rules) (search (rules, none, c.in_err-made.ensures.refused))

pub expect_fields-requires-clause-types : goal.expect_fields-requires-clause-types
expect_fields-requires-clause-types g c = values_valid g (goal.at.expect_fields-requires-clause-types g c).After-as_slice-fields

pub returns-in_err-expect_fields : goal.returns-in_err-expect_fields
returns-in_err-expect_fields g c =
    let at = goal.at.returns-in_err-expect_fields g c in
    let m = md g at.In_ok-expect_new_descriptor in
    let v = c.args.context.stacks.now.body in
    let all = expected g at.After-as_slice-fields in
    let unfit = fit_below g at.After-as_slice-fields ∙ ap (λ b. true && b) c.in_err-expect_fields.ensures.unfit in
    let none = makes g at.After-as_slice-fields ∙ ap (option_map (λ u. body_pushed_each (c.in_ok-made.made ∷ []) u)) (not_popped m all v c.requires.open_frame unfit) in
    unmoved _ _ _ _ _ _ (search rules) refl (search (rules, none))

pub returns : goal.returns
returns g c =
    let at = goal.at.returns g c in
    let m = md g at.In_ok-expect_new_descriptor in
    let v = c.args.context.stacks.now.body in
    let all = expected g at.After-as_slice-fields in
    let pushed = c.in_ok-made.made ∷ [] in
    let fit = fit_below g at.After-as_slice-fields ∙ ap (λ b. true && b) c.in_ok-expect_fields.ensures.fit in
    exchange_moves m _ (λ x. row_operator (struct_new_desc_row x c.args.index)) c.args.context.stacks.now _ all pushed (makes g at.After-as_slice-fields) (c.in_ok-made.ensures.valid, tt) c.requires.valid _
    (popped m _ all (body_pushed_each pushed) c.args.context.stacks.now _ c.min-popped.result c.exchange.result fit (omega (arith, c.min-popped.ensures, c.own_operand_count.ensures, length-append (values g at.After-as_slice-fields) (descriptor g at.In_ok-expect_new_descriptor ∷ []), length-map c.as_slice-fields.result.now field_value)) c.exchange.ensures.told c.exchange.ensures.exact)
