use Rattle.std.proofs.Common.{rules, [], ◌∷◌, ◌++◌, ◌≡◌, true, false, List, None, Some, refl, sym, ap, ◌∙◌, subst}
use Rattle.std.specs.List.{AllByRecursion}
use Rattle.validate_types.specs.declared.refs.RefType.{RefType}
use Rattle.validate_resources.specs.Context.{ModuleContext, Valid, is_valid_heap}
use Rattle.validation_rules.specs.Branches.{has_label, label_types_at}
use Rattle.validation_rules.specs.Context.{Context, Ref}
use Rattle.validation_rules.specs.References.{last_reference, br_on_non_null_row_for, br_on_non_null_row}
use Rattle.validation_rules.specs.Rows.{Head}
use Rattle.validation_rules.specs.Static.{heads}
use Rattle.validation_rules.specs.Operators.{lookup_row, staying_operator}
use Rattle.validation_rules.proofs.Valid.{before_last_valid, last_valid}
use Rattle.validate_stacks.specs.State.{body_context}
use Rattle.validate_shapes.proofs.BranchSteps.{label_there, label_valid}
use Rattle.validate_shapes.proofs.Moves.{moves_barred, exchange_moves}
use Rattle.validate_shapes.proofs.ReferenceSteps.{on_non_null_is}
use Rattle.validate_rows.proofs.references.br_on_non_null.Given.{Over}
use Rattle.validate_rows.proofs.references.br_on_non_null.Goals.{Start, After-label_types-types, In_ok-others}
use Rattle.validate_rows.proofs.references.br_on_non_null.Goals as goal

module _ (g : Over) (c : Start g) where
  abbrev md : ModuleContext
  md = g.R.WasmModuleResources.context c.args.context.resources.now

  abbrev cx : Context
  cx = body_context md c.args.context.stacks.now.body

  abbrev hs : List Head
  hs = heads c.args.context.stacks.now.body.present.frames

  barred_without_last : last_reference (label_types_at cx hs c.args.relative_depth) ≡ None → (br_on_non_null_row cx hs c.args.relative_depth).premise ≡ false
  barred_without_last = ap (λ o. (lookup_row o (br_on_non_null_row_for cx hs c.args.relative_depth)).premise)

module _ (g : Over) (c : After-label_types-types g) where
  abbrev start : Start g
  start = (goal.at.After-label_types-types g c).Start

  has_the_label : has_label (hs g start) c.args.relative_depth ≡ true
  has_the_label = (label_there (cx g start) (hs g start) c.args.relative_depth _ _ c.in_ok-block_type.ensures.found).0

  types_of_label : c.label_types-types.result.now ≡ label_types_at (cx g start) (hs g start) c.args.relative_depth
  types_of_label = c.label_types-types.ensures (cx g start) refl ∙ sym (label_there (cx g start) (hs g start) c.args.relative_depth _ _ c.in_ok-block_type.ensures.found).1

  types_valid : AllByRecursion (Valid (md g start)) c.label_types-types.result.now
  types_valid = label_valid (md g start) c.args.context.stacks.now.body _ _ (g.met.R.WasmModuleResources.lawful c.args.context.resources.now) c.requires.valid types_of_label

module _ (g : Over) (c : In_ok-others g) where
  abbrev labelled : After-label_types-types g
  labelled = (goal.at.In_ok-others g c).After-label_types-types

  ends_in_reference : last_reference (label_types_at (cx g (start g labelled)) (hs g (start g labelled)) c.args.relative_depth) ≡ Some (c.in_ok-others.others.now, c.in_ok-others.last)
  ends_in_reference = ap last_reference (sym (types_of_label g labelled)) ∙ c.in_ok-others.ensures.found

  others_valid : AllByRecursion (Valid (md g (start g labelled))) c.in_ok-others.others.now
  others_valid = before_last_valid (cx g (start g labelled)) (g.met.R.WasmModuleResources.lawful c.args.context.resources.now) _ _ (types_valid g labelled) c.in_ok-others.ensures.found

pub returns-in_err-others : goal.returns-in_err-others
returns-in_err-others g c =
    let types = types_of_label g (goal.at.returns-in_err-others g c).After-label_types-types in
    let none = barred_without_last g (goal.at.returns-in_err-others g c).Start (ap last_reference (sym types) ∙ c.in_err-others.ensures.refused) in
    moves_barred _ _ c.args.context.stacks.now (λ cx hs. br_on_non_null_row cx hs c.args.relative_depth) _ (search rules) (search (rules, none))

pub exchange_with_top-requires-clause-under : goal.exchange_with_top-requires-clause-under
exchange_with_top-requires-clause-under g c = others_valid g (goal.at.exchange_with_top-requires-clause-under g c).In_ok-others

pub exchange_with_top-requires-clause-above : goal.exchange_with_top-requires-clause-above
exchange_with_top-requires-clause-above g c =
    let at = (goal.at.exchange_with_top-requires-clause-above g c).After-label_types-types in
    let valid = last_valid (cx g (start g at)) (g.met.R.WasmModuleResources.lawful c.args.context.resources.now) _ _ (types_valid g at) c.in_ok-others.ensures.found in
    subst (λ (r : RefType). is_valid_heap (md g (start g at)) r.heap_type ≡ true) (sym c.nullable.ensures) valid

pub returns : goal.returns
returns g c =
    let at = goal.at.returns g c in
    let md = g.R.WasmModuleResources.context c.args.context.resources.now in
    let others = c.in_ok-others.others.now in
    let step = on_non_null_is md c.args.context.stacks.now.body c.requires.open_frame c.args.relative_depth _ _ c.nullable.result (has_the_label g at.After-label_types-types) (ends_in_reference g at.In_ok-others) c.nullable.ensures in
    exchange_moves md _ (λ cx. staying_operator (λ hs. br_on_non_null_row cx hs c.args.relative_depth)) c.args.context.stacks.now _ (others ++ Ref c.nullable.result ∷ []) others step (others_valid g at.In_ok-others) c.requires.valid _ c.exchange_with_top.ensures
