use Rattle.std.proofs.Common.{rules, ◌≡◌, true, false, [], ◌∷◌, sym, ap, ◌∙◌, subst}
use Rattle.validate_resources.specs.Context.{ModuleContext, is_valid_heap}
use Rattle.validate_types.specs.Refs.{reference}
use Rattle.validate_types.specs.declared.heap.CoreTypeId.{CoreTypeId}
use Rattle.validate_types.specs.declared.heap.HeapType.{HeapType}
use Rattle.validate_types.specs.declared.heap.UnpackedIndex.TheVariants.{Id}
use Rattle.validate_types.specs.declared.refs.RefType.{RefType}
use Rattle.validation_rules.specs.Context.{Ref}
use Rattle.validation_rules.specs.Exact.{function_heap}
use Rattle.validation_rules.specs.References.{ref_func_row}
use Rattle.validation_rules.specs.Operators.{plain_row, plain_row_if, lookup_row}
use Rattle.validation_rules.proofs.Valid.{declared_valid}
use Rattle.validate_stacks.specs.State.{body_context}
use Rattle.validate_shapes.proofs.Moves.{moves_barred, moves_found}
use Rattle.validate_shapes.proofs.HeapReferences.{not_made, made_is}
use Rattle.validate_rows.proofs.references.ref_func.Given.{Over}
use Rattle.validate_rows.proofs.references.ref_func.Goals.{After-function_heap-heap_type}
use Rattle.validate_rows.proofs.references.ref_func.Goals as goal

module _ (g : Over) (c : After-function_heap-heap_type g) where
  abbrev md : ModuleContext
  md = g.R.WasmModuleResources.context c.args.context.resources.now

  heap_valid : is_valid_heap md c.function_heap-heap_type.result ≡ true
  heap_valid =
      let laws = g.met.R.WasmModuleResources.lawful c.args.context.resources.now in
      let known = laws.functions c.args.function_index c.in-Some.id (sym c.type_id_of_function.ensures ∙ c.in-Some.is) in
      subst (λ (h : HeapType). is_valid_heap md h ≡ true) (sym c.function_heap-heap_type.ensures) (declared_valid (body_context md c.args.context.stacks.now.body) laws _ (Id c.in-Some.id) known)

pub returns-in_default : goal.returns-in_default
returns-in_default g c =
    moves_barred _ _ c.args.context.stacks.now (λ cx hs. ref_func_row cx c.args.function_index) _ (search rules) (search rules)

pub returns-then-not-is_function_referenced : goal.returns-then-not-is_function_referenced
returns-then-not-is_function_referenced g c =
    moves_barred _ _ c.args.context.stacks.now (λ cx hs. ref_func_row cx c.args.function_index) _ (search rules) (search rules)

pub unreachable-requires : goal.unreachable-requires
unreachable-requires g c =
    let at = (goal.at.unreachable-requires g c).After-function_heap-heap_type in
    not_made (md g at) c.function_heap-heap_type.result false (heap_valid g at) (sym c.new.ensures ∙ c.in_default-new.is)

pub returns : goal.returns
returns g c =
    let at = (goal.at.returns g c).After-function_heap-heap_type in
    let cx = body_context (md g at) c.args.context.stacks.now.body in
    let f = c.args.function_index in
    let ps = Ref (reference false (function_heap cx f (Id c.in-Some.id))) ∷ [] in
    let found = ap (λ o. lookup_row o (λ (id : CoreTypeId). plain_row_if (cx.of_module.is_referenced f) [] (Ref (reference false (function_heap cx f (Id id))) ∷ []))) (sym c.type_id_of_function.ensures ∙ c.in-Some.is) in
    let referenced = ap (λ b. plain_row_if b [] ps) (sym c.is_function_referenced.ensures ∙ c.if-not-is_function_referenced.false) in
    let heap = ap (λ (h : HeapType). plain_row [] (Ref (reference false h) ∷ [])) (sym c.function_heap-heap_type.ensures) in
    let made = ap (λ (r : RefType). plain_row [] (Ref r ∷ [])) (made_is (md g at) c.function_heap-heap_type.result false c.in-Some-new.ty (heap_valid g at) (sym c.new.ensures ∙ c.in-Some-new.is)) in
    moves_found (md g at) _ c.args.context.stacks.now (λ cx hs. ref_func_row cx f) _ (λ cx hs. plain_row [] (Ref c.in-Some-new.ty ∷ [])) _ (found ∙ (referenced ∙ (heap ∙ made))) c.constant.ensures
