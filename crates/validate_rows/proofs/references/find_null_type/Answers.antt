use Rattle.std.proofs.Common.{rules, ◌≡◌, Bool, true, Some, None, Option, Result, Ok, Err, IfOk, [], ◌∷◌, ap, ◌∙◌}
use Rattle.std.specs.Option.{option_map}
use Rattle.validate_types.specs.Refs.{reference}
use Rattle.validate_types.specs.declared.heap.HeapType.{HeapType}
use Rattle.validation_rules.specs.Context.{ValType, Ref}
use Rattle.validation_rules.specs.Rows.{Row, guard}
use Rattle.validation_rules.specs.Operators.{plain_row, lookup_row}
use Rattle.validation_rules.proofs.Steps.{some_injective}
use Rattle.validate_rows.proofs.references.find_null_type.Goals as goal

abbrev null_row : HeapType → Row
null_row h = plain_row [] (Ref (reference true h) ∷ [])

found : {A : Type 0} (o : Option HeapType) (b : Bool) (r : Result ValType A) → b ≡ true → IfOk r (λ t. option_map (λ (h : HeapType). Ref (reference true h)) o ≡ Some t) → IfOk r (λ t. lookup_row (guard b o) null_row ≡ plain_row [] (t ∷ []))
found o b (Err x) opened is = tt
found None b (Ok t) opened is = absurd cc
found (Some h) b (Ok t) opened is =
    ap (λ b. lookup_row (guard b (Some h)) null_row) opened ∙ ap (λ t. plain_row [] (t ∷ [])) (some_injective _ _ is)

pub returns-in_err-expect_null_open-clause-refused : goal.returns-in_err-expect_null_open-clause-refused
returns-in_err-expect_null_open-clause-refused g c =
    let closed = c.in_err-expect_null_open.ensures.closed (g.R.WasmModuleResources.context c.args.context.now.resources.now) in
    search (rules, closed)

pub returns-clause-found : goal.returns-clause-found
returns-clause-found g c =
    let md = g.R.WasmModuleResources.context c.args.context.now.resources.now in
    found (md.canonical_heap c.args.heap_type) _ c.heap_reference.result (c.in_ok-expect_null_open.ensures.open md) c.heap_reference.ensures.found
