use Rattle.std.proofs.Common.{rules, ◌≡◌, false, Some, List, [], ◌∷◌, refl, sym, ap, ◌∙◌}
use Rattle.validate_types.specs.declared.types.ValType.{ValType}
use Rattle.validation_rules.specs.Context.{Signature, Ref}
use Rattle.validation_rules.specs.Continuations.{resume_throw_ref_row}
use Rattle.validate_types.specs.Refs.{nullable_reference}
use Rattle.validation_rules.specs.Exceptions.{exception}
use Rattle.validation_rules.specs.Operators.{plain_row}
use Rattle.validation_rules.specs.Static.{heads}
use Rattle.validate_stacks.specs.State.{body_context}
use Rattle.validate_rows_gc.specs.Handlers.{IsNeverResumed}
use Rattle.validate_rows_gc.proofs.ResumedRows.{resuming_is}
use Rattle.validate_rows_gc.proofs.continuations.resume_throw_ref_types.Goals as goal

pub returns-in_err-resumed : goal.returns-in_err-resumed
returns-in_err-resumed g c =
    let v = c.args.context.now.stacks.now.body in
    let cx = body_context (g.R.WasmModuleResources.context c.args.context.now.resources.now) v in
    let hs = heads v.present.frames in
    let never : IsNeverResumed cx hs c.args.cont_type_index c.args.handlers.now → (resume_throw_ref_row cx hs c.args.cont_type_index c.args.handlers.now).premise ≡ false =
    λ n. n.barred (λ (f : Signature). Some (Ref (nullable_reference exception) ∷ [])) in
    record { found = search rules; valid = search rules; refused = search (rules, never) }

pub returns : goal.returns
returns g c =
    let v = c.args.context.now.stacks.now.body in
    let cx = body_context (g.R.WasmModuleResources.context c.args.context.now.resources.now) v in
    let hs = heads v.present.frames in
    let f = c.in_ok-resumed.resumed.func_type.now in
    let t = c.in_ok-resumed.resumed.reference in
    let found = c.in_ok-resumed.ensures in
    record {
      found =
          resuming_is cx hs c.args.cont_type_index c.args.handlers.now f found.found t found.reference (λ (f : Signature). Some (Ref (nullable_reference exception) ∷ [])) (Ref (nullable_reference exception) ∷ []) refl found.handlers
          ∙ ap (λ (rs : List ValType). plain_row (Ref (nullable_reference exception) ∷ t ∷ []) rs) (sym c.results.ensures);
      valid = search rules;
      refused = tt;
    }
