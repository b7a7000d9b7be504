use Rattle.std.proofs.Common.{rules, ◌≡◌, false, None}
use Rattle.validate_types.specs.Refs.{nullable_reference}
use Rattle.validation_rules.specs.Continuations.{continuation_signature}
use Rattle.validation_rules.specs.Indirect.{type_reference}
use Rattle.validation_rules.specs.Static.{heads}
use Rattle.validate_stacks.specs.State.{body_context}
use Rattle.validate_rows_gc.specs.Handlers.{are_fitting_handlers, IsNeverResumed}
use Rattle.validate_rows_gc.proofs.ResumedRows.{not_a_continuation, not_a_reference, not_handled}
use Rattle.validate_rows_gc.proofs.continuations.check_resume_table.Goals as goal

pub returns-in_err-func_type-clause-refused : goal.returns-in_err-func_type-clause-refused
returns-in_err-func_type-clause-refused g c =
    let v = c.args.context.now.stacks.now.body in
    let cx = body_context (g.R.WasmModuleResources.context c.args.context.now.resources.now) v in
    let none : continuation_signature cx c.args.cont_type_index ≡ None → IsNeverResumed cx (heads v.present.frames) c.args.cont_type_index c.args.handlers.now =
    not_a_continuation cx (heads v.present.frames) c.args.cont_type_index c.args.handlers.now in
    search (rules, none)

pub returns-in_err-check_handlers-clause-refused : goal.returns-in_err-check_handlers-clause-refused
returns-in_err-check_handlers-clause-refused g c =
    let v = c.args.context.now.stacks.now.body in
    let cx = body_context (g.R.WasmModuleResources.context c.args.context.now.resources.now) v in
    let hs = heads v.present.frames in
    let f = c.in_ok-func_type.func_type.now in
    let none : are_fitting_handlers cx hs f c.args.handlers.now ≡ false → IsNeverResumed cx hs c.args.cont_type_index c.args.handlers.now =
    not_handled cx hs c.args.cont_type_index c.args.handlers.now f c.in_ok-func_type.ensures.found in
    search (rules, none)

pub returns-in_err-reference-clause-refused : goal.returns-in_err-reference-clause-refused
returns-in_err-reference-clause-refused g c =
    let v = c.args.context.now.stacks.now.body in
    let cx = body_context (g.R.WasmModuleResources.context c.args.context.now.resources.now) v in
    let none : type_reference cx nullable_reference c.args.cont_type_index ≡ None → IsNeverResumed cx (heads v.present.frames) c.args.cont_type_index c.args.handlers.now =
    not_a_reference cx (heads v.present.frames) c.args.cont_type_index c.args.handlers.now in
    search (rules, none)
