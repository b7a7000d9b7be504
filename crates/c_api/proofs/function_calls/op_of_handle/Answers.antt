-- The function is the one that was taken out of the handle, and put back.
use Rattle.std.proofs.Common.{◌∙◌, refl}
use Rattle.c_api.proofs.Both.{none_kept, carried}
use Rattle.c_api.proofs.function_calls.op_of_handle.Goals as goal

pub returns-in_default-clause-answer : goal.returns-in_default-clause-answer
returns-in_default-clause-answer c =
    none_kept c.args.on_refusal c.args.bytes.now c.args.offset 0 c.status_of.result c.args.handle.now.held c.take.new.self.held
    c.in_default.ensures.taken c.take.ensures.left (c.status_of.ensures ∙ c.report_no_function.ensures.status) refl

pub returns-clause-answer : goal.returns-clause-answer
returns-clause-answer c =
    carried c.args.on_refusal c.args.bytes.now c.args.offset c.op_of_kept.new.taken c.op_of_kept.new.out.status c.status_of-2.result c.args.handle.now.held c.fill.new.self.held
    c.deref_mut.result.now c.in-Some.kept.value c.op_of_kept.new.kept c.in-Some.ensures.taken c.fill.ensures c.deref_mut.ensures.value c.status_of-2.ensures
    c.op_of_kept.ensures.answer c.op_of_kept.ensures.none
