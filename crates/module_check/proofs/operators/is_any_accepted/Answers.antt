-- Nothing is left, or what is left begins with no operator, or its row doesn't hold.
use Rattle.std.proofs.Common.{◌≡◌, ◌∙◌, [], None, inl, inr, rules}
use Rattle.binary_operators.specs.Unplaced.{unplaced}
use Rattle.validate_stacks.specs.State.{body_context}
use Rattle.validate_stacks.specs.Visits.{step_body}
use Rattle.validation_rules.specs.Static.{RowFails}
use Rattle.validation_rules.specs.Operators.{operator}
use Rattle.validate_operators.specs.Validator.{state}
use Rattle.module_check.specs.Constant.{may_stand}
use Rattle.module_check.specs.Faults.{IsFault}
use Rattle.module_check.specs.Refusals.{IsRefusedFor}
use Rattle.module_check.proofs.Behind.{told_invalid, told_refused, unreadable, row_fails, refused_for, for_some}
use Rattle.module_check.proofs.operators.is_any_accepted.Goals as goal

pub returns-then-is_at_end-clause-fault : goal.returns-then-is_at_end-clause-fault
returns-then-is_at_end-clause-fault g c = λ is.
    let ended : c.args.reader.now.left ≡ [] = search rules in
    told_invalid (body_context (g.R.WasmModuleResources.context c.args.body.now.context.now.resources.now) (state c.args.v.now)) c.args.body.now.context.now.types (may_stand None) c.args.body.now.end (state c.args.v.now).present c.args.reader.now.left
    c.unclosed.result c.unclosed.ensures.invalid (c.unclosed.ensures.offset ∙ c.offset_of-offset.ensures) (inl (c.requires.open_frame, ended))

pub returns-in-Err-clause-fault : goal.returns-in-Err-clause-fault
returns-in-Err-clause-fault g c = λ is. (
  c.requires.open_frame,
  (λ ended. search rules),
  unreadable c.args.body.now.context.now.types c.in-Err.error.cause c.args.reader.now.left c.in-Err.ensures.refused c.in-Err.ensures.vector,
)

pub returns-clause-fault : goal.returns-clause-fault
returns-clause-fault g c = λ is.
    let md = g.R.WasmModuleResources.context c.args.body.now.context.now.resources.now in
    let types = c.args.body.now.context.now.types in
    let op = c.read_operator_into.new.to in
    let offset = c.offset_of-offset.result in
    for_some c.is_accepted.new.refusal (IsRefusedFor (RowFails (step_body md (λ cx. operator cx op) (state c.args.v.now))) offset)
    (IsFault (body_context md (state c.args.v.now)) types (may_stand None) c.args.body.now.end (state c.args.v.now).present c.args.reader.now.left)
    (λ e fails. told_refused md types (may_stand None) c.args.body.now.end offset (state c.args.v.now) c.args.reader.now.left c.read_operator_into.new.reader.left (unplaced op) e c.requires.open_frame
    c.in_default.ensures.read c.offset_of-offset.ensures (refused_for _ _ offset e (λ row. inr (row_fails md (state c.args.v.now) op row)) fails))
    (c.is_accepted.ensures.refused is)
