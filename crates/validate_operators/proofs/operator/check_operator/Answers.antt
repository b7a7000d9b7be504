use Rattle.std.proofs.Common.{sym, subst}
use Rattle.validate_types.specs.Told.{IsRowRefused}
use Rattle.validation_rules.specs.Context.{Context}
use Rattle.validation_rules.specs.Operators.{operator}
use Rattle.validation_rules.specs.Rows.{Operator}
use Rattle.validate_stacks.specs.Moves.{Moves}
use Rattle.validate_stacks.specs.Visits.{MayVisit}
use Rattle.validate_shapes.proofs.Moves.{moves_accepted, moves_placed}
use Rattle.validate_operators.specs.Memory.{TakesNoMemory}
use Rattle.validate_operators.proofs.LeftParts.{not_moved}
use Rattle.validate_operators.proofs.operator.check_operator.Goals as goal

pub returns-in-Ok-clause-row : goal.returns-in-Ok-clause-row
returns-in-Ok-clause-row g c =
    let md = g.R.WasmModuleResources.context c.args.resources.now in
    let op : Context → Operator = λ cx. operator cx c.args.op.now in
    moves_accepted md IsRowRefused op c.args.stacks.now c.operator_by_call-answer.new.context.0 c.args.offset tt
    (subst (λ a. Moves md IsRowRefused op c.args.stacks.now a c.operator_by_call-answer.new.context.0) c.in-Ok.is c.operator_by_call-answer.ensures.row)

pub refuse-requires : goal.refuse-requires
refuse-requires g c =
    let md = g.R.WasmModuleResources.context c.args.resources.now in
    let op : Context → Operator = λ cx. operator cx c.args.op.now in
    let same = not_moved md IsRowRefused op c.args.stacks.now c.operator_by_call-answer.new.context.0 c.in-Err.told (subst (λ a. Moves md IsRowRefused op c.args.stacks.now a c.operator_by_call-answer.new.context.0) c.in-Err.is c.operator_by_call-answer.ensures.row) in
    subst (MayVisit md) (sym same) c.requires

pub returns-in-Err-clause-row : goal.returns-in-Err-clause-row
returns-in-Err-clause-row g c =
    let md = g.R.WasmModuleResources.context c.args.resources.now in
    let op : Context → Operator = λ cx. operator cx c.args.op.now in
    moves_placed md IsRowRefused op c.args.stacks.now c.operator_by_call-answer.new.context.0 c.args.offset c.in-Err.told c.refuse.result c.refuse.new.context.0.body
    (subst (λ a. Moves md IsRowRefused op c.args.stacks.now a c.operator_by_call-answer.new.context.0) c.in-Err.is c.operator_by_call-answer.ensures.row)
    c.requires.valid c.refuse.ensures.offset c.refuse.ensures.told (λ _. c.refuse.ensures.valid) c.refuse.ensures.kept

pub returns-in-Err-clause-memory : goal.returns-in-Err-clause-memory
returns-in-Err-clause-memory g c =
    let md = g.R.WasmModuleResources.context c.args.resources.now in
    subst (TakesNoMemory md c.args.op.now c.args.stacks.now.body) c.in-Err.is c.operator_by_call-answer.ensures.memory
