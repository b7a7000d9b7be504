use Rattle.std.proofs.Common.{◌<◌, length, sym, ◌∙◌, arith}
use Rattle.validate_stacks.specs.Steps.{all_operands}
use Rattle.validate_operators.specs.Validator.{state}
use Rattle.wasmparser_validate.proofs.OperandTypes.{length-all, type_there}
use Rattle.wasmparser_validate.proofs.func.operands.operand_at.Goals as goal

pub unreachable-requires : goal.unreachable-requires
unreachable-requires c =
    let s = (state c.args.v.now).present in
    let below : c.args.depth < length (all_operands s.frames s.left) = omega (arith, length-all s.frames s.left, c.requires) in
    type_there (all_operands s.frames s.left) c.args.depth below (sym c.peek_operand_at.ensures ∙ c.in-None.is)
