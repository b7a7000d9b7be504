use Rattle.std.proofs.Common.{◌≤◌, ◌-◌, ◌++◌, ◌∷◌, [], length, sym, ap, ◌∙◌, arith}
use Rattle.validate_stacks.specs.Steps.{all_operands}
use Rattle.validate_operators.specs.Validator.{state}
use Rattle.wasmparser_validate.proofs.OperandTypes.{length-all, types_more, types_none}
use Rattle.wasmparser_validate.proofs.func.operands.operand_types.Goals as goal

pub loop-depth-init : goal.loop-depth-init
loop-depth-init c =
    let s = (state c.args.v.now).present in
    let whole : length (all_operands s.frames s.left) ≤ c.operand_stack_height-height.result = omega (arith, length-all s.frames s.left, c.operand_stack_height-height.ensures) in
    record {
      room = c.in_ok-types.ensures.capacity;
      count = omega (arith, c.in_ok-types.ensures.len);
      so_far = c.in_ok-types.ensures.items ∙ sym (types_none (all_operands s.frames s.left) c.operand_stack_height-height.result whole);
    }

pub loop-depth-preserved : goal.loop-depth-preserved
loop-depth-preserved c =
    let s = (state c.args.v.now).present in
    record {
      room = omega (arith, c.push_reserved.ensures.capacity, c.loop-depth.invariant.room);
      count = omega (arith, c.push_reserved.ensures.len, c.loop-depth.invariant.count, c.loop-depth-test.true);
      so_far = c.push_reserved.ensures.items ∙ (ap (λ l. l ++ c.operand_at.result ∷ []) c.loop-depth.invariant.so_far
          ∙ sym (types_more (all_operands s.frames s.left) (c.loop-depth.depth - 1) c.loop-depth.depth c.operand_at.result (omega arith) c.operand_at.ensures));
    }
