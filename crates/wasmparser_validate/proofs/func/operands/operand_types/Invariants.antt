-- There is room for the rest, and the types so far are those of the operands from the lowest up.
use Rattle.std.proofs.Common.{◌≡◌, ◌+◌, ◌≤◌, map, reverse, drop, vec_len}
use Rattle.std.specs.Vec.{vec_capacity}
use Rattle.validate_stacks.specs.Steps.{all_operands, known_type}
use Rattle.validate_operators.specs.Validator.{state}
use Rattle.wasmparser_validate.proofs.func.operands.operand_types.Given as goal

abbrev pub invariant-loop-depth : goal.invariant-loop-depth
invariant-loop-depth l =
    let s = (state l.v).present in
    record {
      room : l.height ≤ vec_capacity l.types;
      count : vec_len l.types + l.depth ≡ l.height;
      so_far : l.types.items ≡ map known_type (reverse (drop l.depth (all_operands s.frames s.left)));
    }
