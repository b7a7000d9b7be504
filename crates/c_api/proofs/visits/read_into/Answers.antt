-- Behind an operator fewer bytes are left.
use Rattle.std.proofs.Common.{◌≡◌, subst, Some, None, arith}
use Rattle.std.proofs.lemmas.Result.{err_from_is_err_and}
use Rattle.binary_operators.proofs.Shorter.{operator_shorter}
use Rattle.binary_operators.specs.Instructions.{operator}
use Rattle.binary_operators.specs.Unplaced.{unplaced}
use Rattle.binary_operators.specs.Unread.{Unread}
use Rattle.binary_operators.specs.Vectors.{BeginVector}
use Rattle.c_api.proofs.Readings.{length_taken, none_read}
use Rattle.c_api.proofs.visits.read_into.Goals as goal

pub returns-in_err-read_operator_into-clause-refused : goal.returns-in_err-read_operator_into-clause-refused
returns-in_err-read_operator_into-clause-refused c =
    let p = err_from_is_err_and c.from_residual.result c.from_residual.ensures.1 in
    rw (p.1, p.2) (λ refusal. none_read c.args.module.now c.types-types.result c.args.bytes.now c.types-types.ensures
    (subst (λ (r : Unread). operator c.types-types.result r.left ≡ None) c.new-reader.ensures (c.in_err-read_operator_into.ensures.refused refusal)))

pub returns-in_err-read_operator_into-clause-vector : goal.returns-in_err-read_operator_into-clause-vector
returns-in_err-read_operator_into-clause-vector c =
    let p = err_from_is_err_and c.from_residual.result c.from_residual.ensures.1 in
    rw (p.1, p.2) (λ vector. subst (λ (r : Unread). BeginVector r.left) c.new-reader.ensures (c.in_err-read_operator_into.ensures.vector vector))

pub overflow_sub-result : goal.overflow_sub-result
overflow_sub-result c =
    let read = subst (λ (r : Unread). operator c.types-types.result r.left ≡ Some (unplaced c.read_operator_into.new.to, c.read_operator_into.new.reader.left)) c.new-reader.ensures c.in_ok-read_operator_into.ensures.read in
    omega (arith, operator_shorter c.types-types.result c.args.bytes.now c.read_operator_into.new.reader.left (unplaced c.read_operator_into.new.to) read, c.bytes_left.ensures)

pub returns-clause-read : goal.returns-clause-read
returns-clause-read c =
    let read = subst (λ (r : Unread). operator c.types-types.result r.left ≡ Some (unplaced c.read_operator_into.new.to, c.read_operator_into.new.reader.left)) c.new-reader.ensures c.in_ok-read_operator_into.ensures.read in
    record {
      types = c.types-types.result;
      are_types = c.types-types.ensures;
      behind = c.read_operator_into.new.reader.left;
      is_read = read;
      has_length = rw c.bytes_left.ensures (length_taken c.types-types.result c.args.bytes.now c.read_operator_into.new.reader.left (unplaced c.read_operator_into.new.to) read);
    }
