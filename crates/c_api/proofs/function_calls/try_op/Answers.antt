-- What is answered of the handle, clause by clause.
use Rattle.std.proofs.Common.{refl}
use Rattle.c_api.proofs.Both.{accepted, refused, uncovered, back, none, known, none_taken}
use Rattle.c_api.proofs.function_calls.try_op.Goals as goal

pub returns-clause-accepted : goal.returns-clause-accepted
returns-clause-accepted c = accepted c.op_of_handle.ensures.answer

pub returns-clause-refused : goal.returns-clause-refused
returns-clause-refused c = refused c.op_of_handle.ensures.answer

pub returns-clause-back : goal.returns-clause-back
returns-clause-back c = back c.op_of_handle.ensures.answer refl

pub returns-clause-uncovered : goal.returns-clause-uncovered
returns-clause-uncovered c = uncovered c.op_of_handle.ensures.answer

pub returns-clause-none : goal.returns-clause-none
returns-clause-none c = none c.op_of_handle.ensures.answer

pub returns-clause-known : goal.returns-clause-known
returns-clause-known c = known c.op_of_handle.ensures.answer

pub returns-clause-taken : goal.returns-clause-taken
returns-clause-taken c = none_taken c.op_of_handle.ensures.answer
