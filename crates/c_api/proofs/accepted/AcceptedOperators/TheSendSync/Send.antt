-- A list of operators that exists in proofs alone may go to another thread.
use denote.Param.Send.{IsSend}
use Rattle.c_api.specs.contracts.accepted.AcceptedOperators.{the_row}

pub send : IsSend the_row
send = record { owned = λ n vs. ((λ vss. (tt, tt)), tt); leaving = λ k d w. tt }
