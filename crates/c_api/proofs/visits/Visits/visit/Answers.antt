-- What is looked up is what the module declares.
use Rattle.std.proofs.Common.{Ok, Err, refl, sym, subst}
use Rattle.std.proofs.lemmas.Result.{err_from_is_err_and}
use Rattle.validate_operators.proofs.Listed.{not_visited}
use Rattle.validate_operators.specs.Validator.{state, stacks_of}
use Rattle.validate_stacks.specs.State.{IsValidBody}
use Rattle.validate_stacks.specs.Visits.{Meets, MayVisit}
use Rattle.validation_rules.specs.Operators.{operator}
use Rattle.c_api.specs.Modules.{context_in}
use Rattle.c_api.proofs.Answered.{on_refusal}
use Rattle.c_api.proofs.Readings.{no_row}
use Rattle.c_api.proofs.visits.Visits.visit.Goals as goal

pub check_operator-requires-clause-visit : goal.check_operator-requires-clause-visit
check_operator-requires-clause-visit c = subst (λ md. MayVisit md (stacks_of c.args.self.now.validator)) (sym c.resources-resources.ensures) c.requires.visit

pub returns-in_err-check_operator-clause-refused : goal.returns-in_err-check_operator-clause-refused
returns-in_err-check_operator-clause-refused c =
    let p = err_from_is_err_and c.from_residual-in_err-check_operator.result c.from_residual-in_err-check_operator.ensures.1 in
    let v = state c.args.self.now.validator in
    let w = state c.check_operator.new.v in
    let e = c.in_err-check_operator.field-0.0 in
    let row = subst (λ md. Meets md (λ cx. operator cx c.read_into.new.op) c.args.offset v (Err e) w) c.resources-resources.ensures c.in_err-check_operator.ensures.meets in
    rw (p.1, p.2) (λ refusal. no_row c.args.module.now c.args.bytes.now v c.read_into.new.op c.in_ok-taken.taken c.in_ok-taken.ensures.read
    (not_visited (context_in c.args.module.now) c.read_into.new.op c.args.offset v w e row refusal))

pub returns-in_err-check_operator-clause-valid : goal.returns-in_err-check_operator-clause-valid
returns-in_err-check_operator-clause-valid c = subst (λ md. IsValidBody md (state c.check_operator.new.v)) c.resources-resources.ensures c.check_operator.ensures.valid

pub returns-clause-accepted : goal.returns-clause-accepted
returns-clause-accepted c = record {
  op = c.read_into.new.op;
  is_operator = c.in_ok-taken.ensures.read;
  meets = subst (λ md. Meets md (λ cx. operator cx c.read_into.new.op) c.args.offset (state c.args.self.now.validator) (Ok tt) (state c.check_operator.new.v)) c.resources-resources.ensures c.in_ok-check_operator.ensures.meets;
  joins = c.and-self.ensures;
}

pub returns-clause-valid : goal.returns-clause-valid
returns-clause-valid c = subst (λ md. IsValidBody md (state c.check_operator.new.v)) c.resources-resources.ensures c.check_operator.ensures.valid

pub returns-in_err-check_operator-clause-list : goal.returns-in_err-check_operator-clause-list
returns-in_err-check_operator-clause-list c = on_refusal c.from_residual-in_err-check_operator.result _ refl

pub returns-in_err-check_operator-clause-back : goal.returns-in_err-check_operator-clause-back
returns-in_err-check_operator-clause-back c = λ is.
    on_refusal c.from_residual-in_err-check_operator.result _ (record { same_state = c.in_err-check_operator.ensures.back is; same_list = refl })
