-- What is looked up is what the module declares.
use Rattle.std.proofs.Common.{Ok, refl, sym, subst, ap}
use Rattle.validate_operators.specs.Validator.{state, stacks_of}
use Rattle.validate_resources.specs.Kept.{declared_lists}
use Rattle.validate_resources.specs.Lists.{context_of}
use Rattle.validate_stacks.proofs.AtOnce.{done_at_once, same_at_once}
use Rattle.validate_stacks.specs.Attempts.{Stacked}
use Rattle.validate_stacks.specs.Visits.{Meets, MayVisit}
use Rattle.validation_rules.specs.Operators.{operator}
use Rattle.c_api.proofs.visits.Visits.visit_at_once.Goals as goal

pub passes_at_once-requires : goal.passes_at_once-requires
passes_at_once-requires c = subst (λ md. MayVisit md (stacks_of c.args.self.now.validator)) (sym c.resources.ensures) c.requires

pub returns-then-passes_at_once-clause-accepted : goal.returns-then-passes_at_once-clause-accepted
returns-then-passes_at_once-clause-accepted c =
    let md = context_of (declared_lists c.resources.result.now) in
    let op = c.read_at_once.new.op in
    let v = c.args.self.now.validator in
    let w = c.passes_at_once.new.self in
    record {
      op = op;
      is_operator = c.in_ok-taken.ensures;
      meets = subst (λ md. Meets md (λ cx. operator cx op) c.args.offset (state v) (Ok tt) (state w)) c.resources.ensures
          (done_at_once md (λ cx. operator cx op) (stacks_of v) (stacks_of w) c.passes_at_once.result c.passes_at_once.ensures c.if-passes_at_once.true c.args.offset);
      joins = c.and-self.ensures;
    }

pub returns-clause-unchanged : goal.returns-clause-unchanged
returns-clause-unchanged c = λ _.
    let md = context_of (declared_lists c.resources.result.now) in
    let v = c.args.self.now.validator in
    let w = c.passes_at_once.new.self in
    record {
      same_state = ap (λ (s : Stacked). s.body) (same_at_once md (λ cx. operator cx c.read_at_once.new.op) (stacks_of v) (stacks_of w) c.passes_at_once.result c.passes_at_once.ensures c.if-passes_at_once.false);
      same_list = refl;
    }
