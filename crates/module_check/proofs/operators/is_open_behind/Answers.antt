-- A common operator passes, or nothing is changed before any operator is read.
use Rattle.std.proofs.Common.{None, IfSome, sym, subst}
use Rattle.binary_operators.specs.Unread.{Unread}
use Rattle.validate_stacks.specs.Attempts.{Stacked}
use Rattle.validate_stacks.specs.State.{body_context}
use Rattle.validate_stacks.specs.Visits.{MayVisit}
use Rattle.validate_operators.specs.Validator.{state, stacks_of}
use Rattle.module_check.specs.Constant.{may_stand}
use Rattle.module_check.specs.Faults.{IsFault}
use Rattle.module_check.specs.Turns.{IsTurn, Turns}
use Rattle.module_check.specs.declared.common.Turn.TheVariants.{Open, Closed}
use Rattle.module_check.proofs.Turned.{passed_open, open_there, passed_closed, closed_there, same_there}
use Rattle.module_check.proofs.operators.is_open_behind.Goals as goal

pub common_turn-requires : goal.common_turn-requires
common_turn-requires g c = record {
  visit = subst (λ r. MayVisit (g.R.WasmModuleResources.context r) (stacks_of c.args.v.now)) (sym c.requires.same) c.requires.visit;
}

pub returns-in-Open-clause-turn : goal.returns-in-Open-clause-turn
returns-in-Open-clause-turn g c = λ untold.
    let turns = subst (λ r. Turns (g.R.WasmModuleResources.context r) Open c.args.reader.now c.common_turn.new.reader (stacks_of c.args.v.now) (stacks_of c.common_turn.new.v)) c.requires.same c.in-Open.ensures in
    passed_open (g.R.WasmModuleResources.context c.args.body.now.context.now.resources.now) c.args.reader.now c.common_turn.new.reader (stacks_of c.args.v.now) (stacks_of c.common_turn.new.v) turns c.args.body.now.context.now.types

pub returns-in-Open-clause-open : goal.returns-in-Open-clause-open
returns-in-Open-clause-open g c = λ is.
    open_there (g.R.WasmModuleResources.context c.args.resources.now) c.args.reader.now c.common_turn.new.reader (stacks_of c.args.v.now) (stacks_of c.common_turn.new.v) c.in-Open.ensures

pub returns-in-Closed-clause-turn : goal.returns-in-Closed-clause-turn
returns-in-Closed-clause-turn g c = λ untold.
    let turns = subst (λ r. Turns (g.R.WasmModuleResources.context r) Closed c.args.reader.now c.common_turn.new.reader (stacks_of c.args.v.now) (stacks_of c.common_turn.new.v)) c.requires.same c.in-Closed.ensures in
    passed_closed (g.R.WasmModuleResources.context c.args.body.now.context.now.resources.now) c.args.reader.now c.common_turn.new.reader (stacks_of c.args.v.now) (stacks_of c.common_turn.new.v) turns c.args.body.now.context.now.types

pub returns-in-Closed-clause-closed : goal.returns-in-Closed-clause-closed
returns-in-Closed-clause-closed g c = λ is untold.
    closed_there (g.R.WasmModuleResources.context c.args.resources.now) c.args.reader.now c.common_turn.new.reader (stacks_of c.args.v.now) (stacks_of c.common_turn.new.v) c.in-Closed.ensures

pub is_lent_accepted-requires : goal.is_lent_accepted-requires
is_lent_accepted-requires g c =
    let same = same_there (g.R.WasmModuleResources.context c.args.resources.now) c.args.reader.now c.common_turn.new.reader (stacks_of c.args.v.now) (stacks_of c.common_turn.new.v) c.in-NotPassed.ensures in
    subst (MayVisit (g.R.WasmModuleResources.context c.args.body.now.context.now.resources.now)) (sym same.1) c.requires.visit

pub returns-then-is_lent_accepted-clause-turn : goal.returns-then-is_lent_accepted-clause-turn
returns-then-is_lent_accepted-clause-turn g c = λ untold.
    let md = g.R.WasmModuleResources.context c.args.body.now.context.now.resources.now in
    let types = c.args.body.now.context.now.types in
    let next = c.is_lent_accepted in
    let same = same_there (g.R.WasmModuleResources.context c.args.resources.now) c.args.reader.now c.common_turn.new.reader (stacks_of c.args.v.now) (stacks_of c.common_turn.new.v) c.in-NotPassed.ensures in
    let turn = subst (λ (s : Stacked). IsTurn md types c.common_turn.new.reader.left next.new.reader.left s.body (state next.new.v)) same.1 (next.ensures.turn c.if-is_lent_accepted.true) in
    subst (λ (r : Unread). IsTurn md types r.left next.new.reader.left (state c.args.v.now) (state next.new.v)) same.0 turn

pub returns-else-is_lent_accepted-clause-fault : goal.returns-else-is_lent_accepted-clause-fault
returns-else-is_lent_accepted-clause-fault g c =
    let md = g.R.WasmModuleResources.context c.args.body.now.context.now.resources.now in
    let types = c.args.body.now.context.now.types in
    let refusal = c.is_lent_accepted.new.refusal in
    let same = same_there (g.R.WasmModuleResources.context c.args.resources.now) c.args.reader.now c.common_turn.new.reader (stacks_of c.args.v.now) (stacks_of c.common_turn.new.v) c.in-NotPassed.ensures in
    let there = subst (λ (s : Stacked). IfSome refusal (IsFault (body_context md s.body) types (may_stand None) c.args.body.now.end s.body.present c.common_turn.new.reader.left)) same.1 (c.is_lent_accepted.ensures.fault c.if-is_lent_accepted.false) in
    subst (λ (r : Unread). IfSome refusal (IsFault (body_context md (state c.args.v.now)) types (may_stand None) c.args.body.now.end (state c.args.v.now).present r.left)) same.0 there
