-- An operator more is read and accepted, and at the end all of them are, or one isn't.
use Rattle.std.proofs.Common.{Some, [], ap, sym, length, arith, rules, inl, inr, ◌∙◌, ◌≡◌}
use Rattle.std.proofs.lemmas.Result.{err_from_is_err_and}
use Rattle.binary_operators.specs.Unplaced.{unplaced}
use Rattle.binary_operators.specs.Unread.{Unread}
use Rattle.validate_stacks.specs.State.{body_context}
use Rattle.validate_operators.specs.Validator.{state}
use Rattle.module_check.specs.Constant.{may_stand}
use Rattle.module_check.specs.Faults.{ReachFault}
use Rattle.module_check.proofs.Begun.{then_ok}
use Rattle.module_check.proofs.Behind.{one_more, still_open, whole, behind_end, at_fault, told_in, told_invalid, told_refused, unreadable, refused_for, row_fails, none_left}
use Rattle.binary_operators.proofs.Shorter.{operator_shorter}
use Rattle.module_check.proofs.Unplaced.{same_place}
use Rattle.module_check.proofs.expression.check_constant_operators.Goals as goal
use Rattle.module_check.proofs.expression.check_constant_operators.Goals.{else-loop-test, then-loop-test+then-is_at_end}

pub returns-then-control_stack_height-eq0-clause-accepted : goal.returns-then-control_stack_height-eq0-clause-accepted
returns-then-control_stack_height-eq0-clause-accepted g c =
    let md = g.R.WasmModuleResources.context c.args.body.now.context.now.resources.now in
    let rest = c.read_operator_into.new.reader.left in
    let more = one_more md c.args.body.now.context.now.types (may_stand (Some c.args.place)) (state c.args.v.now) c.args.reader.now.left c.loop.reader.left
    (state c.loop.v) (state c.check_operator.new.v) c.read_operator_into.new.to c.offset_of-offset.result rest
    tt c.loop.invariant.so_far c.in_ok-read_operator_into.ensures.read
    (same_place (Some c.args.place) c.read_operator_into.new.to ∙ c.in_ok-check_operator.ensures.stands) c.in_ok-check_operator.ensures.row in
    then_ok c.check_end.result
    (λ ended. whole md c.args.body.now.context.now.types (may_stand (Some c.args.place)) (state c.args.v.now) c.args.reader.now.left rest
    (state c.check_operator.new.v) c.control_stack_height.result more (ap (λ (r : Unread). r.left) (sym c.duplicate.ensures) ∙ ended) c.control_stack_height.ensures
    c.if-control_stack_height-eq0.true (g.met.R.WasmModuleResources.lawful c.args.body.now.context.now.resources.now))
    c.check_end.ensures.ended

pub returns-then-control_stack_height-eq0-clause-fault : goal.returns-then-control_stack_height-eq0-clause-fault
returns-then-control_stack_height-eq0-clause-fault g c =
    let md = g.R.WasmModuleResources.context c.args.body.now.context.now.resources.now in
    let may = may_stand (Some c.args.place) in
    let rest = c.read_operator_into.new.reader.left in
    let last = state c.check_operator.new.v in
    let more = one_more md c.args.body.now.context.now.types may (state c.args.v.now) c.args.reader.now.left c.loop.reader.left
    (state c.loop.v) last c.read_operator_into.new.to c.offset_of-offset.result rest
    tt c.loop.invariant.so_far c.in_ok-read_operator_into.ensures.read
    (same_place (Some c.args.place) c.read_operator_into.new.to ∙ c.in_ok-check_operator.ensures.stands) c.in_ok-check_operator.ensures.row in
    told_in _ (ReachFault md c.args.body.now.context.now.types may c.args.body.now.end (state c.args.v.now) c.args.reader.now.left) _ c.check_end.result c.check_end.ensures.refused c.check_end.ensures.invalid c.check_end.ensures.offset
    (λ e invalid at left. at_fault md c.args.body.now.context.now.types may (state c.args.v.now) c.args.reader.now.left rest c.args.body.now.end last e more
    (told_invalid (body_context md last) c.args.body.now.context.now.types may c.args.body.now.end last.present rest e invalid (at ∙ c.offset_of-end.ensures)
    (behind_end md c.args.body.now.context.now.types may (state c.args.v.now) c.args.reader.now.left rest last c.control_stack_height.result c.control_stack_height.ensures
    c.if-control_stack_height-eq0.true (λ ended. left (ap (λ (r : Unread). r.left) c.duplicate.ensures ∙ ended)))))

pub returns-in_err-read_operator_into-clause-fault : goal.returns-in_err-read_operator_into-clause-fault
returns-in_err-read_operator_into-clause-fault g c =
    let p = err_from_is_err_and c.from_residual.result c.from_residual.ensures.1 in
    rw (p.1, p.2) (at_fault (g.R.WasmModuleResources.context c.args.body.now.context.now.resources.now) c.args.body.now.context.now.types (may_stand (Some c.args.place)) (state c.args.v.now) c.args.reader.now.left c.loop.reader.left c.args.body.now.end (state c.loop.v) _
    c.loop.invariant.so_far.behind (
      c.loop.invariant.so_far.is_open,
      (λ ended. search rules),
      unreadable c.args.body.now.context.now.types _ c.loop.reader.left c.in_err-read_operator_into.ensures.refused c.in_err-read_operator_into.ensures.vector,
    ))

pub returns-in_err-check_operator-clause-fault : goal.returns-in_err-check_operator-clause-fault
returns-in_err-check_operator-clause-fault g c =
    let p = err_from_is_err_and c.from_residual-in_err-check_operator.result c.from_residual-in_err-check_operator.ensures.1 in
    let md = g.R.WasmModuleResources.context c.args.body.now.context.now.resources.now in
    let may = may_stand (Some c.args.place) in
    let here = state c.loop.v in
    let op = c.read_operator_into.new.to in
    rw (p.1, p.2) (at_fault md c.args.body.now.context.now.types may (state c.args.v.now) c.args.reader.now.left c.loop.reader.left c.args.body.now.end here _ c.loop.invariant.so_far.behind
    (told_refused md c.args.body.now.context.now.types may c.args.body.now.end c.offset_of-offset.result here c.loop.reader.left c.read_operator_into.new.reader.left (unplaced op) _ c.loop.invariant.so_far.is_open c.in_ok-read_operator_into.ensures.read
    c.offset_of-offset.ensures
    (refused_for _ _ _ _ (λ fails. elim fails [
      | inl stands ↦ inl (same_place (Some c.args.place) op ∙ stands)
      | inr row ↦ inr (row_fails md here op row)
    ]) c.in_err-check_operator.ensures.refused)))

pub returns-clause-fault : goal.returns-clause-fault
returns-clause-fault g c =
    let md = g.R.WasmModuleResources.context c.args.body.now.context.now.resources.now in
    let may = may_stand (Some c.args.place) in
    let here = state c.loop.v in
    let at_end = λ (ended : c.loop.reader.left ≡ []). at_fault md c.args.body.now.context.now.types may (state c.args.v.now) c.args.reader.now.left c.loop.reader.left c.args.body.now.end here c.unclosed.result c.loop.invariant.so_far.behind
    (told_invalid (body_context md here) c.args.body.now.context.now.types may c.args.body.now.end here.present c.loop.reader.left c.unclosed.result c.unclosed.ensures.invalid
    (c.unclosed.ensures.offset ∙ c.offset_of.ensures) (inl (c.loop.invariant.so_far.is_open, ended))) in
    elim c.loop-test.branch [
      | else-loop-test w ↦
          let few : length c.loop.reader.left ≡ 0 = omega (arith, c.loop.invariant.few, w.loop-test.false, c.bytes_left-end.ensures) in
          at_end (none_left c.loop.reader.left few)
      | then-loop-test+then-is_at_end w ↦
          let ended : c.loop.reader.left ≡ [] = search rules in
          at_end ended
    ]

pub loop-preserved : goal.loop-preserved
loop-preserved g c =
    let md = g.R.WasmModuleResources.context c.args.body.now.context.now.resources.now in
    record {
      so_far = record {
        behind = one_more md c.args.body.now.context.now.types (may_stand (Some c.args.place)) (state c.args.v.now) c.args.reader.now.left c.loop.reader.left
            (state c.loop.v) (state c.check_operator.new.v) c.read_operator_into.new.to c.offset_of-offset.result
            c.read_operator_into.new.reader.left tt c.loop.invariant.so_far
            c.in_ok-read_operator_into.ensures.read
            (same_place (Some c.args.place) c.read_operator_into.new.to ∙ c.in_ok-check_operator.ensures.stands) c.in_ok-check_operator.ensures.row;
        is_open = still_open (state c.check_operator.new.v).present c.control_stack_height.result c.control_stack_height.ensures
            c.if-control_stack_height-eq0.false;
      };
      few = omega (arith, c.loop.invariant.few, operator_shorter c.args.body.now.context.now.types c.loop.reader.left c.read_operator_into.new.reader.left _ c.in_ok-read_operator_into.ensures.read);
    }
