-- An operator more is read and accepted, and at the end all of them are.
use Rattle.std.proofs.Common.{None, ◌≢◌, ◌∙◌, List, [], refl, sym, ap, length}
use Rattle.validate_stacks.specs.State.{body_context}
use Rattle.validation_rules.specs.Static.{Frame}
use Rattle.validate_operators.specs.Validator.{state}
use Rattle.module_check.specs.Constant.{may_stand}
use Rattle.module_check.specs.Faults.{IsFault, ReachFault}
use Rattle.module_check.proofs.Begun.{then_ok}
use Rattle.module_check.proofs.Behind.{one_more, whole, behind_end, at_fault, told_in, told_invalid, of_some}
use Rattle.binary_operators.proofs.Shorter.{operator_shorter}
use Rattle.module_check.proofs.Unplaced.{same_place}
use Rattle.module_check.proofs.operators.check_function_operators.Goals as goal

pub returns-in-None-clause-accepted : goal.returns-in-None-clause-accepted
returns-in-None-clause-accepted g c =
    let md = g.R.WasmModuleResources.context c.args.body.now.context.now.resources.now in
    let types = c.args.body.now.context.now.types in
    let next = c.is_open_behind in
    let turn = next.ensures.turn c.in-None.is in
    let more = one_more md types (may_stand None) (state c.args.v.now) c.args.code.now.left c.loop-resources.reader.left
    (state c.loop-resources.v) (state next.new.v) turn.op turn.offset next.new.reader.left
    tt c.loop-resources.invariant.so_far turn.is_read (same_place None turn.op) turn.meets in
    let closed = next.ensures.closed c.loop-resources-test.false c.in-None.is in
    then_ok c.check_end.result
    (λ ended. whole md types (may_stand None) (state c.args.v.now) c.args.code.now.left next.new.reader.left
    (state next.new.v) 0 more ended (sym (ap (λ (fs : List Frame). length fs) closed)) refl
    (g.met.R.WasmModuleResources.lawful c.args.body.now.context.now.resources.now))
    c.check_end.ensures.ended

pub returns-in-None-clause-fault : goal.returns-in-None-clause-fault
returns-in-None-clause-fault g c =
    let md = g.R.WasmModuleResources.context c.args.body.now.context.now.resources.now in
    let types = c.args.body.now.context.now.types in
    let next = c.is_open_behind in
    let rest = next.new.reader.left in
    let last = state next.new.v in
    let turn = next.ensures.turn c.in-None.is in
    let more = one_more md types (may_stand None) (state c.args.v.now) c.args.code.now.left c.loop-resources.reader.left
    (state c.loop-resources.v) last turn.op turn.offset rest
    tt c.loop-resources.invariant.so_far turn.is_read (same_place None turn.op) turn.meets in
    let closed = next.ensures.closed c.loop-resources-test.false c.in-None.is in
    told_in (rest ≢ []) (ReachFault md types (may_stand None) c.args.body.now.end (state c.args.v.now) c.args.code.now.left) _ c.check_end.result c.check_end.ensures.refused c.check_end.ensures.invalid c.check_end.ensures.offset
    (λ e invalid at left. at_fault md types (may_stand None) (state c.args.v.now) c.args.code.now.left rest c.args.body.now.end last e more
    (told_invalid (body_context md last) types (may_stand None) c.args.body.now.end last.present rest e invalid (at ∙ c.offset_of-end.ensures)
    (behind_end md types (may_stand None) (state c.args.v.now) c.args.code.now.left rest last 0 (sym (ap (λ (fs : List Frame). length fs) closed)) refl left)))

pub returns-in-Some-clause-fault : goal.returns-in-Some-clause-fault
returns-in-Some-clause-fault g c =
    let md = g.R.WasmModuleResources.context c.args.body.now.context.now.resources.now in
    let types = c.args.body.now.context.now.types in
    at_fault md types (may_stand None) (state c.args.v.now) c.args.code.now.left c.loop-resources.reader.left c.args.body.now.end (state c.loop-resources.v) c.in-Some.error
    c.loop-resources.invariant.so_far.behind
    (of_some c.is_open_behind.new.refusal c.in-Some.error (IsFault (body_context md (state c.loop-resources.v)) types (may_stand None) c.args.body.now.end (state c.loop-resources.v).present c.loop-resources.reader.left) c.in-Some.is c.is_open_behind.ensures.fault)

pub loop-resources-preserved : goal.loop-resources-preserved
loop-resources-preserved g c =
    let md = g.R.WasmModuleResources.context c.args.body.now.context.now.resources.now in
    let next = c.is_open_behind in
    let untold = next.ensures.untold c.loop-resources-test.true in
    let turn = next.ensures.turn untold in
    record {
      so_far = record {
        behind = one_more md c.args.body.now.context.now.types (may_stand None) (state c.args.v.now) c.args.code.now.left c.loop-resources.reader.left
            (state c.loop-resources.v) (state next.new.v) turn.op turn.offset next.new.reader.left tt
            c.loop-resources.invariant.so_far turn.is_read (same_place None turn.op) turn.meets;
        is_open = next.ensures.open c.loop-resources-test.true;
      };
      untold = untold;
    }

pub loop-resources-smaller : goal.loop-resources-smaller
loop-resources-smaller g c =
    let turn = c.is_open_behind.ensures.turn (c.is_open_behind.ensures.untold c.loop-resources-test.true) in
    operator_shorter c.args.body.now.context.now.types c.loop-resources.reader.left c.is_open_behind.new.reader.left _ turn.is_read
