use Rattle.std.proofs.Common.{◌+◌, Ok, ◌++◌, ◌∷◌, [], ap, sym, ◌∙◌, subst, arith}
use Rattle.validate_stacks.specs.Visits.{MayVisit}
use Rattle.validate_operators.specs.Validator.{state, stacks_of}
use Rattle.validate_stacks.proofs.AtOnce.{done_at_once, same_at_once}
use Rattle.validate_stacks.proofs.Validity.{kept_on}
use Rattle.validate_operators.proofs.Listed.{refused_memory, refused_row, row_before, row_after, may_visit_next, IsFurther, further, safe_list, visit_kept}
use Rattle.validate_operators.proofs.check.check_ops.Goals as goal
use Rattle.validate_operators.proofs.check.check_ops.Goals.{then-not-passes_at_once+in-Ok, else-not-passes_at_once}

pub returns-then-not-has_room-clause-refused : goal.returns-then-not-has_room-clause-refused
returns-then-not-has_room-clause-refused g c =
    let md = g.R.WasmModuleResources.context c.args.resources.now in
    refused_memory md (state c.args.v.now) c.args.ops.now c.loop-index.index _ (omega arith) (state c.loop-index.v).present c.out_of_memory.result c.loop-index.invariant.run (ap (λ e. e.offset) c.out_of_memory.ensures) (ap (λ e. e.wants_memory) c.out_of_memory.ensures)

pub passes_at_once-requires : goal.passes_at_once-requires
passes_at_once-requires g c =
    let md = g.R.WasmModuleResources.context c.args.resources.now in
    may_visit_next md (state c.args.v.now) c.args.ops.now c.loop-index.index (stacks_of c.loop-index.v) (omega arith) c.requires.starting.none_pending c.loop-index.invariant.kept c.loop-index.invariant.valid c.loop-index.invariant.ordered

pub check_slowly-requires : goal.check_slowly-requires
check_slowly-requires g c =
    let md = g.R.WasmModuleResources.context c.args.resources.now in
    let same = same_at_once md _ (stacks_of c.loop-index.v) (stacks_of c.passes_at_once.new.self) c.passes_at_once.result c.passes_at_once.ensures c.if-not-passes_at_once.true in
    subst (MayVisit md) (sym same) (may_visit_next md (state c.args.v.now) c.args.ops.now c.loop-index.index (stacks_of c.loop-index.v) (omega arith) c.requires.starting.none_pending c.loop-index.invariant.kept c.loop-index.invariant.valid c.loop-index.invariant.ordered)

pub returns-in-Err-clause-refused : goal.returns-in-Err-clause-refused
returns-in-Err-clause-refused g c =
    let md = g.R.WasmModuleResources.context c.args.resources.now in
    refused_row md (state c.args.v.now) c.args.ops.now c.loop-index.index _ (omega arith) (state c.loop-index.v) (state c.check_slowly.new.self) c.in-Err.refusal c.loop-index.invariant.kept c.loop-index.invariant.run
    (row_before md _ _ (stacks_of c.loop-index.v) (stacks_of c.passes_at_once.new.self) c.passes_at_once.result _ (state c.check_slowly.new.self) c.passes_at_once.ensures c.if-not-passes_at_once.true c.in-Err.ensures.row)

pub returns-in-Err-clause-kept : goal.returns-in-Err-clause-kept
returns-in-Err-clause-kept g c =
    let md = g.R.WasmModuleResources.context c.args.resources.now in
    let v = state c.args.v.now in
    let u = state c.loop-index.v in
    let w = state c.check_slowly.new.self in
    kept_on v u w c.loop-index.invariant.kept (visit_kept md _ _ u w _
    (row_before md _ _ (stacks_of c.loop-index.v) (stacks_of c.passes_at_once.new.self) c.passes_at_once.result _ w c.passes_at_once.ensures c.if-not-passes_at_once.true c.in-Err.ensures.row))

pub loop-index-preserved : goal.loop-index-preserved
loop-index-preserved g c =
    let md = g.R.WasmModuleResources.context c.args.resources.now in
    let v = state c.args.v.now in
    let ops = c.args.ops.now in
    let i = c.loop-index.index in
    let s = stacks_of c.loop-index.v in
    let t = stacks_of c.passes_at_once.new.self in
    let w = state c.if-not-passes_at_once.v in
    let on = further md v ops i _ (omega arith) s.body w tt c.loop-index.invariant.kept c.loop-index.invariant.run c.loop-index.invariant.ordered c.loop-index.heights.items c.push_reserved.new.self.items c.operand_stack_height.result c.control_stack_height.result c.loop-index.invariant.noted c.operand_stack_height.ensures c.control_stack_height.ensures
    (c.push_reserved.ensures.items ∙ ap (λ l. l ++ (c.operand_stack_height.result, c.control_stack_height.result) ∷ []) c.has_room.ensures.items) in
    let next : IsFurther md v ops (i + 1) w c.push_reserved.new.self.items = elim c.if-not-passes_at_once.branch [
      | then-not-passes_at_once+in-Ok b ↦ on (row_after md _ _ s.body (state b.check_slowly.new.self) w (Ok tt) (ap state b.v-is) (row_before md _ _ s t c.passes_at_once.result (Ok tt) (state b.check_slowly.new.self) c.passes_at_once.ensures b.if-not-passes_at_once.true b.in-Ok.ensures.row))
      | else-not-passes_at_once b ↦ on (row_after md _ _ s.body t.body w (Ok tt) (ap state b.v-is) (done_at_once md _ s t c.passes_at_once.result c.passes_at_once.ensures b.if-not-passes_at_once.false _))
    ] in
    record { run = next.run; valid = next.valid; kept = next.kept; ordered = next.ordered; noted = next.noted }

pub returns-clause-safe : goal.returns-clause-safe
returns-clause-safe g c =
    let md = g.R.WasmModuleResources.context c.args.resources.now in
    λ z ty s. safe_list md (state c.args.v.now) (state c.loop-index.v) c.args.ops.now ty c.loop-index.index (g.met.R.WasmModuleResources.lawful c.args.resources.now) (omega arith) c.loop-index.invariant.run (c.is_closed.ensures.0 z) s
