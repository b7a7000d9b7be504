-- A group more is read and defined, or none can be.
use Rattle.std.proofs.Common.{arith, refl, subst, sym, [], ◌-◌, ◌≡◌}
use Rattle.std.proofs.lemmas.Result.{err_from_is_err_and}
use Rattle.validate_operators.specs.Validator.{state}
use Rattle.module_check.proofs.Groups.{DefinesMore, one_group_on, read_whole, in_parts, stops}
use Rattle.module_check.proofs.operators.define_locals.Goals as goal

pub loop-preserved : goal.loop-preserved
loop-preserved g c =
    let md = g.R.WasmModuleResources.context c.args.resources.now in
    record {
      starting = c.in_ok-define_group.ensures.starting;
      same = one_group_on md c.args.canonical c.in_ok-groups.groups c.loop.counter c.read_var_u32.new.self.left c.loop.reader.left c.define_group.new.reader.left
          (state c.args.v.now) (state c.loop.v) (state c.define_group.new.v) c.loop-test.true c.in_ok-define_group.ensures.defined c.loop.invariant.same;
    }

pub returns-in_err-define_group-clause-refused : goal.returns-in_err-define_group-clause-refused
returns-in_err-define_group-clause-refused g c =
    let p = err_from_is_err_and c.from_residual-in_err-define_group.result c.from_residual-in_err-define_group.ensures.1 in
    rw (p.1, p.2) (λ refusal rest w d.
    let md = g.R.WasmModuleResources.context c.args.resources.now in
    let behind = c.read_var_u32.new.self.left in
    stops md c.args.canonical c.in_ok-groups.groups c.loop.counter behind c.loop.reader.left rest (state c.args.v.now) (state c.loop.v) w c.loop-test.true
    (c.in_err-define_group.ensures.refused refusal) (c.loop.invariant.same rest w)
    (in_parts md c.args.canonical c.args.reader.now.left behind rest c.in_ok-groups.groups (state c.args.v.now) w c.in_ok-groups.ensures.read d))

pub returns-clause-defined : goal.returns-clause-defined
returns-clause-defined g c =
    let md = g.R.WasmModuleResources.context c.args.resources.now in
    let behind = c.read_var_u32.new.self.left in
    let groups = c.in_ok-groups.groups in
    let none : groups - c.loop.counter ≡ 0 = omega arith in
    read_whole md c.args.canonical c.args.reader.now.left behind c.loop.reader.left groups (state c.args.v.now) (state c.loop.v) c.in_ok-groups.ensures.read
    ((c.loop.invariant.same c.loop.reader.left (state c.loop.v)).1
    (subst (λ n. DefinesMore md c.args.canonical n c.loop.reader.left c.loop.reader.left (state c.loop.v) (state c.loop.v)) (sym none) ([], refl, refl)))
