use Rattle.std.proofs.Common.{refl, ◌≡◌, ◌∙◌, ◌++◌, List, ap, arith, length, length-append}
use Rattle.validate_types.specs.declared.types.ValType.{ValType}
use Rattle.validate_locals.proofs.Runs.{grown, Grown, empty_list}
use Rattle.validate_locals.proofs.locals.Locals.define_params.Goals as goal

-- those that are held plainly, and the others
abbrev near : goal.After-self-1 → List ValType
near c = c.split_at.result.0.now

abbrev far : goal.After-self-1 → List ValType
far c = c.split_at.result.1.now

more : (c : goal.After-self-1) → Grown c.self.inside.first.items c.self.inside.uncached.items c.self.inside.num_locals c.add_first.new.first.items c.add_runs.new.runs.items c.args.types.now
more c =
    let a = c.self.inside in
    let parts = c.split_at.ensures in
    let vacant : length a.first.items ≡ c.len-vacant.result = omega (arith, c.len-vacant.ensures, a.first.ok.0) in
    let longer = rw c.in_ok-reserve_runs.ensures.items at c.add_runs.ensures in
    rw (c.in_ok-add_first.ensures.items, parts.by_index.0) (grown a.first.items a.uncached.items c.add_runs.new.runs.items a.num_locals (near c) (far c) c.self.invariant
    (omega (arith, parts.front_len, c.min.ensures, vacant, c.self.invariant.within_limit))
    (λ h. empty_list (far c) (omega (arith, parts.front_len, parts.back_len, c.min.ensures, vacant, h)))
    (λ rising e. longer (length (a.first.items ++ near c)) rising (omega (arith, e)))
    (omega (arith, length-append (near c) (far c), parts.front_len, parts.back_len, c.if-not-may_define.ensures.0 refl, ap length c.self.view_is, c.self.invariant.counted)))

pub invariant_of-self-2 : goal.invariant_of-self-2
invariant_of-self-2 c = (more c).locals

pub returns-clause-defined : goal.returns-clause-defined
returns-clause-defined c = (more c).types ∙ ap (λ ts. ts ++ c.args.types.now) c.self.view_is
