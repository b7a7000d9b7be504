use Rattle.std.proofs.Common.{◌+◌, ◌≡◌, ◌∷◌, [], ap, sym, subst, arith, take, get_or, length, length-append}
use Rattle.std.proofs.lemmas.List.{take_more, length-take-le}
use Rattle.validate_types.specs.declared.types.ValType.TheVariants.{I32}
use Rattle.validate_locals.specs.Runs.{run_types, AreLongerRuns, end_of}
use Rattle.validate_locals.proofs.Runs.{longer_none, longer_more}
use Rattle.validate_locals.proofs.locals.add_runs.Goals as goal

pub loop-index-init : goal.loop-index-init
loop-index-init c = record {
  longer = λ begin rising e. longer_none begin c.args.runs.now.items rising;
  len = omega arith;
  room = omega arith;
}

pub loop-index-preserved : goal.loop-index-preserved
loop-index-preserved c =
    let i = c.loop-index.index in
    let v = c.loop-index.invariant in
    let types = c.args.types.now in
    let old = c.args.runs.now.items in
    let runs = c.loop-index.runs.items in
    let k = length-take-le i types (omega arith) in
    record {
      longer = λ begin rising e.
          let so_far = v.longer begin rising e in
          let to : end_of begin runs + 1 ≡ c.args.from + i + 1 = omega (arith, e, k, ap length so_far.types, length-append (run_types begin old) (take i types)) in
          let one = (rw c.new.ensures at c.add_run.ensures.added) begin 1 so_far.rising (omega arith) to in
          subst (λ ts. AreLongerRuns begin old c.add_run.new.runs.items ts) (sym (take_more types i I32 (omega arith))) (longer_more begin old runs c.add_run.new.runs.items (take i types) (get_or types i I32 ∷ []) so_far one);
      len = omega (arith, c.add_run.ensures.len, v.len);
      room = omega (arith, c.add_run.ensures.room, v.room);
    }
