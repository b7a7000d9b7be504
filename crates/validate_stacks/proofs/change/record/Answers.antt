use Rattle.std.proofs.Common.{◌≡◌, ◌∙◌, ap, take, MatchResult, subst}
use Rattle.validate_transaction.specs.declared.log.Entry.{Entry}
use Rattle.validate_transaction.specs.Recorded.{with_entry}
use Rattle.validate_stacks.specs.Changes.{log_changed, log_popped, log_opened, log_pushed, log_topped}
use Rattle.validate_stacks.proofs.Changed.{entry_steps}
use Rattle.validate_stacks.proofs.change.record.Goals as goal

pub returns-clause-exact : goal.returns-clause-exact
returns-clause-exact g c =
    let t = c.args.transaction.now in
    let xs = take c.args.change.popped c.args.operands.now.items in
    let gs = c.args.change.pushed.now in
    let entry : Entry = record { popped = c.newest.result; closed = c.closed.result; opened = c.is_some.result; pushed = c.args.pushed } in
    let steps : with_entry entry t ≡ log_changed c.args.change c.args.control.now.items c.args.operands.now.items c.args.inits.now.order t =
    entry_steps entry xs gs c.args.change.opens c.args.change.top c.newest.ensures c.requires.pushed c.is_some.ensures t
    ∙ ap (λ u. log_topped c.args.change.top (log_pushed gs (log_opened c.args.change.opens u))) (c.closed.ensures (log_popped xs t)) in
    subst (λ u. MatchResult c.record.result (λ _. c.record.new.self ≡ u) (λ _. c.record.new.self ≡ t)) steps c.record.ensures.exact
