-- The section that was read is another one, and what is left is behind it.
use Rattle.std.proofs.Common.{◌∙◌, ◌<◌, ◌-◌, ◌+◌, sym, length, subst}
use Rattle.module_check.proofs.Sections.{one_less, other_first}
use Rattle.module_check.proofs.unbodied.contents_of.Goals as goal

pub loop-preserved : goal.loop-preserved
loop-preserved c =
    let start = c.read_bytes.new.self.left in
    let within = subst (λ n. c.loop.counter < n) c.bytes_left-end.ensures c.loop-test.true in
    sym (other_first c.args.id (length start - c.loop.counter) c.loop.reader.left (length start - (c.loop.counter + 1))
    _ c.read_section.new.reader.left (one_less (length start) c.loop.counter within) c.in-Ok-read_section.ensures.read c.if-this-id.false)
    ∙ c.loop.invariant
