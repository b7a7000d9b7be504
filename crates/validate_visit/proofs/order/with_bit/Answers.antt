use Rattle.std.proofs.Common.{w64, ap, sym, ◌∙◌, cond}
use Rattle.std.proofs.lemmas.Nat.Bits.{bit_at_set_same, bit_at_set_other, bit_at_clear_same, bit_at_clear_other}
use Rattle.validate_visit.proofs.order.with_bit.Goals as goal

pub returns-then-is_set-clause-same : goal.returns-then-is_set-clause-same
returns-then-is_set-clause-same c = bit_at_set_same w64 c.args.word c.args.bit c.requires ∙ sym (ap (λ b. cond b 1 0) c.if-is_set.true)

pub returns-then-is_set-clause-others : goal.returns-then-is_set-clause-others
returns-then-is_set-clause-others c = λ o l n. bit_at_set_other w64 c.args.word c.args.bit c.requires o n

pub returns-else-is_set-clause-same : goal.returns-else-is_set-clause-same
returns-else-is_set-clause-same c = bit_at_clear_same w64 c.args.word c.args.bit c.requires ∙ sym (ap (λ b. cond b 1 0) c.if-is_set.false)

pub returns-else-is_set-clause-others : goal.returns-else-is_set-clause-others
returns-else-is_set-clause-others c = λ o l n. bit_at_clear_other w64 c.args.word c.args.bit c.requires o l n
