-- What is noted is what was found, since nothing was noted before.
use Rattle.std.proofs.Common.{inl, inr}
use Rattle.c_api.proofs.Answered.{not_before, not_one_before, not_two_before, no_more_than_four}
use Rattle.c_api.proofs.items.check_at.Goals as goal

pub returns-clause-reported : goal.returns-clause-reported
returns-clause-reported c = λ other. record {
  item = c.check_item-checked.result.item;
  is_there = c.check_item-checked.ensures.item;
  reports = c.note.ensures.reported c.requires.first other;
}

pub returns-clause-answer : goal.returns-clause-answer
returns-clause-answer c =
    let found = c.check_item-checked.ensures in
    record {
      safe = λ z. found.safe ((c.note.ensures.accepted z).1);
      refused = λ says. elim (c.note.ensures.refused says) [ inl before ↦ absurd (before.0 c.requires.first) | inr this ↦ found.refused this.0 this.1 ];
      invalid = λ one. elim (c.note.ensures.invalid one) [ inl before ↦ absurd (not_one_before c.args.out.now.status c.requires.first before) | inr this ↦ found.invalid this.0 this.1 ];
      malformed = λ two. elim (c.note.ensures.malformed two) [ inl before ↦ absurd (not_two_before c.args.out.now.status c.requires.first before) | inr this ↦ found.malformed this.0 this.1 ];
      uncovered = λ four. elim (c.note.ensures.uncovered four) [ inl before ↦ absurd (not_before c.args.out.now.status c.requires.first before) | inr this ↦ found.uncovered this.0 this.1 ];
    }

pub returns-clause-known : goal.returns-clause-known
returns-clause-known c = no_more_than_four c.args.out.now.status c.note.new.self.status c.requires.first c.note.ensures.known
