use Rattle.std.proofs.Common.{ap, ◌∙◌, lit<, filter}
use Rattle.std.proofs.lemmas.Iterator.Consumers.{YieldsList-at, YieldsList-end}
use Rattle.std.proofs.lemmas.Iterator.Splits.{YieldsList-from_str_split}
use Rattle.script_reader.proofs.Pieces.{is_word}
use Rattle.script_reader.proofs.parts.words.read_words.Goals as goal

pub returns : goal.returns
returns c =
    let split = c.split-word-items.ensures in
    let pieces = YieldsList-at c.into_iter-word-iterator.ensures.into_iter_gives (YieldsList-from_str_split 32 c.args.line.now (lit< tt) split.text split.has_more split.pattern) in
    let all = YieldsList-end pieces c.loop-word.yielded _ c.loop-word.yielded_by _ _ c.in-None.is c.next.ensures.steps in
    c.loop-word.invariant ∙ ap (filter is_word) all.0
