use Rattle.std.proofs.Common.{rules, tests}
use Rattle.std.proofs.lemmas.Iterator.{YieldsList-from_slice}
use Rattle.std.proofs.lemmas.Iterator.Search.{find_from_yields_List}
use Rattle.std.proofs.lemmas.Str.Pattern.{starts_text}
use Rattle.script_reader.proofs.TextAfter.{is_said_by, none_follows, rest_follows}
use Rattle.script_reader.proofs.parts.access.text_after.Goals as goal

pub returns-in_err-find : goal.returns-in_err-find
returns-in_err-find c =
    let found = find_from_yields_List (is_said_by c.args.name.now) _ _ c.find.result c.find.ensures.ran (YieldsList-from_slice c.args.words.now cc) (λ x b q k. search (rules, tests, starts_text)) in
    none_follows c.args.name.now c.args.words.now c.find.result c.from_residual.result found c.in_err-find.was c.from_residual.ensures

pub returns : goal.returns
returns c =
    let found = find_from_yields_List (is_said_by c.args.name.now) _ _ c.find.result c.find.ensures.ran (YieldsList-from_slice c.args.words.now cc) (λ x b q k. search (rules, tests, starts_text)) in
    rest_follows c.args.name.now c.args.words.now c.find.result c.strip_prefix.result found c.in_ok-find.field-0 c.in_ok-find.was c.strip_prefix.ensures.cases
