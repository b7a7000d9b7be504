use Rattle.std.proofs.Common.{ap, ◌∙◌, IsErrOf, ◌+◌, drop, map, rules, subst, sym, take, tests}
use Rattle.std.specs.List.{AllZip}
use Rattle.std.proofs.lemmas.Iterator.{YieldsList-from_slice}
use Rattle.std.proofs.lemmas.Iterator.Search.{position_from_yields_List}
use Rattle.std.proofs.lemmas.List.{take_rest}
use Rattle.validate_types.specs.Types.{Signature}
use Rattle.script_reader.specs.Values.{IsValueName}
use Rattle.script_reader.specs.declared.parts.failure.LineError.{LineError}
use Rattle.script_reader.proofs.Arrows.{has_arrow, params_are, results_are}
use Rattle.script_reader.proofs.Named.{both_true}
use Rattle.script_reader.proofs.Marks.{text_of, is_arrow, is_first, parted_by_arrow}
use Rattle.script_reader.proofs.parts.types.read_signature.Goals as goal

pub returns-clause-read : goal.returns-clause-read
returns-clause-read c =
    let words = c.args.words.now in
    let k = c.in_ok-arrow.arrow in
    let found = position_from_yields_List (λ w. is_arrow (text_of w)) _ _ c.position.result c.position.ensures.ran (YieldsList-from_slice words cc) (λ x b q e. search (rules, tests)) in
    let first = is_first is_arrow words c.position.result k found c.in_ok-arrow.ensures.ok_part in
    let results = subst (λ rest. AllZip IsValueName (map text_of rest) c.in_ok-results.results.items) (take_rest words (k + 1)) c.in_ok-results.ensures.named in
    let params_named = subst (λ (ty : Signature). AllZip IsValueName (map text_of (take k words)) ty.params) (sym c.new.ensures) c.in_ok-params.ensures.named in
    let results_named = subst (λ (ty : Signature). AllZip IsValueName (map text_of (drop (k + 1) words)) ty.results) (sym c.new.ensures) results in
    (map text_of (take k words), map text_of (drop (k + 1) words), parted_by_arrow words k first, params_named, results_named)

pub returns-in_err-arrow-clause-bad : goal.returns-in_err-arrow-clause-bad
returns-in_err-arrow-clause-bad c err ty fit (params, results, split, are_params, are_results) =
    let words = c.args.words.now in
    let found = position_from_yields_List (λ w. is_arrow (text_of w)) _ _ c.position.result c.position.ensures.ran (YieldsList-from_slice words cc) (λ x b q e. search (rules, tests)) in
    has_arrow words params results ty.params split are_params c.position.result found c.in_err-arrow.ensures.ok_part

pub returns-in_err-params-clause-bad : goal.returns-in_err-params-clause-bad
returns-in_err-params-clause-bad c err ty fit (params, results, split, are_params, are_results) =
    let words = c.args.words.now in
    let k = c.in_ok-arrow.arrow in
    let found = position_from_yields_List (λ w. is_arrow (text_of w)) _ _ c.position.result c.position.ensures.ran (YieldsList-from_slice words cc) (λ x b q e. search (rules, tests)) in
    let first = is_first is_arrow words c.position.result k found c.in_ok-arrow.ensures.ok_part in
    let bad : IsErrOf c.read_value_types.result LineError.Bad = search (rules) in
    let read = subst (λ texts. AllZip IsValueName texts ty.params) (sym (params_are words params results ty.params split are_params k first)) are_params in
    c.read_value_types.ensures.bad bad ty.params (both_true _ _ fit).0 read

pub returns-in_err-results-clause-bad : goal.returns-in_err-results-clause-bad
returns-in_err-results-clause-bad c err ty fit (params, results, split, are_params, are_results) =
    let words = c.args.words.now in
    let k = c.in_ok-arrow.arrow in
    let found = position_from_yields_List (λ w. is_arrow (text_of w)) _ _ c.position.result c.position.ensures.ran (YieldsList-from_slice words cc) (λ x b q e. search (rules, tests)) in
    let first = is_first is_arrow words c.position.result k found c.in_ok-arrow.ensures.ok_part in
    let bad : IsErrOf c.read_value_types-2.result LineError.Bad = search (rules) in
    let after = results_are words params results ty.params split are_params k first in
    let read = subst (λ texts. AllZip IsValueName texts ty.results) (sym (ap (map text_of) (take_rest words (k + 1)) ∙ after)) are_results in
    c.read_value_types-2.ensures.bad bad ty.results (both_true _ _ fit).1 read
