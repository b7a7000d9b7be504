use Rattle.std.proofs.Common.{IsErrOf, IsSome, refl, sym, ◌≡◌, IfSome, ap, map, subst, take, ◌∙◌, rules, tests}
use Rattle.std.proofs.lemmas.Iterator.{YieldsList-from_slice}
use Rattle.std.proofs.lemmas.Iterator.Search.{position_from_yields_List}
use Rattle.std.proofs.lemmas.List.{take_rest}
use Rattle.script_reader.specs.Types.{AreMarks, IsComposite, is_kind, is_marked_shared, supertype_in, descriptor_in, described_in}
use Rattle.script_reader.specs.declared.parts.failure.LineError.{LineError}
use Rattle.script_reader.specs.declared.parts.types.Marks.{Marks}
use Rattle.script_reader.proofs.Marks.{text_of, is_first, are_before, are_onwards, none_onwards}
use Rattle.script_reader.proofs.parts.types.read_type.Goals as goal

pub returns-clause-shared : goal.returns-clause-shared
returns-clause-shared c =
    let words = c.args.words.now in
    let k = c.in_ok-kind.kind in
    let found = position_from_yields_List (λ w. is_kind (text_of w)) _ _ c.position.result c.position.ensures.ran (YieldsList-from_slice words cc) (λ x b q e. search (rules, tests)) in
    let marks = are_before is_kind words k (is_first is_kind words c.position.result k found c.in_ok-kind.ensures.ok_part) in
    subst (λ o. IfSome o (λ (said : Marks). said.shared ≡ is_marked_shared (map text_of (take k words)))) c.in_ok-marks.ensures.ok_part c.read_marks.ensures.shared ∙ ap is_marked_shared marks

pub returns-clause-supertype : goal.returns-clause-supertype
returns-clause-supertype c =
    let words = c.args.words.now in
    let k = c.in_ok-kind.kind in
    let found = position_from_yields_List (λ w. is_kind (text_of w)) _ _ c.position.result c.position.ensures.ran (YieldsList-from_slice words cc) (λ x b q e. search (rules, tests)) in
    let marks = are_before is_kind words k (is_first is_kind words c.position.result k found c.in_ok-kind.ensures.ok_part) in
    subst (λ o. IfSome o (λ (said : Marks). said.supertype_idx ≡ supertype_in (map text_of (take k words)))) c.in_ok-marks.ensures.ok_part c.read_marks.ensures.supertype ∙ ap supertype_in marks

pub returns-clause-descriptor : goal.returns-clause-descriptor
returns-clause-descriptor c =
    let words = c.args.words.now in
    let k = c.in_ok-kind.kind in
    let found = position_from_yields_List (λ w. is_kind (text_of w)) _ _ c.position.result c.position.ensures.ran (YieldsList-from_slice words cc) (λ x b q e. search (rules, tests)) in
    let marks = are_before is_kind words k (is_first is_kind words c.position.result k found c.in_ok-kind.ensures.ok_part) in
    subst (λ o. IfSome o (λ (said : Marks). said.descriptor_idx ≡ descriptor_in (map text_of (take k words)))) c.in_ok-marks.ensures.ok_part c.read_marks.ensures.descriptor ∙ ap descriptor_in marks

pub returns-clause-described : goal.returns-clause-described
returns-clause-described c =
    let words = c.args.words.now in
    let k = c.in_ok-kind.kind in
    let found = position_from_yields_List (λ w. is_kind (text_of w)) _ _ c.position.result c.position.ensures.ran (YieldsList-from_slice words cc) (λ x b q e. search (rules, tests)) in
    let marks = are_before is_kind words k (is_first is_kind words c.position.result k found c.in_ok-kind.ensures.ok_part) in
    subst (λ o. IfSome o (λ (said : Marks). said.describes_idx ≡ described_in (map text_of (take k words)))) c.in_ok-marks.ensures.ok_part c.read_marks.ensures.described ∙ ap described_in marks

pub returns-clause-inner : goal.returns-clause-inner
returns-clause-inner c =
    let words = c.args.words.now in
    let k = c.in_ok-kind.kind in
    let found = position_from_yields_List (λ w. is_kind (text_of w)) _ _ c.position.result c.position.ensures.ran (YieldsList-from_slice words cc) (λ x b q e. search (rules, tests)) in
    let onwards = are_onwards is_kind words k (is_first is_kind words c.position.result k found c.in_ok-kind.ensures.ok_part) in
    subst (λ rest. IsComposite rest c.in_ok-read_composite.field-0) (ap (map text_of) (take_rest words k) ∙ onwards) c.in_ok-read_composite.ensures.read

pub returns-in_err-kind-clause-bad : goal.returns-in_err-kind-clause-bad
returns-in_err-kind-clause-bad c err are inner fits is =
    let words = c.args.words.now in
    let found = position_from_yields_List (λ w. is_kind (text_of w)) _ _ c.position.result c.position.ensures.ran (YieldsList-from_slice words cc) (λ x b q e. search (rules, tests)) in
    subst (λ rest. IsComposite rest inner) (none_onwards is_kind words c.position.result found c.in_err-kind.ensures.ok_part) is

pub returns-in_err-marks-clause-bad : goal.returns-in_err-marks-clause-bad
returns-in_err-marks-clause-bad c err are inner fits is =
    let words = c.args.words.now in
    let k = c.in_ok-kind.kind in
    let found = position_from_yields_List (λ w. is_kind (text_of w)) _ _ c.position.result c.position.ensures.ran (YieldsList-from_slice words cc) (λ x b q e. search (rules, tests)) in
    let first = is_first is_kind words c.position.result k found c.in_ok-kind.ensures.ok_part in
    let some = c.read_marks.ensures.known.1 (subst AreMarks (sym (are_before is_kind words k first)) are) in
    let never = subst (λ o. IsSome o) c.in_err-marks.ensures.ok_part some in
    absurd cc

pub returns-in_err-read_composite-clause-bad : goal.returns-in_err-read_composite-clause-bad
returns-in_err-read_composite-clause-bad c err are inner fits is =
    let words = c.args.words.now in
    let k = c.in_ok-kind.kind in
    let found = position_from_yields_List (λ w. is_kind (text_of w)) _ _ c.position.result c.position.ensures.ran (YieldsList-from_slice words cc) (λ x b q e. search (rules, tests)) in
    let first = is_first is_kind words c.position.result k found c.in_ok-kind.ensures.ok_part in
    let bad : IsErrOf c.read_composite.result LineError.Bad = search (rules) in
    let onwards = ap (map text_of) (take_rest words k) ∙ are_onwards is_kind words k first in
    c.read_composite.ensures.bad bad inner fits (subst (λ rest. IsComposite rest inner) (sym onwards) is)

pub returns-clause-marks : goal.returns-clause-marks
returns-clause-marks c =
    let words = c.args.words.now in
    let k = c.in_ok-kind.kind in
    let found = position_from_yields_List (λ w. is_kind (text_of w)) _ _ c.position.result c.position.ensures.ran (YieldsList-from_slice words cc) (λ x b q e. search (rules, tests)) in
    let first = is_first is_kind words c.position.result k found c.in_ok-kind.ensures.ok_part in
    let some = subst (λ o. IsSome o) (sym c.in_ok-marks.ensures.ok_part) refl in
    subst AreMarks (are_before is_kind words k first) (c.read_marks.ensures.known.0 some)
