-- The type stands for itself or for an earlier one, or is looked for among the others.
use Rattle.std.proofs.Common.{rules, ap, subst, subst₂, sym, ◌∙◌, ◌≡◌, ◌∷◌, [], ℕ, List, Some, slice_get, IsSome}
use Rattle.std.specs.BTreeMap.{get}
use Rattle.std.specs.Ordering.{nat_cmp}
use Rattle.std.proofs.lemmas.Result.{on_ok_weaker}
use Rattle.validate_types.specs.declared.types.SubType.{SubType}
use Rattle.binary_operators.specs.declared.types.GroupNames.TheVariants.{Indices}
use Rattle.binary_modules.specs.Mixed.{mix_types}
use Rattle.binary_modules.specs.Read.{IsMixed, IsUnlike, Keeps, Notes, alone_at}
use Rattle.binary_modules.proofs.Grouped.{as_many, both_ok, has_one, keeps_alone, keeps_other, read_once, read_twice, stood_before}
use Rattle.binary_modules.proofs.TypesUnique.{if_err}
use Rattle.binary_modules.proofs.groups.TypeSection.declare_alone.Goals as goal

pub returns-in_ok-push-in-Some-clause-read : goal.returns-in_ok-push-in-Some-clause-read
returns-in_ok-push-in-Some-clause-read c =
    let section = c.args.self.now in
    let types = section.types.items in
    let ty = c.args.ty in
    let own = c.args.own in
    let first = c.in-Some.first in
    let kept = c.args.groups.now in
    let noted = c.find_alone.new.self in
    let number = c.mix_types-number.result in
    let mixed : number ≡ mix_types (ty ∷ []) = c.mix_types-number.ensures ∙ ap mix_types c.from_ref.ensures.value in
    let S : List SubType → List SubType → Type 0 = λ declared group. IsSome (slice_get declared first) → alone_at declared first ≡ Some group in
    let found : S c.deref.result.now c.from_ref-2.result.now = search rules in
    let stands : get nat_cmp noted.numbers number ≡ Some (Some first) = search rules in
    let same = subst₂ S c.deref.ensures.value c.from_ref-2.ensures.value found in
    on_ok_weaker c.push-in-Some.result
    (λ added before rest h is reads.
    read_once before section kept h c.args.again.now.left rest _ noted ty own first is reads
    (keeps_alone kept noted types ty number own first mixed (is ∙ as_many before section kept h) c.in_ok-found.ensures.noted stands same)
    c.in_ok-push-in-Some.ensures.added added (λ i. section.groups))
    c.push-in-Some.ensures.added

pub returns-in_ok-first-in-None-clause-read : goal.returns-in_ok-first-in-None-clause-read
returns-in_ok-first-in-None-clause-read c =
    let section = c.args.self.now in
    let types = section.types.items in
    let ty = c.args.ty in
    let own = c.args.own in
    let kept = c.args.groups.now in
    let noted = c.find_alone.new.self in
    let after = c.find_other.new.self in
    let key = c.in_ok-group-in-None.group in
    let first = c.in_ok-first-in-None.first in
    let number = c.mix_types-number.result in
    let rolled : key.types.items ≡ ty ∷ [] = c.in_ok-group-in-None.ensures.types in
    let mixed : number ≡ mix_types (ty ∷ []) = c.mix_types-number.ensures ∙ ap mix_types c.from_ref.ensures.value in
    let numbered : number ≡ key.mixed = mixed ∙ sym c.in_ok-group-in-None.ensures.mixed in
    let is_mixed : IsMixed key = c.in_ok-group-in-None.ensures.mixed ∙ ap mix_types (sym rolled) in
    let V : List SubType → List SubType → Type 0 = λ declared group. IsUnlike noted declared number group in
    let unlike = subst₂ V c.deref.ensures.value c.from_ref-2.ensures.value (c.in_ok-found.ensures.other c.in-None.is) in
    let N : ℕ → Type 0 = λ n. Notes kept noted n (Some own) in
    let U : ℕ → List SubType → Type 0 = λ n group. IsUnlike noted types n group in
    both_ok c.declare.result _ _ _
    (λ _ read canonical before rest h is reads.
    let last = is ∙ as_many before section kept h in
    let K : List SubType → Type 0 = λ r. Keeps kept after types types r own first in
    let keeps = keeps_other kept noted after types key own first (Some own) is_mixed (subst N numbered c.in_ok-found.ensures.noted)
    (λ none. stood_before kept noted types (ty ∷ []) number own last c.in_ok-found.ensures.noted unlike (ap (λ n. get nat_cmp kept.numbers n) numbered ∙ none))
    (subst₂ U numbered (sym rolled) unlike) c.in_ok-first-in-None.ensures.first c.in_ok-first-in-None.ensures.kept c.find_other.ensures.numbers in
    read_twice before section kept h 1 c.args.again.now.left rest c.declare.new.reader.left c.declare.new.self after (ty ∷ []) read.0 own first is
    (has_one section.canonical.items _ c.args.again.now.left ty rest reads) (subst K rolled keeps) read.1 read.2 canonical c.declare.ensures.groups)
    c.declare.ensures.types c.declare.ensures.canonical

pub returns-in_ok-first-in-None-clause-refused : goal.returns-in_ok-first-in-None-clause-refused
returns-in_ok-first-in-None-clause-refused c =
    let ty = c.args.ty in
    let canonical = c.args.self.now.canonical.items in
    let bytes = c.args.again.now.left in
    let first = c.in_ok-first-in-None.first in
    if_err c.declare.result _ _
    (λ e none short rest reads. none short (ty ∷ []) rest (has_one canonical (Indices first) bytes ty rest reads))
    c.declare.ensures.refused
