-- The types are those of one type alone, or of any group.
use Rattle.std.proofs.Common.{rules, ap, subst, subst₂, sym, ◌≡◌, ℕ, List}
use Rattle.std.proofs.lemmas.Result.{on_ok_weaker}
use Rattle.binary_operators.specs.Unread.{Unread}
use Rattle.binary_modules.specs.Read.{HasNoRolled, HasReadTypes, ReadsAnyhow}
use Rattle.binary_modules.proofs.TypesUnique.{if_err}
use Rattle.binary_modules.proofs.groups.TypeSection.declare_types.Goals as goal

pub returns-in-Some-clause-read : goal.returns-in-Some-clause-read
returns-in-Some-clause-read c =
    on_ok_weaker c.declare_alone.result (λ h before read own. (
    let one : c.args.count ≡ 1 = search rules in
    let rest = c.read_alone.new.reader.left in
    let again : c.duplicate-again.result.left ≡ c.args.reader.now.left = ap (λ (r : Unread). r.left) c.duplicate-again.ensures in
    let C : ℕ → List ℕ → Type 0 = λ n bytes. HasReadTypes before n bytes rest c.args.self.now c.declare_alone.new.self c.declare_alone.new.groups in
    let R : List ℕ → List ℕ → Type 0 = λ canonical bytes. ReadsAnyhow canonical bytes c.in-Some.ty rest in
    let alone : R c.deref.result.now c.args.reader.now.left = search rules in
    subst₂ C (sym one) again (h before rest read own (subst₂ R c.deref.ensures.value (sym again) alone)))) c.declare_alone.ensures.read

pub returns-in-None-clause-read : goal.returns-in-None-clause-read
returns-in-None-clause-read c =
    let same : c.read_alone.new.reader ≡ c.args.reader.now = c.in_ok-alone.ensures.unread c.in-None.is in
    on_ok_weaker c.declare_group.result (λ h before read own. (
    let C : Unread → Type 0 = λ r. HasReadTypes before c.args.count r.left c.declare_group.new.reader.left c.args.self.now c.declare_group.new.self c.declare_group.new.groups in
    subst C same (h before read own))) c.declare_group.ensures.read

pub returns-in-Some-clause-refused : goal.returns-in-Some-clause-refused
returns-in-Some-clause-refused c =
    let rest = c.read_alone.new.reader.left in
    let again : c.duplicate-again.result.left ≡ c.args.reader.now.left = ap (λ (r : Unread). r.left) c.duplicate-again.ensures in
    let R : List ℕ → List ℕ → Type 0 = λ canonical bytes. ReadsAnyhow canonical bytes c.in-Some.ty rest in
    let alone : R c.deref.result.now c.args.reader.now.left = search rules in
    if_err c.declare_alone.result _ _
    (λ e none short before h own. absurd (none short rest (subst₂ R c.deref.ensures.value (sym again) alone)))
    c.declare_alone.ensures.refused

pub returns-in-None-clause-refused : goal.returns-in-None-clause-refused
returns-in-None-clause-refused c =
    let same : c.read_alone.new.reader ≡ c.args.reader.now = c.in_ok-alone.ensures.unread c.in-None.is in
    if_err c.declare_group.result _ _
    (λ e none short before h own. (
    let C : Unread → Type 0 = λ r. HasNoRolled before c.args.count r.left c.args.self.now.canonical.items in
    subst C same (none short before h own)))
    c.declare_group.ensures.refused
