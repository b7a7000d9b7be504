-- What a status says of a module in a handle, by what there is to check.
use Rattle.std.proofs.Common.{◌≡◌, ◌≢◌, ◌≤◌, ℕ, false, Option, None, Some, inl, inr, refl, sym, ◌∙◌, subst, arith}
use Rattle.std.specs.Prelude.{◌⊎◌, ◌↔◌, is_some, IfSome, OnSome}
use Rattle.module_check.proofs.Begun.{none_or_some}
use Rattle.module_check.specs.FaultyModule.{HasInvalid, HasMalformed, IsMalformedFunction, IsRefusedFunction}
use Rattle.module_check.specs.Items.{item_count}
use Rattle.module_check.specs.Loaded.{IsAcceptedFunction, IsAcceptedModule, IsSafeFunction, IsValid}
use Rattle.module_check.specs.UncoveredModule.{HasUncovered, IsUncoveredFunction}
use Rattle.module_check.specs.Verdicts.{Reports, SaysNo, total}
use Rattle.module_check.specs.declared.loaded.LoadedModule.{LoadedModule}
use Rattle.module_check.specs.declared.module_verdict.ModuleVerdict.{ModuleVerdict}
use Rattle.module_check.specs.declared.verdict.Item.TheVariants.{Function as OfFunction}
use Rattle.c_api.specs.Answers.{BodyAnswer, ModuleAnswer, NextAnswer}
use Rattle.c_api.specs.Calls.{OnWhole, OfWhole, OnHeld, OnModule, OfModule, HasNoModule, HasNoBody, IsDeclared}
use Rattle.c_api.specs.Handle.{MaybeKept}
use Rattle.c_api.specs.Items.{AreSafeFrom, IsReported}
use Rattle.c_api.specs.Modules.{module_of}
use Rattle.c_api.specs.declared.kept.Kept.TheVariants.{Module, Function}
use Rattle.c_api.specs.declared.shared.HeldModule.{HeldModule}
use Rattle.c_api.specs.declared.shared.HeldModule.TheVariants.{Whole, Declared}
use Rattle.c_api.proofs.Answered.{apart, not_both as not_both_marks, not_zero, not_three}

on_held : (o : MaybeKept) (h : HeldModule) → OnHeld o (λ i. i ≡ h) → (P : HeldModule → Type 0) → P h → OnHeld o P
on_held None h is P p = absurd is
on_held (Some (Module s)) h is P p = subst P (sym is) p
on_held (Some (Function f)) h is P p = absurd is

of_held : (o : MaybeKept) (h : HeldModule) → OnHeld o (λ i. i ≡ h) → (P : HeldModule → Type 0) → OnHeld o P → P h
of_held None h is P p = absurd is
of_held (Some (Module s)) h is P p = subst P is p
of_held (Some (Function f)) h is P p = absurd is

of_whole : (o : MaybeKept) (m : LoadedModule) → OnHeld o (λ i. i ≡ Whole m) → (P : LoadedModule → Type 0) → P m → OfModule o P
of_whole None m is P p = absurd is
of_whole (Some (Module s)) m is P p = subst (λ h. OfWhole h P) (sym is) p
of_whole (Some (Function f)) m is P p = absurd is

no_bodies : (h : HeldModule) → IsDeclared h → (function : ℕ) → HasNoBody h function
no_bodies (Whole m) is function = absurd is
no_bodies (Declared d) is function = tt

no_body : (o : MaybeKept) → OnHeld o IsDeclared → (function : ℕ) → OnHeld o (λ h. HasNoBody h function)
no_body None is function = absurd is
no_body (Some (Module s)) is function = no_bodies (module_of s) is function
no_body (Some (Function f)) is function = absurd is

of_no_bodies : (h : HeldModule) → IsDeclared h → (P : LoadedModule → Type 0) → OfWhole h P
of_no_bodies (Whole m) is P = absurd is
of_no_bodies (Declared d) is P = tt

of_declared : (o : MaybeKept) → OnHeld o IsDeclared → (P : LoadedModule → Type 0) → OfModule o P
of_declared None is P = absurd is
of_declared (Some (Module s)) is P = of_no_bodies (module_of s) is P
of_declared (Some (Function f)) is P = absurd is

of_none : (o : MaybeKept) → HasNoModule o → (P : LoadedModule → Type 0) → OfModule o P
of_none None none P = tt
of_none (Some (Module s)) none P = absurd none
of_none (Some (Function f)) none P = tt

not_both : (o : MaybeKept) → HasNoModule o → (P : HeldModule → Type 0) → OnHeld o P → ⊥
not_both None none P p = p
not_both (Some (Module s)) none P p = none
not_both (Some (Function f)) none P p = p

-- where there is no body, none is accepted
pub not_accepted : (m : LoadedModule) (function : ℕ) → HasNoBody (Whole m) function → ¬ IsAcceptedFunction m function
not_accepted m function none accepted = none_or_some accepted.body (sym (none accepted.is_body.is_own) ∙ accepted.is_body.is_body)

-- it has none, or has one, which says that it is its own
pub has_none : {B : Type 0} → (r : Option B) (P : B → Type 0) (own none : Type 0) → IfSome r P → OnSome r own → (r ≡ None → own → none) → ((b : B) → P b → none → ⊥) → (is_some r ≡ false ↔ (own → none))
has_none None P own none found is_own missing other = (λ _. missing refl, λ _. refl)
has_none (Some b) P own none found is_own missing other = (λ e. absurd (not_both_marks e), λ h. absurd (other b found (h is_own)))

says_no : (s : ℕ) → (s ≡ 1) ⊎ (s ≡ 2) → SaysNo s
says_no s d = (λ z. not_zero s z d, λ z. not_three s z d)

other_than : (s n : ℕ) → s ≡ n → n ≢ 1 → n ≢ 2 → (s ≡ 1) ⊎ (s ≡ 2) → ⊥
other_than s n is a b d = elim d [ inl e ↦ a (sym is ∙ e) | inr e ↦ b (sym is ∙ e) ]

-- none is past those that are known
beyond_four : (s : ℕ) → s ≡ 5 → s ≤ 4 → ⊥
beyond_four s e l = omega (arith, e, l)

beyond_four_6 : (s : ℕ) → s ≡ 6 → s ≤ 4 → ⊥
beyond_four_6 s e l = omega (arith, e, l)

beyond_five : (s : ℕ) → s ≡ 6 → s ≤ 5 → ⊥
beyond_five s e l = omega (arith, e, l)

up_to_four : (s : ℕ) → s ≤ 4 → s ≤ 6
up_to_four s l = omega (arith, l)

up_to_five : (s : ℕ) → s ≤ 5 → s ≤ 6
up_to_five s l = omega (arith, l)

five_known : (s : ℕ) → s ≡ 5 → s ≤ 6
five_known s e = omega (arith, e)

six_known : (s : ℕ) → s ≡ 6 → s ≤ 6
six_known s e = omega (arith, e)

module _ (o : MaybeKept) (s : ℕ) (v : ModuleVerdict) where
  module _ (m : LoadedModule) (is : OnHeld o (λ h. h ≡ Whole m)) where
    on_whole : (P : LoadedModule → Type 0) → P m → OnModule o P
    on_whole P p = on_held o (Whole m) is (λ h. OnWhole h P) p

    has_bodies : OnHeld o IsDeclared → ⊥
    has_bodies d = of_held o (Whole m) is IsDeclared d

    has_module : HasNoModule o → ⊥
    has_module none = not_both o none (λ h. h ≡ Whole m) is

    pub body_checked : (function : ℕ) → (s ≡ 0 → IsSafeFunction m function) → (SaysNo s → ¬ IsAcceptedFunction m function) → (s ≡ 1 → IsRefusedFunction m function v.offset) → (s ≡ 2 → IsMalformedFunction m function) → (s ≡ 4 → IsUncoveredFunction m function) → (s ≢ 0 → Reports (Some (OfFunction function)) v) → (s ≡ 5 ↔ HasNoBody (Whole m) function) → s ≤ 5 → BodyAnswer o function s v
    body_checked function safe refused invalid malformed uncovered reported missing known = record {
      safe = λ z. on_whole (λ n. IsSafeFunction n function) (safe z);
      refused = λ d. on_whole (λ n. ¬ IsAcceptedFunction n function) (refused (says_no s d));
      invalid = λ one. on_whole (λ n. IsRefusedFunction n function v.offset) (invalid one);
      malformed = λ two. on_whole (λ n. IsMalformedFunction n function) (malformed two);
      uncovered = λ four. on_whole (λ n. IsUncoveredFunction n function) (uncovered four);
      reported = λ other _. reported other;
      missing = (λ five. on_held o (Whole m) is (λ h. HasNoBody h function) (missing.0 five), λ none. missing.1 (of_held o (Whole m) is (λ h. HasNoBody h function) none));
      none = (λ six. absurd (beyond_five s six known), λ none. absurd (has_module none));
      known = up_to_five s known;
    }

    pub module_checked : (s ≡ 0 → IsValid m) → (SaysNo s → ¬ IsAcceptedModule m) → (s ≡ 1 → HasInvalid m) → (s ≡ 2 → HasMalformed m) → (s ≡ 4 → HasUncovered m) → (s ≢ 3 → total v ≡ item_count m) → s ≤ 4 → ModuleAnswer o s v
    module_checked valid refused invalid malformed uncovered counted known = record {
      valid = λ z. on_whole IsValid (valid z);
      refused = λ d. on_whole (λ n. ¬ IsAcceptedModule n) (refused (says_no s d));
      invalid = λ one. on_whole HasInvalid (invalid one);
      malformed = λ two. on_whole HasMalformed (malformed two);
      uncovered = λ four. on_whole HasUncovered (uncovered four);
      counted = λ enough. of_whole o m is (λ n. total v ≡ item_count n) (counted enough);
      missing = (λ five. absurd (beyond_four s five known), λ none. absurd (has_bodies none));
      none = (λ six. absurd (beyond_four_6 s six known), λ none. absurd (has_module none));
      known = up_to_four s known;
    }

    pub next_checked : (start end : ℕ) → (s ≡ 0 → AreSafeFrom m start) → (s ≢ 0 → IsReported m start end v) → (s ≡ 0 → end ≡ start) → s ≤ 4 → NextAnswer o start end s v
    next_checked start end rest reported unmoved known = record {
      rest = λ z. on_whole (λ n. AreSafeFrom n start) (rest z);
      reported = λ other. of_whole o m is (λ n. IsReported n start end v) (reported other);
      unmoved = λ d. elim d [ inl z ↦ unmoved z | inr e ↦ elim e [ inl five ↦ absurd (beyond_four s five known) | inr six ↦ absurd (beyond_four_6 s six known) ] ];
      missing = (λ five. absurd (beyond_four s five known), λ none. absurd (has_bodies none));
      none = (λ six. absurd (beyond_four_6 s six known), λ none. absurd (has_module none));
      known = up_to_four s known;
    }

  module _ (is : OnHeld o IsDeclared) (five : s ≡ 5) where
    has_one : HasNoModule o → ⊥
    has_one none = not_both o none IsDeclared is

    neither : (s ≡ 1) ⊎ (s ≡ 2) → ⊥
    neither = other_than s 5 five (λ e. apart e refl refl) (λ e. apart e refl refl)

    pub body_missing : (function : ℕ) → Reports (Some (OfFunction function)) v → BodyAnswer o function s v
    body_missing function reported = record {
      safe = λ z. absurd (apart z five refl);
      refused = λ d. absurd (neither d);
      invalid = λ one. absurd (apart one five refl);
      malformed = λ two. absurd (apart two five refl);
      uncovered = λ four. absurd (apart four five refl);
      reported = λ _ _. reported;
      missing = (λ _. no_body o is function, λ _. five);
      none = (λ six. absurd (apart six five refl), λ none. absurd (has_one none));
      known = five_known s five;
    }

    pub bodies_missing : ModuleAnswer o s v
    bodies_missing = record {
      valid = λ z. absurd (apart z five refl);
      refused = λ d. absurd (neither d);
      invalid = λ one. absurd (apart one five refl);
      malformed = λ two. absurd (apart two five refl);
      uncovered = λ four. absurd (apart four five refl);
      counted = λ _. of_declared o is (λ m. total v ≡ item_count m);
      missing = (λ _. is, λ _. five);
      none = (λ six. absurd (apart six five refl), λ none. absurd (has_one none));
      known = five_known s five;
    }

    pub rest_missing : (start end : ℕ) → end ≡ start → NextAnswer o start end s v
    rest_missing start end same = record {
      rest = λ z. absurd (apart z five refl);
      reported = λ _. of_declared o is (λ m. IsReported m start end v);
      unmoved = λ _. same;
      missing = (λ _. is, λ _. five);
      none = (λ six. absurd (apart six five refl), λ none. absurd (has_one none));
      known = five_known s five;
    }

  module _ (is : HasNoModule o) (six : s ≡ 6) where
    neither_there : (s ≡ 1) ⊎ (s ≡ 2) → ⊥
    neither_there = other_than s 6 six (λ e. apart e refl refl) (λ e. apart e refl refl)

    pub no_module_of_body : (function : ℕ) → BodyAnswer o function s v
    no_module_of_body function = record {
      safe = λ z. absurd (apart z six refl);
      refused = λ d. absurd (neither_there d);
      invalid = λ one. absurd (apart one six refl);
      malformed = λ two. absurd (apart two six refl);
      uncovered = λ four. absurd (apart four six refl);
      reported = λ _ other. absurd (other six);
      missing = (λ five. absurd (apart five six refl), λ none. absurd (not_both o is (λ h. HasNoBody h function) none));
      none = (λ _. is, λ _. six);
      known = six_known s six;
    }

    pub no_module : ModuleAnswer o s v
    no_module = record {
      valid = λ z. absurd (apart z six refl);
      refused = λ d. absurd (neither_there d);
      invalid = λ one. absurd (apart one six refl);
      malformed = λ two. absurd (apart two six refl);
      uncovered = λ four. absurd (apart four six refl);
      counted = λ _. of_none o is (λ m. total v ≡ item_count m);
      missing = (λ five. absurd (apart five six refl), λ none. absurd (not_both o is IsDeclared none));
      none = (λ _. is, λ _. six);
      known = six_known s six;
    }

    pub no_rest : (start end : ℕ) → end ≡ start → NextAnswer o start end s v
    no_rest start end same = record {
      rest = λ z. absurd (apart z six refl);
      reported = λ _. of_none o is (λ m. IsReported m start end v);
      unmoved = λ _. same;
      missing = (λ five. absurd (apart five six refl), λ none. absurd (not_both o is IsDeclared none));
      none = (λ _. is, λ _. six);
      known = six_known s six;
    }
