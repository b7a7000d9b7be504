-- Where the status is 0, the module was read, and is valid; where it is 4, something isn't covered.
use Rattle.std.proofs.Common.{◌≡◌, ◌≤◌, ℕ, List, subst, sym, ◌∙◌, inl, inr}
use Rattle.std.specs.Prelude.{◌⊎◌}
use Rattle.module_check.specs.Decoded.{AreNoValidModule}
use Rattle.module_check.specs.Unloaded.{AreInvalid, AreMalformed}
use Rattle.module_check.proofs.Faulty.{no_valid_invalid, no_valid_malformed}
use Rattle.module_rules.specs.Features.{of_bits}
use Rattle.module_rules.specs.declared.features.ModuleFeatures.{ModuleFeatures}
use Rattle.c_api.proofs.Answered.{few_before, four_says_no, not_before}
use Rattle.c_api.proofs.Bytes.{read_valid, read_no_valid, no_other, read_uncovered, read_malformed, read_invalid, read_too_large}
use Rattle.c_api.proofs.calls.validate.Goals as goal

pub returns-clause-valid : goal.returns-clause-valid
returns-clause-valid c = λ z.
    let status = sym c.status_of.ensures ∙ z in
    read_valid c.args.bytes.now c.args.features c.read-loaded.result c.read-loaded.ensures.loaded (c.check_read.ensures.read status) (c.check_read.ensures.valid status)

pub returns-clause-uncovered : goal.returns-clause-uncovered
returns-clause-uncovered c = λ four.
    elim (c.check_read.ensures.uncovered (sym c.status_of.ensures ∙ four)) [
      | inl before ↦ absurd (not_before c.new.result.status c.new.ensures.accepted before)
      | inr this ↦ read_uncovered c.args.bytes.now c.args.features c.read-loaded.result c.read-loaded.ensures.loaded c.read-loaded.ensures.uncovered this
    ]

pub returns-clause-too_large : goal.returns-clause-too_large
returns-clause-too_large c = λ seven.
    read_too_large c.args.bytes.now c.read-loaded.result c.read-loaded.ensures.too_large
    (c.check_read.ensures.too_large c.new.ensures.accepted (sym c.status_of.ensures ∙ seven))

pub returns-clause-malformed : goal.returns-clause-malformed
returns-clause-malformed c = λ two.
    read_malformed c.args.bytes.now c.args.features c.read-loaded.result c.read-loaded.ensures.loaded c.read-loaded.ensures.malformed
    (c.check_read.ensures.malformed c.new.ensures.accepted (sym c.status_of.ensures ∙ two))

pub returns-clause-invalid : goal.returns-clause-invalid
returns-clause-invalid c = λ one.
    read_invalid c.args.bytes.now c.args.features c.read-loaded.result c.read-loaded.ensures.loaded c.read-loaded.ensures.invalid
    (c.check_read.ensures.invalid c.new.ensures.accepted (sym c.status_of.ensures ∙ one))

refused_there : (features : ModuleFeatures) (bytes : List ℕ) (status : ℕ) → (status ≡ 1 → AreInvalid features bytes) → (status ≡ 2 → AreMalformed features bytes) → (status ≡ 1) ⊎ (status ≡ 2) → AreNoValidModule features bytes
refused_there features bytes status invalid malformed (inl one) = no_valid_invalid features bytes (invalid one)
refused_there features bytes status invalid malformed (inr two) = no_valid_malformed features bytes (malformed two)

pub returns-clause-refused : goal.returns-clause-refused
returns-clause-refused c =
    refused_there (of_bits c.args.features) c.args.bytes.now c.status_of.result (returns-clause-invalid c) (returns-clause-malformed c)

pub returns-clause-complete : goal.returns-clause-complete
returns-clause-complete c =
    let s = sym c.status_of.ensures in
    let before = c.new.ensures.accepted in
    let known = subst (λ (n : ℕ). (n ≤ 4) ⊎ (n ≡ 7)) s (c.check_read.ensures.known (few_before c.new.result.status before)) in
    no_other (of_bits c.args.features) c.args.bytes.now c.status_of.result
    (refused_there (of_bits c.args.features) c.args.bytes.now c.status_of.result (returns-clause-invalid c) (returns-clause-malformed c))
    (λ four.
    elim (c.check_read.ensures.uncovered (s ∙ four)) [
      | inl first ↦ absurd (not_before c.new.result.status before first)
      | inr found ↦
          read_no_valid c.args.bytes.now c.args.features c.read-loaded.result c.read-loaded.ensures.loaded c.read-loaded.ensures.unread
          (c.check_read.ensures.refused before (four_says_no c.check_read.new.out.status (s ∙ four))) found
    ])
    (returns-clause-too_large c) known
