-- Bytes that are a text, and bytes that are none.
use Rattle.std.proofs.Common.{◌≡◌, refl, ℕ, Bool, true, false, List}
use Rattle.std.specs.Str.{is_utf8, IsUtf8}
use Rattle.std.proofs.lemmas.Str.{IsUtf8-from_is_utf8, is_utf8-from_IsUtf8}

pub is_text : (bytes : List ℕ) → IsUtf8 bytes → is_utf8 bytes ≡ true
is_text bytes u = is_utf8-from_IsUtf8 bytes u

not_true : (b : Bool) → (b ≡ true → ⊥) → b ≡ false
not_true true h = absurd (h refl)
not_true false h = refl

pub is_no_text : (bytes : List ℕ) → (IsUtf8 bytes → ⊥) → is_utf8 bytes ≡ false
is_no_text bytes u = not_true (is_utf8 bytes) (λ h. u (IsUtf8-from_is_utf8 bytes h))
