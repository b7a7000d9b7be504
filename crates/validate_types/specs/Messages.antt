-- The text of a message, and whether it says that memory was wanting (the crate's own).
use Rattle.std.specs.Prelude.{ℕ, List, Bool, true, false, codes}
use Rattle.std.specs.String.{string_bytes}
use Rattle.validate_types.specs.declared.error.Message.{Message}
use Rattle.validate_types.specs.declared.error.Message.TheVariants.{Fixed, Owned, OutOfMemory}

abbrev pub text_of : Message → List ℕ
text_of (Fixed t) = t.now
text_of (Owned t) = string_bytes t
text_of OutOfMemory = codes "out of memory"

abbrev pub wants_memory : Message → Bool
wants_memory OutOfMemory = true
wants_memory _ = false
