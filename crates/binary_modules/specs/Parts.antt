-- Parts of a module that may be absent, that have a mark ahead of them, or of which the number of bytes is
-- written (WebAssembly core specification, "Binary Format: Conventions" and "Values", "Names").
use Rattle.std.specs.Prelude.{ℕ, Bool, true, false, List, [], ◌∷◌, length, take, drop, Option, Some, None}
use Rattle.std.specs.Prelude.{nat_eq, nat_lt, if◌then◌else◌}
use Rattle.std.specs.Str.{is_utf8}
use Rattle.binary_operators.specs.Integers.{unsigned}
use Rattle.binary_operators.specs.Values.{◌>>=◌}

-- what stands there only where a mark says so
abbrev pub if_so : {A : Type 0} → Bool → (List ℕ → Option (A × List ℕ)) → List ℕ → Option (Option A × List ℕ)
if_so true part bytes = do
  x ← part bytes
  Some (Some x.0, x.1)
if_so false part bytes = Some (None, bytes)

-- whether this code stands first, and the bytes behind it, of which there is one
abbrev pub marked : ℕ → List ℕ → Option (Bool × List ℕ)
marked code [] = None
marked code (b ∷ bytes) = if nat_eq b code then Some (true, bytes) else Some (false, b ∷ bytes)

-- what all the bytes are, where none is behind it
abbrev pub if_no_more : {A : Type 0} → A → List ℕ → Option A
if_no_more x [] = Some x
if_no_more x (b ∷ bytes) = None

abbrev pub whole : {A : Type 0} → Option (A × List ℕ) → Option A
whole None = None
whole (Some x) = if_no_more x.0 x.1

-- the bytes behind these, which stand first
abbrev pub bytes_behind : List ℕ → List ℕ → Option (List ℕ)
bytes_behind [] bytes = Some bytes
bytes_behind (code ∷ codes) [] = None
bytes_behind (code ∷ codes) (b ∷ bytes) = if nat_eq b code then bytes_behind codes bytes else None

-- so many bytes
abbrev pub so_many_bytes : ℕ → List ℕ → Option (List ℕ × List ℕ)
so_many_bytes count bytes =
    if nat_lt (length bytes) count then None else Some (take count bytes, drop count bytes)

-- how many bytes there are, and the bytes
unfoldable pub sized : List ℕ → Option (List ℕ × List ℕ)
sized bytes = do
  count ← unsigned 32 bytes
  so_many_bytes count.0 count.1

-- a name, whose bytes are UTF-8
unfoldable pub name : List ℕ → Option (List ℕ × List ℕ)
name bytes = do
  text ← sized bytes
  if is_utf8 text.0 then Some text else None
