-- The order on function types (WebAssembly core specification, "Matching: Function Types").
use Rattle.std.specs.Prelude.{◌≡◌, ℕ, Bool, true, false, ◌&&◌, List, [], ◌∷◌, Some, slice_get}
use Rattle.validate_types.specs.declared.types.ValType.{ValType}

-- as many, and each below its place (Specification, "Matching: Result Types")
abbrev pub is_each_below : (ValType → ValType → Bool) → List ValType → List ValType → Bool
is_each_below below [] [] = true
is_each_below below (t ∷ ts) (u ∷ us) = below t u && is_each_below below ts us
is_each_below below _ _ = false

-- what is taken the other way round, what is given in the order of value types
abbrev pub is_signature_below :
    (ValType → ValType → Bool) → List ValType → List ValType → List ValType → List ValType → Bool
is_signature_below below p1 r1 p2 r2 = is_each_below below p2 p1 && is_each_below below r1 r2

-- asked about the types at one place, a closure answers as `below` does
abbrev pub AnswersBy :
    (ValType → ValType → Bool → Type 0) → (ValType → ValType → Bool) → List ValType → List ValType → Type 0
AnswersBy Answers below ts us =
    (k : ℕ) (t u : ValType) (b : Bool) → slice_get ts k ≡ Some t → slice_get us k ≡ Some u → Answers t u b →
    b ≡ below t u
