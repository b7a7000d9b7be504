-- Vector operators (WebAssembly core specification, "Binary Format: Instructions", "Vector Instructions"). Each begins
-- with one prefix; what is behind it isn't read here.
use Rattle.std.specs.Prelude.{◌≡◌, ◌≢◌, ℕ, List, [], ◌∷◌, take}
use Rattle.binary_operators.specs.declared.error.Cause.TheVariants.{VectorOperator}
use Rattle.binary_operators.specs.declared.error.ReadError.{ReadError}

-- the bytes begin with the prefix of vector operators
abbrev pub BeginVector : List ℕ → Type 0
BeginVector bytes = take 1 bytes ≡ 0xfd ∷ []

-- it isn't a vector operator that wasn't read
abbrev pub IsNoVector : ReadError → Type 0
IsNoVector e = e.cause ≢ VectorOperator
