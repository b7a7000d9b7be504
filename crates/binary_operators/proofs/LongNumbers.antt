-- A byte more of a number of several bytes.
use Rattle.std.proofs.Common.{arith, ap, sym, ◌∙◌, ◌≡◌, ℕ, ◌+◌, ◌*◌, ◌-◌, ◌^◌, ◌<◌, ◌≤◌, List, ◌∷◌, Option, Some, None, if◌then◌else◌, nat_lt}
use Rattle.std.proofs.lemmas.Bool.{lt-ltb, le-ltb}
use Rattle.binary_operators.specs.Integers.{unsigned, biased, last_biased, above, with_low, with_rest}
use Rattle.binary_operators.proofs.Powers.{above_seven}

module _ (bits byte : ℕ) (rest : List ℕ) (long : 128 ≤ byte) (more : 7 < bits) where
  unsigned_goes_on : unsigned bits (byte ∷ rest) ≡ with_low (byte - 128) (unsigned (bits - 7) rest)
  unsigned_goes_on =
      ap (λ t. if t then (if nat_lt byte (2 ^ bits) then Some (byte, rest) else None) else (if nat_lt 7 bits then with_low (byte - 128) (unsigned (bits - 7) rest) else None)) (le-ltb byte 128 long)
      ∙ ap (λ t. if t then with_low (byte - 128) (unsigned (bits - 7) rest) else None) (lt-ltb 7 bits more)

  biased_goes_on : biased bits (byte ∷ rest) ≡ with_low (byte - 128) (biased (bits - 7) rest)
  biased_goes_on =
      ap (λ t. if t then with_rest rest (last_biased bits byte) else (if nat_lt 7 bits then with_low (byte - 128) (biased (bits - 7) rest) else None)) (le-ltb byte 128 long)
      ∙ ap (λ t. if t then with_low (byte - 128) (biased (bits - 7) rest) else None) (lt-ltb 7 bits more)

-- what is read so far, with this byte
module _ (bits shift low byte raised : ℕ) (bytes rest : List ℕ) (begins : bytes ≡ byte ∷ rest) (long : 128 ≤ byte) (more : 7 < bits - shift) (is : raised ≡ (byte - 128) * 2 ^ shift + low) where
  fewer : bits - shift - 7 ≡ bits - (shift + 7)
  fewer = omega arith

  pub unsigned_more : (o : Option (ℕ × List ℕ)) → o ≡ above shift low (unsigned (bits - shift) bytes) → o ≡ above (shift + 7) raised (unsigned (bits - (shift + 7)) rest)
  unsigned_more o e =
      e ∙ ap (λ bs. above shift low (unsigned (bits - shift) bs)) begins
      ∙ ap (λ x. above shift low x) (unsigned_goes_on (bits - shift) byte rest long more)
      ∙ above_seven shift low (byte - 128) (unsigned (bits - shift - 7) rest)
      ∙ ap (λ n. above (shift + 7) n (unsigned (bits - shift - 7) rest)) (sym is)
      ∙ ap (λ n. above (shift + 7) raised (unsigned n rest)) fewer

  pub biased_more : (o : Option (ℕ × List ℕ)) → o ≡ above shift low (biased (bits - shift) bytes) → o ≡ above (shift + 7) raised (biased (bits - (shift + 7)) rest)
  biased_more o e =
      e ∙ ap (λ bs. above shift low (biased (bits - shift) bs)) begins
      ∙ ap (λ x. above shift low x) (biased_goes_on (bits - shift) byte rest long more)
      ∙ above_seven shift low (byte - 128) (biased (bits - shift - 7) rest)
      ∙ ap (λ n. above (shift + 7) n (biased (bits - shift - 7) rest)) (sym is)
      ∙ ap (λ n. above (shift + 7) raised (biased n rest)) fewer
