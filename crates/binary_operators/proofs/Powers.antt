-- Powers of 2, and numbers by their bits.
use Rattle.std.proofs.Common.{arith, ap, sym, refl, ◌∙◌, ◌≡◌, ℕ, ◌+◌, ◌*◌, ◌-◌, ◌^◌, ◌<◌, ◌≤◌, List, Option, Some, None, suc}
use Rattle.std.proofs.Math.Nat.{mul-le-mul_right, suc-mul, mul_assoc, mul_comm, add-mul}
use Rattle.std.proofs.Math.Pow.{pow_mono}
use Rattle.std.proofs.lemmas.Nat.{pow-add}
use Rattle.binary_operators.specs.Integers.{above, with_low}

-- A number of 7 bits is one of at least as many.
pub low_below : (bits byte : ℕ) → byte < 128 → 7 ≤ bits → byte < 2 ^ bits
low_below bits byte low more = let e : 128 ≤ 2 ^ bits = pow_mono more in omega (arith, e)

-- A number of so many bits, with others above it.
pub raised_below : (high low shift width : ℕ) → high < 2 ^ width → low < 2 ^ shift → high * 2 ^ shift + low < 2 ^ (shift + width)
raised_below high low shift width h l =
    let e : suc high * 2 ^ shift ≤ 2 ^ width * 2 ^ shift = mul-le-mul_right (2 ^ shift) h in
    let f : suc high * 2 ^ shift ≡ high * 2 ^ shift + 2 ^ shift = suc-mul high (2 ^ shift) in
    let g : 2 ^ (shift + width) ≡ 2 ^ width * 2 ^ shift = pow-add 2 shift width ∙ mul_comm (2 ^ shift) (2 ^ width) in
    omega (arith, e, f, g)

pub raised_fits : (high low shift width : ℕ) → high < 2 ^ width → low < 2 ^ shift → shift + width ≤ 64 → high * 2 ^ shift + low < 2 ^ 64
raised_fits high low shift width h l room =
    let e = raised_below high low shift width h l in
    let f : 2 ^ (shift + width) ≤ 2 ^ 64 = pow_mono room in
    omega (arith, e, f)

-- Nothing below is the number itself.
pub above_none : (o : Option (ℕ × List ℕ)) → o ≡ above 0 0 o
above_none None = refl
above_none (Some high) = ap (λ n. Some (n, high.1)) (omega arith)

-- Seven bits more below.
pub above_seven : (shift low byte : ℕ) (o : Option (ℕ × List ℕ)) → above shift low (with_low byte o) ≡ above (shift + 7) (byte * 2 ^ shift + low) o
above_seven shift low byte None = refl
above_seven shift low byte (Some high) =
    let p : 2 ^ (shift + 7) ≡ 2 ^ shift * 128 = pow-add 2 shift 7 in
    let e : (high.0 * 128 + byte) * 2 ^ shift ≡ high.0 * 128 * 2 ^ shift + byte * 2 ^ shift = add-mul (high.0 * 128) byte (2 ^ shift) in
    let f : high.0 * 128 * 2 ^ shift ≡ high.0 * (128 * 2 ^ shift) = mul_assoc high.0 128 (2 ^ shift) in
    let g : high.0 * (128 * 2 ^ shift) ≡ high.0 * 2 ^ (shift + 7) = ap (λ n. high.0 * n) (mul_comm 128 (2 ^ shift) ∙ sym p) in
    ap (λ n. Some (n, high.1)) (omega (arith, e, f, g))
