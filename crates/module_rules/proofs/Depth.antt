-- How many supertypes lie above a type: one more than above its supertype.
use Rattle.std.proofs.Common.{◌≡◌, ◌∙◌, ℕ, ◌-◌, ◌<◌, zero, suc, List, length, Some, None}
use Rattle.std.proofs.Common.{arith, ap, sym, nat_le}
use lib.Dec.{leb-suc-suc}
use Rattle.validate_types.specs.declared.types.SubType.{SubType}
use Rattle.validate_resources.specs.Lawful.Chains.{chain-step, chain-end}
use Rattle.validate_resources.specs.Order.{supertype_of}
use Rattle.module_rules.specs.Types.{subtyping_depth}

pub depth-step : (types : List SubType) (k u : ℕ) → supertype_of types k ≡ Some u → subtyping_depth types k ≡ suc (subtyping_depth types u)
depth-step types k u e = ap length (chain-step types k u e)

pub depth-end : (types : List SubType) (k : ℕ) → supertype_of types k ≡ None → subtyping_depth types k ≡ 0
depth-end types k e = ap length (chain-end types k e)

-- a type may have so many supertypes above it where its supertype may have one less
pub one_less : (types : List SubType) (k u n : ℕ) → supertype_of types k ≡ Some u → 0 < n → nat_le (subtyping_depth types u) (n - 1) ≡ nat_le (subtyping_depth types k) n
one_less types k u (suc n) e h =
    let d = depth-step types k u e in
    let p : suc n - 1 ≡ n = omega arith in
    ap (nat_le (subtyping_depth types u)) p ∙ sym (ap (λ m. nat_le m (suc n)) d ∙ leb-suc-suc (subtyping_depth types u) n)
one_less types k u zero e h = absurd (omega arith)
