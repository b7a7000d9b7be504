-- What stands behind the items that were there before.
use Rattle.std.proofs.Common.{ap, ◌≡◌, sym, refl, ℕ, List, ◌++◌, Option, Some, None}
use Rattle.binary_operators.proofs.Items.{with_front}

-- the items behind a front, and the bytes behind them, are what was read
pub behind_front : {A : Type 0} → (front : List A) (read : Option (List A × List ℕ)) (items : List A) (rest : List ℕ) → with_front front read ≡ Some (items, rest) → (behind : List A) × (read ≡ Some (behind, rest)) × (items ≡ front ++ behind)
behind_front front None items rest e = cc
behind_front front (Some r) items rest e =
    let p : (front ++ r.0, r.1) ≡ (items, rest) = cc in
    (r.0, ap (λ (q : List _ × List ℕ). Some (r.0, q.1)) p, sym (ap (λ (q : List _ × List ℕ). q.0) p))

pub none_behind : {A : Type 0} → (front : List A) (read : Option (List A × List ℕ)) → with_front front read ≡ None → read ≡ None
none_behind front None e = refl
none_behind front (Some r) e = cc
