-- One code alone is that of vector operators.
use Rattle.std.proofs.Common.{◌≡◌, ◌+◌, ◌-◌, ◌&&◌, ℕ, zero, suc, Bool, true, false, eqb, nat_lt, if◌then◌else◌, List, [], ◌∷◌, Option, Some, None, slice_get, refl, ap, arith}
use Rattle.std.proofs.lemmas.Bool.{and_parts, eqb-true}
use Rattle.binary_operators.specs.Forms.{from, forms}
use Rattle.binary_operators.specs.declared.forms.Form.{Form}
use Rattle.binary_operators.specs.declared.forms.Form.TheVariants.{Vector}

is_vector : Form → Bool
is_vector Vector = true
is_vector form = false

-- each form of vector operators among these stands at one place, where the first of them stands at another
only_at : ℕ → ℕ → List Form → Bool
only_at place k [] = true
only_at place k (form ∷ fs) = if is_vector form then eqb k place && only_at place (suc k) fs else only_at place (suc k) fs

in_front : (b x y : Bool) → b ≡ true → (if b then x && y else y) ≡ true → x ≡ true
in_front true x y is h = (and_parts x y h).0
in_front false x y is h = absurd cc

behind : (b x y : Bool) → (if b then x && y else y) ≡ true → y ≡ true
behind true x y h = (and_parts x y h).1
behind false x y h = h

stands_there : (place k n : ℕ) (fs : List Form) → only_at place k fs ≡ true → slice_get fs n ≡ Some Vector → k + n ≡ place
unfolding only_at is_vector
stands_there place k n [] only is = absurd cc
stands_there place k zero (form ∷ fs) only is =
    let same : form ≡ Vector = cc in
    let there = eqb-true k place (in_front (is_vector form) (eqb k place) (only_at place (suc k) fs) (ap is_vector same) only) in
    omega (arith, there)
stands_there place k (suc n) (form ∷ fs) only is =
    let there = stands_there place (suc k) n fs (behind (is_vector form) (eqb k place) (only_at place (suc k) fs) only) is in
    omega (arith, there)

of_else : {A : Type 0} → (b : Bool) (o : Option A) (a : A) → (if b then None else o) ≡ Some a → o ≡ Some a
of_else true o a h = absurd cc
of_else false o a h = h

pub vector_code : (code : ℕ) → from 0 forms code ≡ Some Vector → code ≡ 0xfd
unfolding forms only_at is_vector
vector_code code is =
    let there = stands_there 0xfd 0 (code - 0) forms refl (of_else (nat_lt code 0) (slice_get forms (code - 0)) Vector is) in
    omega (arith, there)
