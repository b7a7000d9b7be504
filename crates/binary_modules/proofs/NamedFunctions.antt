-- An operator more of a constant expression is read, or can't be.
use Rattle.std.proofs.Common.{ap, arith, sym, ◌∙◌, ◌≡◌, refl, ℕ, suc, ◌+◌, ◌-◌, ◌<◌, List, [], ◌++◌, append_assoc, Option, Some, None}
use Rattle.std.specs.Option.{option_and_then}
use Rattle.binary_operators.proofs.Items.{with_front}
use Rattle.binary_operators.specs.declared.types.CanonicalTypes.{CanonicalTypes}
use Rattle.validate_visit.specs.declared.op.Op.{Op}
use Rattle.binary_modules.specs.Initializers.{piece, depth_behind, named, or_end, named_functions}

abbrev behind_op : ℕ → CanonicalTypes → ℕ → Option Op × List ℕ → Option (List ℕ × List ℕ)
behind_op most types depth op =
    option_and_then {U = List ℕ × List ℕ} (λ (others : List ℕ × List ℕ). Some (named op.0 ++ others.0, others.1))
    (or_end (depth_behind depth op.0) (λ behind. named_functions most types behind op.1) op.1)

-- a front that is longer by what the operator names
longer : (front names : List ℕ) (others : Option (List ℕ × List ℕ)) → with_front front (option_and_then {U = List ℕ × List ℕ} (λ (o : List ℕ × List ℕ). Some (names ++ o.0, o.1)) others) ≡ with_front (front ++ names) others
longer front names None = refl
longer front names (Some o) = ap (λ l. Some (l, o.1)) (sym (append_assoc front names o.0))

at_op : (count i : ℕ) (types : CanonicalTypes) (depth : ℕ) (bytes : List ℕ) (op : Option Op) (rest : List ℕ) → i < count → piece types bytes ≡ Some (op, rest) → named_functions (count - i) types depth bytes ≡ behind_op (count - (i + 1)) types depth (op, rest)
at_op count i types depth bytes op rest lt e =
    let k : count - i ≡ suc (count - (i + 1)) = omega arith in
    ap (λ n. named_functions n types depth bytes) k
    ∙ ap (λ o. option_and_then (behind_op (count - (i + 1)) types depth) o) e

pub op_more : (count i : ℕ) (types : CanonicalTypes) (depth : ℕ) (bytes : List ℕ) (op : Option Op) (rest : List ℕ) (behind : ℕ) (front : List ℕ) → i < count → piece types bytes ≡ Some (op, rest) → Some behind ≡ depth_behind depth op → with_front front (named_functions (count - i) types depth bytes) ≡ with_front (front ++ named op) (named_functions (count - (i + 1)) types behind rest)
op_more count i types depth bytes op rest behind front lt e d =
    let others = λ (o : Option ℕ). option_and_then {U = List ℕ × List ℕ} (λ (l : List ℕ × List ℕ). Some (named op ++ l.0, l.1)) (or_end o (λ b. named_functions (count - (i + 1)) types b rest) rest) in
    ap (with_front front) (at_op count i types depth bytes op rest lt e ∙ ap others (sym d))
    ∙ longer front (named op) (named_functions (count - (i + 1)) types behind rest)

pub op_last : (count i : ℕ) (types : CanonicalTypes) (depth : ℕ) (bytes : List ℕ) (op : Option Op) (rest : List ℕ) (front : List ℕ) → i < count → piece types bytes ≡ Some (op, rest) → None ≡ depth_behind depth op → with_front front (named_functions (count - i) types depth bytes) ≡ Some ((front ++ named op) ++ [], rest)
op_last count i types depth bytes op rest front lt e d =
    let others = λ (o : Option ℕ). option_and_then {U = List ℕ × List ℕ} (λ (l : List ℕ × List ℕ). Some (named op ++ l.0, l.1)) (or_end o (λ b. named_functions (count - (i + 1)) types b rest) rest) in
    ap (with_front front) (at_op count i types depth bytes op rest lt e ∙ ap others (sym d))
    ∙ longer front (named op) (Some ([], rest))

-- where the next operator can't be read, neither can the others
pub op_none : (count i : ℕ) (types : CanonicalTypes) (depth : ℕ) (bytes front : List ℕ) → i < count → piece types bytes ≡ None → with_front front (named_functions (count - i) types depth bytes) ≡ None
op_none count i types depth bytes front lt e =
    let k : count - i ≡ suc (count - (i + 1)) = omega arith in
    ap (λ n. with_front front (named_functions n types depth bytes)) k
    ∙ ap (λ o. with_front front (option_and_then (behind_op (count - (i + 1)) types depth) o)) e
