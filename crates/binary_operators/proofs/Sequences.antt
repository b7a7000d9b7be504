-- An operator more is read.
use Rattle.std.proofs.Common.{ap, ◌∙◌, ◌≡◌, ℕ, List, [], ◌∷◌, ◌++◌, Some}
use Rattle.binary_operators.specs.Expressions.{AreOperators}
use Rattle.binary_operators.specs.Instructions.{operator}
use Rattle.binary_operators.specs.declared.types.CanonicalTypes.{CanonicalTypes}
use Rattle.validate_visit.specs.declared.op.Op.{Op}

pub one_more_operator : (types : CanonicalTypes) (bytes : List ℕ) (ops : List Op) (rest : List ℕ) (op : Op) (behind : List ℕ) → AreOperators types bytes ops rest → operator types rest ≡ Some (op, behind) → AreOperators types bytes (ops ++ op ∷ []) behind
one_more_operator types bytes [] rest op behind h e = (behind, ap (operator types) h ∙ e, λ i. behind)
one_more_operator types bytes (o ∷ ops) rest op behind h e =
    (h.0, h.1, one_more_operator types h.0 ops rest op behind h.2 e)
