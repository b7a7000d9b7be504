-- The indices of types over lists are small, since a reference can be made to each type.
use Rattle.std.proofs.Common.{◌≡◌, ℕ, ◌<◌, Option, Some, None, slice_get, option_map, is_some, refl, ap, arith}
use Rattle.std.proofs.lemmas.Bool.{and_parts, ltb-true}
use Rattle.validate_types.specs.declared.heap.TheConstants.PackedIndex.{LIMIT}
use Rattle.validate_resources.specs.declared.lists.FuncDecl.{FuncDecl}
use Rattle.validate_resources.specs.Context.{IsLawful}
use Rattle.validate_resources.specs.Lists.{Declared, context_of, type_id}

declared_small : (d : Declared) → IsLawful (context_of d) → (f t : ℕ) (o : Option FuncDecl) → slice_get d.functions f ≡ o → option_map (λ (x : FuncDecl). x.type_index) o ≡ Some t → t < LIMIT
declared_small d laws f t None is e = absurd cc
declared_small d laws f t (Some x) is e =
    let v = laws.functions f (type_id x.type_index) (ap (option_map (λ (y : FuncDecl). type_id y.type_index)) is) in
    let small : x.type_index < LIMIT = ltb-true x.type_index LIMIT (and_parts (is_some ((context_of d).type_of_id (type_id x.type_index))) _ v).1 in
    let same : x.type_index ≡ t = cc in
    omega (arith, small, same)

-- the index of a function's type
pub small_index : (d : Declared) → IsLawful (context_of d) → (f t : ℕ) → (context_of d).type_index_of f ≡ Some t → t < LIMIT
small_index d laws f t e = declared_small d laws f t (slice_get d.functions f) refl e
