-- The names of references.
use Rattle.std.proofs.Common.{◌≡◌, ◌≢◌, ◌<◌, ◌++◌, ℕ, Bool, true, false, List, [], ◌∷◌, Option, Some, IfSome, if◌then◌else◌, ap, get_or, inr, lit<, subst, sym, ◌∙◌}
use Rattle.std.proofs.Common.{None as NoType}
use Rattle.std.specs.Str.Pattern.{FindsTextPrefix, StripsPrefix}
use Rattle.validate_types.specs.Abstract.{heap_name}
use Rattle.validate_types.specs.declared.heap.AbstractHeapType.{AbstractHeapType}
use Rattle.validate_types.specs.declared.heap.AbstractHeapType.TheVariants.{Func, Extern, Any, None, NoExtern, NoFunc, Eq, Struct, Array, I31, Exn, NoExn, Cont, NoCont}
use Rattle.validate_types.specs.Refs.{reference, reference_to, fits_reference}
use Rattle.validate_types.specs.declared.heap.HeapType.{HeapType}
use Rattle.validate_types.specs.declared.refs.RefType.{RefType}
use Rattle.script_reader.specs.References.{prefix_of, IsHeapName, IsReferenceName}

-- a text is the prefix that was cut off, and the rest
stripped : (prefix word rest : List ℕ) → StripsPrefix (FindsTextPrefix prefix) word rest → word ≡ prefix ++ rest
stripped prefix word rest (n, fits, is, long) = fits.1 ∙ ap (λ r. prefix ++ r) (sym is)

-- a prefix and the name of a heap type name the reference to it, where one can be made
pub long_name : (nullable : Bool) (word name : List ℕ) (h : HeapType) (result : Option RefType) → StripsPrefix (FindsTextPrefix (prefix_of nullable)) word name → IsHeapName name h → result ≡ reference_to nullable h → IfSome result (λ r. IsReferenceName word r)
long_name nullable word name h result cut names made = subst (λ o. IfSome o (λ r. IsReferenceName word r)) (sym made) (at (fits_reference h))
  where
    at : (b : Bool) → IfSome (if b then Some (reference nullable h) else NoType) (λ r. IsReferenceName word r)
    at true = inr (name, stripped (prefix_of nullable) word name cut, names)
    at false = tt

-- the abstract heap types
abbrev pub abstract_types : List AbstractHeapType
abstract_types =
    Func ∷ Extern ∷ Any ∷ None ∷ NoExtern ∷ NoFunc ∷ Eq ∷ Struct ∷ Array ∷ I31 ∷ Exn ∷ NoExn ∷ Cont ∷ NoCont ∷ []

-- a name that none of them has is no name of one
pub none_named : (nullable : Bool) (name : List ℕ) → ((k : ℕ) → k < 14 → name ≢ heap_name nullable (get_or abstract_types k Func)) → (ty : AbstractHeapType) → name ≢ heap_name nullable ty
none_named nullable name others Func = others 0 (lit< tt)
none_named nullable name others Extern = others 1 (lit< tt)
none_named nullable name others Any = others 2 (lit< tt)
none_named nullable name others None = others 3 (lit< tt)
none_named nullable name others NoExtern = others 4 (lit< tt)
none_named nullable name others NoFunc = others 5 (lit< tt)
none_named nullable name others Eq = others 6 (lit< tt)
none_named nullable name others Struct = others 7 (lit< tt)
none_named nullable name others Array = others 8 (lit< tt)
none_named nullable name others I31 = others 9 (lit< tt)
none_named nullable name others Exn = others 10 (lit< tt)
none_named nullable name others NoExn = others 11 (lit< tt)
none_named nullable name others Cont = others 12 (lit< tt)
none_named nullable name others NoCont = others 13 (lit< tt)
