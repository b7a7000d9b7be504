-- Proofs, which need no belief: the laws of the order on types.
use Rattle.std.specs.Prelude.{◌≡◌, ℕ, Bool, List, [], ◌∷◌, true, false, ◌&&◌, ◌||◌, not, slice_get, option_map, ◌==◌}
use Rattle.std.specs.Prelude.{Option, Some, None, refl}
use Rattle.std.specs.Bool.{beq}
use Rattle.std.specs.List.{list_all}
use Rattle.std.proofs.Common.{zero, suc, sym, ◌∙◌, subst, ap, ap₂, eqb-true, eq-eqb}
use Rattle.std.proofs.lemmas.Bool.{and_parts, and_from}
use Rattle.validate_types.specs.Abstract.{is_abstract_below}
use Rattle.validate_types.specs.Heap.{number_of}
use Rattle.validate_types.specs.declared.heap.AbstractHeapType.{AbstractHeapType}
use Rattle.validate_types.specs.declared.heap.AbstractHeapType.TheVariants.{Func, Extern, Any, None as NoAny}
use Rattle.validate_types.specs.declared.heap.AbstractHeapType.TheVariants.{NoExtern, NoFunc, Eq, Struct}
use Rattle.validate_types.specs.declared.heap.AbstractHeapType.TheVariants.{Array, I31, Exn, NoExn, Cont}
use Rattle.validate_types.specs.declared.heap.AbstractHeapType.TheVariants.{NoCont}
use Rattle.validate_types.specs.declared.heap.HeapType.{HeapType}
use Rattle.validate_types.specs.declared.heap.HeapType.TheVariants.{Abstract, Concrete, Exact}
use Rattle.validate_types.specs.declared.refs.RefType.{RefType}
use Rattle.validate_types.specs.declared.types.CompositeInnerType.{CompositeInnerType}
use Rattle.validate_types.specs.declared.types.CompositeInnerType.TheVariants.{Func as FuncOf}
use Rattle.validate_types.specs.declared.types.CompositeInnerType.TheVariants.{Array as ArrayOf}
use Rattle.validate_types.specs.declared.types.CompositeInnerType.TheVariants.{Struct as StructOf}
use Rattle.validate_types.specs.declared.types.CompositeInnerType.TheVariants.{Cont as ContOf}
use Rattle.validate_types.specs.declared.types.SubType.{SubType}
use Rattle.validate_types.specs.declared.types.ValType.{ValType}
use Rattle.validate_types.specs.declared.types.ValType.TheVariants.{I32, I64, F32, F64, V128, Ref}
use Rattle.validate_resources.specs.Context.{is_number_or_vector}
use Rattle.validate_resources.specs.Order.{is_shared_type, is_shared_at, is_heap_shared, have_supertypes_of_their_sort}
use Rattle.validate_resources.specs.Order.{is_same_kind, abstract_kind, kind_bottom}
use Rattle.validate_resources.specs.Order.{is_declared_below, is_below_declared, is_heap_below, is_ref_below}
use Rattle.validate_resources.specs.Order.{is_index_below, is_type_below}
use Rattle.validate_resources.specs.Lawful.Chains.{beq-equal, index-reflexive, index-transitive, index-sort, KeepsSort}

beq-reflexive : (a : Bool) → beq a a ≡ true
beq-reflexive true = refl
beq-reflexive false = refl

-- what passes for each element, passes for the one at a place
pub passes-at : {X : Type 0} (p : X → Bool) (i : ℕ) (xs : List X) (x : X) → list_all p xs ≡ true → slice_get xs i ≡ Some x → p x ≡ true
passes-at p i [] x h e = cc
passes-at p zero (y ∷ ys) x h e = let is : y ≡ x = cc in rw (← is) (and_parts (p y) _ h).0
passes-at p (suc i) (y ∷ ys) x h e = passes-at p i ys x (and_parts (p y) _ h).1 e

-- ---- abstract heap types, by going through all

abbrev all_abstract : List AbstractHeapType
all_abstract = Func ∷ Extern ∷ Any ∷ NoAny ∷ NoExtern ∷ NoFunc ∷ Eq ∷ Struct ∷ Array ∷ I31 ∷ Exn ∷ NoExn ∷ Cont ∷ NoCont ∷ []

abbrev place : AbstractHeapType → ℕ
place Func = 0
place Extern = 1
place Any = 2
place NoAny = 3
place NoExtern = 4
place NoFunc = 5
place Eq = 6
place Struct = 7
place Array = 8
place I31 = 9
place Exn = 10
place NoExn = 11
place Cont = 12
place NoCont = 13

placed : (a : AbstractHeapType) → slice_get all_abstract (place a) ≡ Some a
placed Func = refl
placed Extern = refl
placed Any = refl
placed NoAny = refl
placed NoExtern = refl
placed NoFunc = refl
placed Eq = refl
placed Struct = refl
placed Array = refl
placed I31 = refl
placed Exn = refl
placed NoExn = refl
placed Cont = refl
placed NoCont = refl

for_all : (p : AbstractHeapType → Bool) → list_all p all_abstract ≡ true → (a : AbstractHeapType) → p a ≡ true
for_all p h a = passes-at p (place a) all_abstract a h (placed a)

abbrev chain_test : AbstractHeapType → AbstractHeapType → AbstractHeapType → Bool
chain_test a b c = not (is_abstract_below a b && is_abstract_below b c) || is_abstract_below a c

chains_pass : (a b c : AbstractHeapType) → chain_test a b c ≡ true
chains_pass a b c =
    for_all (λ z. chain_test a b z) (for_all (λ y. list_all (λ z. chain_test a y z) all_abstract)
    (for_all (λ x. list_all (λ y. list_all (λ z. chain_test x y z) all_abstract) all_abstract) refl a) b) c

abstract-reflexive : (a : AbstractHeapType) → is_abstract_below a a ≡ true
abstract-reflexive a = for_all (λ x. is_abstract_below x x) refl a

chain-read : (x y : Bool) → x ≡ true → (not x || y) ≡ true → y ≡ true
chain-read true y h g = g
chain-read false y h g = cc

abstract-transitive : (a b c : AbstractHeapType) → is_abstract_below a b ≡ true → is_abstract_below b c ≡ true → is_abstract_below a c ≡ true
abstract-transitive a b c h k = chain-read (is_abstract_below a b && is_abstract_below b c) _ (and_from _ _ h k) (chains_pass a b c)

-- ---- heap types

pub heap-reflexive : (types : List SubType) (h : HeapType) → is_heap_below types h h ≡ true
heap-reflexive types (Abstract s a) = and_from _ _ (beq-reflexive s) (abstract-reflexive a)
heap-reflexive types (Concrete i) = index-reflexive types (number_of i)
heap-reflexive types (Exact i) = eq-eqb (number_of i) (number_of i) refl

-- ---- declared types

kind-same : (a b : CompositeInnerType) → is_same_kind a b ≡ true → abstract_kind a ≡ abstract_kind b
kind-same (FuncOf f) (FuncOf g) h = refl
kind-same (ArrayOf a) (ArrayOf b) h = refl
kind-same (StructOf s) (StructOf t) h = refl
kind-same (ContOf c) (ContOf d) h = refl
kind-same _ _ h = cc

bottom-same : (a b : CompositeInnerType) → is_same_kind a b ≡ true → kind_bottom a ≡ kind_bottom b
bottom-same (FuncOf f) (FuncOf g) h = refl
bottom-same (ArrayOf a) (ArrayOf b) h = refl
bottom-same (StructOf s) (StructOf t) h = refl
bottom-same (ContOf c) (ContOf d) h = refl
bottom-same _ _ h = cc

bottom-below : (a : CompositeInnerType) → is_abstract_below (kind_bottom a) (abstract_kind a) ≡ true
bottom-below (FuncOf f) = refl
bottom-below (ArrayOf a) = refl
bottom-below (StructOf s) = refl
bottom-below (ContOf c) = refl

kind-above : (a b : CompositeInnerType) → is_abstract_below (abstract_kind a) (kind_bottom b) ≡ false
kind-above (FuncOf f) (FuncOf g) = refl
kind-above (FuncOf f) (ArrayOf b) = refl
kind-above (FuncOf f) (StructOf t) = refl
kind-above (FuncOf f) (ContOf d) = refl
kind-above (ArrayOf a) (FuncOf g) = refl
kind-above (ArrayOf a) (ArrayOf b) = refl
kind-above (ArrayOf a) (StructOf t) = refl
kind-above (ArrayOf a) (ContOf d) = refl
kind-above (StructOf s) (FuncOf g) = refl
kind-above (StructOf s) (ArrayOf b) = refl
kind-above (StructOf s) (StructOf t) = refl
kind-above (StructOf s) (ContOf d) = refl
kind-above (ContOf c) (FuncOf g) = refl
kind-above (ContOf c) (ArrayOf b) = refl
kind-above (ContOf c) (StructOf t) = refl
kind-above (ContOf c) (ContOf d) = refl

-- what shows of a declared type, of the same kind and sharedness
shared-kept : KeepsSort is_shared_type
shared-kept s t h = beq-equal _ _ (and_parts (is_same_kind s.composite_type.inner t.composite_type.inner) _ h).1

declared-kept : (z : Bool) (b : AbstractHeapType) → KeepsSort (λ o. is_declared_below o z b)
declared-kept z b s t h =
    let p = and_parts (is_same_kind s.composite_type.inner t.composite_type.inner) _ h in
    ap₂ (λ x y. beq x z && is_abstract_below y b) (beq-equal _ _ p.1) (kind-same _ _ p.0)

below-kept : (z : Bool) (a : AbstractHeapType) → KeepsSort (is_below_declared z a)
below-kept z a s t h =
    let p = and_parts (is_same_kind s.composite_type.inner t.composite_type.inner) _ h in
    ap₂ (λ x y. beq z x && is_abstract_below a y) (beq-equal _ _ p.1) (bottom-same _ _ p.0)

-- the marks are the same
declared-shared : (o : Option SubType) (z : Bool) (b : AbstractHeapType) → is_declared_below o z b ≡ true → is_shared_type o ≡ z
declared-shared None z b h = cc
declared-shared (Some s) z b h = beq-equal _ _ (and_parts (beq s.composite_type.shared z) _ h).0

below-shared : (z : Bool) (a : AbstractHeapType) (o : Option SubType) → is_below_declared z a o ≡ true → z ≡ is_shared_type o
below-shared z a None h = cc
below-shared z a (Some s) h = beq-equal _ _ (and_parts (beq z s.composite_type.shared) _ h).0

pub heap-shared : (types : List SubType) → have_supertypes_of_their_sort types ≡ true → (h k : HeapType) → is_heap_below types h k ≡ true → is_heap_shared types h ≡ is_heap_shared types k
heap-shared types fit (Abstract s a) (Abstract z b) e = beq-equal s z (and_parts (beq s z) _ e).0
heap-shared types fit (Abstract s a) (Concrete j) e = below-shared s a (slice_get types (number_of j)) e
heap-shared types fit (Concrete i) (Abstract z b) e = declared-shared (slice_get types (number_of i)) z b e
heap-shared types fit (Concrete i) (Concrete j) e = index-sort is_shared_type shared-kept types (number_of i) (number_of j) fit e
heap-shared types fit (Concrete i) (Exact j) e = cc
heap-shared types fit (Abstract s a) (Exact j) e = below-shared s a (slice_get types (number_of j)) e
heap-shared types fit (Exact i) (Abstract z b) e = declared-shared (slice_get types (number_of i)) z b e
heap-shared types fit (Exact i) (Concrete j) e = index-sort is_shared_type shared-kept types (number_of i) (number_of j) fit e
heap-shared types fit (Exact i) (Exact j) e = ap (is_shared_at types) (eqb-true (number_of i) (number_of j) e)

-- ---- chains through abstract and declared types

-- the test of the marks and that of the abstract types, along a chain
abstract-through : (x y z : Bool) (a b c : AbstractHeapType) → (beq x y && is_abstract_below a b) ≡ true → (beq y z && is_abstract_below b c) ≡ true → (beq x z && is_abstract_below a c) ≡ true
abstract-through x y z a b c h k =
    let p = and_parts (beq x y) _ h in
    let q = and_parts (beq y z) _ k in
    and_from _ _ (subst (λ w. beq x w ≡ true) (beq-equal x y p.0 ∙ beq-equal y z q.0) (beq-reflexive x)) (abstract-transitive a b c p.1 q.1)

abstract-declared : (s z : Bool) (a b : AbstractHeapType) (o : Option SubType) → (beq s z && is_abstract_below a b) ≡ true → is_below_declared z b o ≡ true → is_below_declared s a o ≡ true
abstract-declared s z a b None h k = cc
abstract-declared s z a b (Some d) h k = abstract-through s z d.composite_type.shared a b (kind_bottom d.composite_type.inner) h k

declared-abstract : (o : Option SubType) (z w : Bool) (b c : AbstractHeapType) → is_declared_below o z b ≡ true → (beq z w && is_abstract_below b c) ≡ true → is_declared_below o w c ≡ true
declared-abstract None z w b c h k = cc
declared-abstract (Some d) z w b c h k = abstract-through d.composite_type.shared z w (abstract_kind d.composite_type.inner) b c h k

through-declared : (s w : Bool) (a c : AbstractHeapType) (o : Option SubType) → is_below_declared s a o ≡ true → is_declared_below o w c ≡ true → (beq s w && is_abstract_below a c) ≡ true
through-declared s w a c None h k = cc
through-declared s w a c (Some d) h k =
    abstract-through s d.composite_type.shared w a (abstract_kind d.composite_type.inner) c
    (abstract-through s d.composite_type.shared d.composite_type.shared a (kind_bottom d.composite_type.inner) (abstract_kind d.composite_type.inner) h
    (and_from _ _ (beq-reflexive d.composite_type.shared) (bottom-below d.composite_type.inner))) k

through-abstract : (o p : Option SubType) (z : Bool) (b : AbstractHeapType) → is_declared_below o z b ≡ true → is_below_declared z b p ≡ true → ⊥
through-abstract None p z b h k = cc
through-abstract (Some s) None z b h k = cc
through-abstract (Some s) (Some t) z b h k =
    let on = abstract-through s.composite_type.shared z t.composite_type.shared (abstract_kind s.composite_type.inner) b (kind_bottom t.composite_type.inner) h k in
    let off = kind-above s.composite_type.inner t.composite_type.inner in
    let holds = (and_parts (beq s.composite_type.shared t.composite_type.shared) _ on).1 in
    cc

pub heap-transitive : (types : List SubType) → have_supertypes_of_their_sort types ≡ true → (h k l : HeapType) → is_heap_below types h k ≡ true → is_heap_below types k l ≡ true → is_heap_below types h l ≡ true
heap-transitive types fit (Abstract s a) (Abstract z b) (Abstract w c) e f = abstract-through s z w a b c e f
heap-transitive types fit (Abstract s a) (Abstract z b) (Concrete l) e f = abstract-declared s z a b (slice_get types (number_of l)) e f
heap-transitive types fit (Abstract s a) (Concrete j) (Abstract w c) e f = through-declared s w a c (slice_get types (number_of j)) e f
heap-transitive types fit (Abstract s a) (Concrete j) (Concrete l) e f =
    sym (index-sort (is_below_declared s a) (below-kept s a) types (number_of j) (number_of l) fit f) ∙ e
heap-transitive types fit (Concrete i) (Abstract z b) (Abstract w c) e f = declared-abstract (slice_get types (number_of i)) z w b c e f
heap-transitive types fit (Concrete i) (Abstract z b) (Concrete l) e f =
    absurd (through-abstract (slice_get types (number_of i)) (slice_get types (number_of l)) z b e f)
heap-transitive types fit (Concrete i) (Concrete j) (Abstract w c) e f =
    index-sort (λ o. is_declared_below o w c) (declared-kept w c) types (number_of i) (number_of j) fit e ∙ f
heap-transitive types fit (Concrete i) (Concrete j) (Concrete l) e f = index-transitive types (number_of i) (number_of j) (number_of l) e f
heap-transitive types fit (Abstract s a) (Abstract z b) (Exact l) e f = abstract-declared s z a b (slice_get types (number_of l)) e f
heap-transitive types fit (Abstract s a) (Exact j) (Abstract w c) e f = through-declared s w a c (slice_get types (number_of j)) e f
heap-transitive types fit (Abstract s a) (Exact j) (Concrete l) e f =
    sym (index-sort (is_below_declared s a) (below-kept s a) types (number_of j) (number_of l) fit f) ∙ e
heap-transitive types fit (Abstract s a) (Exact j) (Exact l) e f =
    subst (λ n. is_below_declared s a (slice_get types n) ≡ true) (eqb-true (number_of j) (number_of l) f) e
heap-transitive types fit (Concrete i) (Abstract z b) (Exact l) e f =
    absurd (through-abstract (slice_get types (number_of i)) (slice_get types (number_of l)) z b e f)
heap-transitive types fit (Exact i) (Abstract z b) (Abstract w c) e f = declared-abstract (slice_get types (number_of i)) z w b c e f
heap-transitive types fit (Exact i) (Abstract z b) (Concrete l) e f =
    absurd (through-abstract (slice_get types (number_of i)) (slice_get types (number_of l)) z b e f)
heap-transitive types fit (Exact i) (Abstract z b) (Exact l) e f =
    absurd (through-abstract (slice_get types (number_of i)) (slice_get types (number_of l)) z b e f)
heap-transitive types fit (Exact i) (Concrete j) (Abstract w c) e f =
    index-sort (λ o. is_declared_below o w c) (declared-kept w c) types (number_of i) (number_of j) fit e ∙ f
heap-transitive types fit (Exact i) (Concrete j) (Concrete l) e f = index-transitive types (number_of i) (number_of j) (number_of l) e f
heap-transitive types fit (Exact i) (Exact j) l e f = same l f
  where
    here : number_of j ≡ number_of i
    here = sym (eqb-true (number_of i) (number_of j) e)

    same : (l : HeapType) → is_heap_below types (Exact j) l ≡ true → is_heap_below types (Exact i) l ≡ true
    same (Abstract w c) g = subst (λ n. is_declared_below (slice_get types n) w c ≡ true) here g
    same (Concrete k) g = subst (λ n. is_index_below types n (number_of k) ≡ true) here g
    same (Exact k) g = subst (λ n. (n == number_of k) ≡ true) here g
heap-transitive types fit h (Concrete j) (Exact l) e f = absurd (no_exact f)
  where
    no_exact : false ≡ true → ⊥
    no_exact g = cc
heap-transitive types fit (Concrete i) (Exact j) l e f = cc

-- ---- exact types

below-nofunc : (a : AbstractHeapType) → is_abstract_below a NoFunc ≡ true → NoFunc ≡ a
below-nofunc NoFunc h = refl
below-nofunc _ h = cc

below-none : (a : AbstractHeapType) → is_abstract_below a NoAny ≡ true → NoAny ≡ a
below-none NoAny h = refl
below-none _ h = cc

below-nocont : (a : AbstractHeapType) → is_abstract_below a NoCont ≡ true → NoCont ≡ a
below-nocont NoCont h = refl
below-nocont _ h = cc

-- below the bottom type of a kind lies that alone
below-bottom : (a : AbstractHeapType) (i : CompositeInnerType) → is_abstract_below a (kind_bottom i) ≡ true → kind_bottom i ≡ a
below-bottom a (FuncOf f) h = below-nofunc a h
below-bottom a (ArrayOf b) h = below-none a h
below-bottom a (StructOf s) h = below-none a h
below-bottom a (ContOf c) h = below-nocont a h

-- an abstract type below an exact one is the bottom type of its kind
pub bottom-below-exact : (s : Bool) (a : AbstractHeapType) (o : Option SubType) → is_below_declared s a o ≡ true → option_map (λ (d : SubType). kind_bottom d.composite_type.inner) o ≡ Some a
bottom-below-exact s a None h = cc
bottom-below-exact s a (Some d) h = ap Some (below-bottom a d.composite_type.inner (and_parts (beq s d.composite_type.shared) _ h).1)

-- ---- references

pub null-reflexive : (n : Bool) → (n || not n) ≡ true
null-reflexive true = refl
null-reflexive false = refl

null-transitive : (x y z : Bool) → (y || not x) ≡ true → (z || not y) ≡ true → (z || not x) ≡ true
null-transitive true true z h k = k
null-transitive true false z h k = cc
null-transitive false y true h k = refl
null-transitive false y false h k = refl

pub ref-reflexive : (types : List SubType) (r : RefType) → is_ref_below types r r ≡ true
ref-reflexive types r = and_from _ _ (heap-reflexive types r.heap_type) (null-reflexive r.nullable)

ref-transitive : (types : List SubType) → have_supertypes_of_their_sort types ≡ true → (r s t : RefType) → is_ref_below types r s ≡ true → is_ref_below types s t ≡ true → is_ref_below types r t ≡ true
ref-transitive types fit r s t e f =
    let p = and_parts (is_heap_below types r.heap_type s.heap_type) _ e in
    let q = and_parts (is_heap_below types s.heap_type t.heap_type) _ f in
    and_from _ _ (heap-transitive types fit r.heap_type s.heap_type t.heap_type p.0 q.0) (null-transitive r.nullable s.nullable t.nullable p.1 q.1)

-- ---- value types

pub type-reflexive : (types : List SubType) (t : ValType) → is_type_below types t t ≡ true
type-reflexive types I32 = refl
type-reflexive types I64 = refl
type-reflexive types F32 = refl
type-reflexive types F64 = refl
type-reflexive types V128 = refl
type-reflexive types (Ref r) = ref-reflexive types r

-- only a number type is below itself
pub number-below : (types : List SubType) (t u : ValType) → is_type_below types t u ≡ true → is_number_or_vector u ≡ true → t ≡ u
number-below types I32 I32 h k = refl
number-below types I64 I64 h k = refl
number-below types F32 F32 h k = refl
number-below types F64 F64 h k = refl
number-below types V128 V128 h k = refl
number-below types (Ref r) (Ref s) h k = cc
number-below types _ _ h k = cc

-- only a reference is below a reference
pub below-ref : (types : List SubType) (t : ValType) (s : RefType) → is_type_below types t (Ref s) ≡ true → (r : RefType) × (t ≡ Ref r) × (is_ref_below types r s ≡ true)
below-ref types (Ref r) s h = (r, refl, h)
below-ref types I32 s h = cc
below-ref types I64 s h = cc
below-ref types F32 s h = cc
below-ref types F64 s h = cc
below-ref types V128 s h = cc

below-number : (types : List SubType) (t u v : ValType) → is_number_or_vector v ≡ true → is_type_below types t u ≡ true → is_type_below types u v ≡ true → is_type_below types t v ≡ true
below-number types t u v n h k = subst (λ w. is_type_below types t w ≡ true) (number-below types u v k n) h

pub type-transitive : (types : List SubType) → have_supertypes_of_their_sort types ≡ true → (t u v : ValType) → is_type_below types t u ≡ true → is_type_below types u v ≡ true → is_type_below types t v ≡ true
type-transitive types fit t u (Ref v) h k =
    let (s, is, e) = below-ref types u v k in
    let (r, was, f) = below-ref types t s (subst (λ w. is_type_below types t w ≡ true) is h) in
    subst (λ w. is_type_below types w (Ref v) ≡ true) (sym was) (ref-transitive types fit r s v f e)
type-transitive types fit t u I32 h k = below-number types t u I32 refl h k
type-transitive types fit t u I64 h k = below-number types t u I64 refl h k
type-transitive types fit t u F32 h k = below-number types t u F32 refl h k
type-transitive types fit t u F64 h k = below-number types t u F64 refl h k
type-transitive types fit t u V128 h k = below-number types t u V128 refl h k
