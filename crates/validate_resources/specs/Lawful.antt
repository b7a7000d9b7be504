-- Proofs, which need no belief: lists of a module keep the laws.
pub mod Chains
pub mod Matching
pub mod Forms
use Rattle.std.specs.Prelude.{◌≡◌, ℕ, ◌≤◌, Bool, true, false, ◌&&◌, ◌||◌, not, nat_le, nat_lt, length, slice_get}
use Rattle.std.specs.Prelude.{option_map, option_and_then, Option, Some, None, refl, if◌then◌else◌}
use Rattle.std.specs.List.{list_all}
use Rattle.std.proofs.Common.{sym, ap, ◌∙◌, subst, leb-true, eqb-true}
use Rattle.std.proofs.lemmas.Bool.{and_parts, and_from, or_right}
use Rattle.std.proofs.lemmas.Option.{cond_some}
use Rattle.validate_types.specs.Abstract.{abstract_top}
use Rattle.validate_types.specs.Features.{is_type_enabled}
use Rattle.validate_types.specs.Heap.{number_of}
use Rattle.validate_types.specs.Refs.{reference}
use Rattle.validate_types.specs.Types.{Signature}
use Rattle.validate_types.specs.declared.features.WasmFeatures.{WasmFeatures}
use Rattle.validate_types.specs.declared.heap.CoreTypeId.{CoreTypeId}
use Rattle.validate_types.specs.declared.heap.HeapType.{HeapType}
use Rattle.validate_types.specs.declared.heap.HeapType.TheVariants.{Abstract, Concrete, Exact}
use Rattle.validate_types.specs.declared.heap.UnpackedIndex.{UnpackedIndex}
use Rattle.validate_types.specs.declared.heap.UnpackedIndex.TheVariants.{Module, Id}
use Rattle.validate_types.specs.declared.refs.RefType.{RefType}
use Rattle.validate_types.specs.declared.types.SubType.{SubType}
use Rattle.validate_types.specs.declared.types.ValType.{ValType}
use Rattle.validate_types.specs.declared.types.ValType.TheVariants.{Ref}
use Rattle.validate_resources.specs.declared.lists.FuncDecl.{FuncDecl}
use Rattle.validate_resources.specs.declared.lists.TheConstants.{MAX_TYPES}
use Rattle.validate_resources.specs.Context.{IsLawful, IsBelowReference, IsTop, IsValidType, IsBelowExact, IsCheckedIndex, type_named}
use Rattle.validate_resources.specs.Context.{Valid, AllValid, is_valid_index, is_valid_heap, signature_of}
use Rattle.validate_resources.specs.Indices.{is_id, is_known, heap_indices_pass, ref_indices_pass, type_indices_pass, table_indices_pass}
use Rattle.validate_resources.specs.Indices.{global_indices_pass, sub_indices_pass, heap_with_id, ref_with_id, type_with_id, canonical_heap}
use Rattle.validate_resources.specs.Indices.{index_with_id}
use Rattle.validate_resources.specs.Order.{is_heap_below, have_supertypes_of_their_sort, is_type_below, heap_top, declared_top, kind_bottom}
use Rattle.validate_resources.specs.Order.{is_heap_shared, is_shared_at}
use Rattle.validate_resources.specs.Lists.{Declared, may_be_looked_up, is_func_type, continues_function, have_func_types, has_fitting_descriptor, list_indices_pass, context_of, tag_signature}
use Rattle.validate_resources.specs.Lists.{is_valid_below, canonical_under, type_id}
use Rattle.validate_resources.specs.Lawful.Matching.{passes-at, heap-shared, heap-reflexive, null-reflexive, bottom-below-exact, ref-reflexive, type-reflexive}
use Rattle.validate_resources.specs.Lawful.Matching.{type-transitive, number-below, below-ref}
use Rattle.validate_resources.specs.Lawful.Forms.{index-valid, heap-valid, type-valid, type-is-valid}
use Rattle.validate_resources.specs.Lawful.Forms.{heap-ids, type-ids, known-types}

-- a type below another: both are valid, and the one is below the other
record Below (d : Declared) (t u : ValType) : Type 0 where
  low : type_indices_pass (is_id (length d.types)) t ≡ true
  high : type_indices_pass (is_id (length d.types)) u ≡ true
  order : is_type_below d.types t u ≡ true

parts : (d : Declared) (t u : ValType) → is_valid_below d.types t u ≡ true → Below d t u
parts d t u h =
    let p = and_parts (type_indices_pass (is_id (length d.types)) t && type_indices_pass (is_id (length d.types)) u) _ h in
    let q = and_parts (type_indices_pass (is_id (length d.types)) t) _ p.0 in
    record { low = q.0; high = q.1; order = p.1 }

from : (d : Declared) (t u : ValType) → type_indices_pass (is_id (length d.types)) t ≡ true → type_indices_pass (is_id (length d.types)) u ≡ true → is_type_below d.types t u ≡ true → is_valid_below d.types t u ≡ true
from d t u h k e = and_from _ _ (and_from _ _ h k) e

-- what a list that is a module says
record Facts (d : Declared) : Type 0 where
  small : length d.types ≤ MAX_TYPES
  types : list_all (sub_indices_pass (is_id (length d.types))) d.types ≡ true
  tables : list_all (table_indices_pass (is_id (length d.types))) d.tables ≡ true
  globals : list_all (global_indices_pass (is_id (length d.types))) d.globals ≡ true
  elements : list_all (ref_indices_pass (is_id (length d.types))) d.elements ≡ true
  functions : list_all (λ (f : FuncDecl). nat_lt f.type_index (length d.types)) d.functions ≡ true
  supertypes : have_supertypes_of_their_sort d.types ≡ true
  continuations : list_all (continues_function d.types) d.types ≡ true
  descriptors : list_all has_fitting_descriptor d.types ≡ true

facts : (d : Declared) → may_be_looked_up is_id d ≡ true → Facts d
facts d h =
    let fits = nat_le (length d.types) MAX_TYPES && list_indices_pass (is_id (length d.types)) d.types d.tables d.globals d.elements && have_supertypes_of_their_sort d.types in
    let (l, descriptors) = and_parts (fits && have_func_types d) _ h in
    let (k, func_types) = and_parts fits _ l in
    let (b, supertypes) = and_parts (nat_le (length d.types) MAX_TYPES && list_indices_pass (is_id (length d.types)) d.types d.tables d.globals d.elements) _ k in
    let (small, e) = and_parts (nat_le (length d.types) MAX_TYPES) _ b in
    let (callees, continuations) = and_parts (list_all (λ (f : FuncDecl). is_func_type (slice_get d.types f.type_index)) d.functions && list_all (λ i. is_func_type (slice_get d.types i)) d.tags) _ func_types in
    let p = list_all (sub_indices_pass (is_id (length d.types))) d.types in
    let q = list_all (table_indices_pass (is_id (length d.types))) d.tables in
    let r = list_all (global_indices_pass (is_id (length d.types))) d.globals in
    let (f, elements) = and_parts (p && q && r) _ e in
    let (g, globals) = and_parts (p && q) _ f in
    let (types, tables) = and_parts p _ g in
    record { small = leb-true _ _ small; types = types; tables = tables; globals = globals; elements = elements; functions = known-types (λ (f : FuncDecl). f.type_index) d.types d.functions (and_parts (list_all (λ (f : FuncDecl). is_func_type (slice_get d.types f.type_index)) d.functions) _ callees).0; supertypes = supertypes; continuations = continuations; descriptors = descriptors }

type_valid : (d : Declared) → Facts d → (i : ℕ) (s : SubType) → slice_get d.types i ≡ Some s → IsValidType (context_of d) s
type_valid d m i s h = type-is-valid d m.small s (passes-at (sub_indices_pass (is_id (length d.types))) i d.types s m.types h) (passes-at (continues_function d.types) i d.types s m.continuations h) (passes-at has_fitting_descriptor i d.types s m.descriptors h)

below_parts : (d : Declared) → Facts d → (t : ValType) (r : RefType) → Below d t (Ref r) → IsBelowReference (context_of d) t r
below_parts d m t r b =
    let (low, is, e) = below-ref d.types t r b.order in
    let p = and_parts (is_heap_below d.types low.heap_type r.heap_type) _ e in
    record { lower = low; is = is; same_sharedness = heap-shared d.types m.supertypes low.heap_type r.heap_type p.0; without_null = null_of low.nullable r.nullable p.1 }
  where
    null_of : (x y : Bool) → (y || not x) ≡ true → y ≡ false → x ≡ false
    null_of true true h k = k
    null_of true false h k = cc
    null_of false y h k = refl

-- the order of references without null, or with it
marked : (d : Declared) (r s : RefType) → Below d (Ref r) (Ref s) → (n m : Bool) → (m || not n) ≡ true
    → is_valid_below d.types (Ref (record r { nullable = n })) (Ref (record s { nullable = m })) ≡ true
marked d r s b n m e = from d (Ref (record r { nullable = n })) (Ref (record s { nullable = m })) b.low b.high (and_from _ _ (and_parts (is_heap_below d.types r.heap_type s.heap_type) _ b.order).0 e)

itself : (d : Declared) → Facts d → (r : RefType) → Valid (context_of d) (Ref r) → Below d (Ref r) (Ref r)
itself d m r h = let v = sym (heap-valid d m.small r.heap_type) ∙ h in record { low = v; high = v; order = ref-reflexive d.types r }

function_of : (d : Declared) → Facts d → (f : ℕ) (id : CoreTypeId) (o : Option FuncDecl) → slice_get d.functions f ≡ o → option_map (λ (f : FuncDecl). type_id f.type_index) o ≡ Some id → is_valid_index (context_of d) (Id id) ≡ true
function_of d m f id None is h = cc
function_of d m f id (Some decl) is h =
    let e : type_id decl.type_index ≡ id = cc in
    subst (λ i. is_valid_index (context_of d) (Id i) ≡ true) e
    (heap-valid d m.small (Concrete (Id (type_id decl.type_index))) ∙ passes-at _ f d.functions decl m.functions is)

tag_signature_valid : (d : Declared) → Facts d → (n : ℕ) (o : Option SubType) (f : Signature) → slice_get d.types n ≡ o → option_and_then signature_of o ≡ Some f → AllValid (context_of d) f.params × AllValid (context_of d) f.results
tag_signature_valid d m n None f is h = cc
tag_signature_valid d m n (Some s) f is h =
    let v = type_valid d m n s is in
    (v.params f h, v.results f h)

tag_of : (d : Declared) → Facts d → (o : Option ℕ) (f : Signature) → option_and_then (tag_signature d.types) o ≡ Some f → AllValid (context_of d) f.params × AllValid (context_of d) f.results
tag_of d m None f h = cc
tag_of d m (Some n) f h = tag_signature_valid d m n (slice_get d.types n) f refl h

checked_type : (d : Declared) → Facts d → (features : WasmFeatures) (t u : ValType) → canonical_under (length d.types) features t ≡ Some u → Valid (context_of d) u
checked_type d m features t u h =
    let p = cond_some (is_type_enabled features t && type_indices_pass (is_known (length d.types)) t) (type_with_id t) u h in
    subst (Valid (context_of d)) p.1 (type-valid d m.small (type_with_id t) ∙ type-ids (length d.types) t ∙ (and_parts (is_type_enabled features t) _ p.0).1)

top_of : (d : Declared) (r : RefType) (h : HeapType) → r.heap_type ≡ h → IsTop (context_of d) r (heap_top d.types h)
top_of d r (Abstract shared ty) is =
    record { shared = shared; ty = abstract_top ty; is = refl; same_sharedness = sym (ap (is_heap_shared d.types) is) }
top_of d r (Concrete i) is =
    record {
      shared = is_shared_at d.types (number_of i);
      ty = declared_top (slice_get d.types (number_of i));
      is = refl;
      same_sharedness = sym (ap (is_heap_shared d.types) is);
    }
top_of d r (Exact i) is =
    record {
      shared = is_shared_at d.types (number_of i);
      ty = declared_top (slice_get d.types (number_of i));
      is = refl;
      same_sharedness = sym (ap (is_heap_shared d.types) is);
    }

-- ---- exact types

-- ids of one number are one
id_same : (n : ℕ) (u v : UnpackedIndex) → is_id n u ≡ true → is_id n v ≡ true → number_of v ≡ number_of u → v ≡ u
id_same n (Id x) (Id y) h k e = ap (λ i. Id (record { index = i })) e
id_same n (Module x) v h k e = cc
id_same n (Id x) (Module y) h k e = cc

-- an id names the type of its number
named : (d : Declared) (u : UnpackedIndex) → is_id (length d.types) u ≡ true → type_named (context_of d) u ≡ slice_get d.types (number_of u)
named d (Id id) h = refl
named d (Module i) h = cc

exact_parts : (d : Declared) (h : HeapType) (u : UnpackedIndex) → heap_indices_pass (is_id (length d.types)) h ≡ true → is_id (length d.types) u ≡ true → is_heap_below d.types h (Exact u) ≡ true → IsBelowExact (context_of d) h u
exact_parts d (Exact v) u low high e = id_same (length d.types) u v high low (eqb-true (number_of v) (number_of u) e)
exact_parts d (Concrete v) u low high e = cc
exact_parts d (Abstract shared ty) u low high e =
    ap (option_map (λ (s : SubType). kind_bottom s.composite_type.inner)) (named d u high) ∙ bottom-below-exact shared ty (slice_get d.types (number_of u)) e

-- an index and the id that stands for it name one type
named_by_id : (d : Declared) (u : UnpackedIndex) → type_named (context_of d) (index_with_id u) ≡ type_named (context_of d) u
named_by_id d (Id id) = refl
named_by_id d (Module i) = refl

checked_index : (d : Declared) (u : UnpackedIndex) (h : HeapType) → canonical_heap (length d.types) (Concrete u) ≡ Some h → IsCheckedIndex (context_of d) u h
checked_index d u h e =
    let p = cond_some (is_known (length d.types) u) (Concrete (index_with_id u)) h e in
    record { index = index_with_id u; is = sym p.1; same_type = named_by_id d u; exact = ap (λ b. if b then Some (Exact (index_with_id u)) else None) p.0 }

pub lawful_lists : (d : Declared) → may_be_looked_up is_id d ≡ true → IsLawful (context_of d)
lawful_lists d h =
    let m = facts d h in
    record {
      both_valid = λ t u e. let b = parts d t u e in (type-valid d m.small t ∙ b.low, type-valid d m.small u ∙ b.high);
      reflexive = λ t e. let v = sym (type-valid d m.small t) ∙ e in from d t t v v (type-reflexive d.types t);
      transitive = λ t u v e f. let a = parts d t u e in let b = parts d u v f in from d t v a.low b.high (type-transitive d.types m.supertypes t u v a.order b.order);
      number = λ t u e k. number-below d.types t u (parts d t u e).order k;
      below_reference = λ t r e. below_parts d m t r (parts d t (Ref r) e);
      non_null_keeps = λ r s e. marked d r s (parts d (Ref r) (Ref s) e) false false refl;
      non_null_below = λ r e. marked d r r (itself d m r e) false r.nullable (or_right r.nullable true refl);
      below_with_null = λ r e. marked d r r (itself d m r e) r.nullable true refl;
      top = λ r e. top_of d r r.heap_type refl;
      below_exact = λ r n u e.
          let b = parts d (Ref r) (Ref (reference n (Exact u))) e in
          exact_parts d r.heap_type u b.low b.high (and_parts (is_heap_below d.types r.heap_type (Exact u)) _ b.order).0;
      exact_below = λ n u e.
          let v = sym (index-valid d m.small u) ∙ e in
          from d (Ref (reference n (Exact u))) (Ref (reference n (Concrete u))) v v (and_from _ _ (heap-reflexive d.types (Concrete u)) (null-reflexive n));
      checked_exact = checked_index d;
      types = type_valid d m;
      types_of_ids = λ id s e. type_valid d m id.index s e;
      functions = λ f id e. function_of d m f id (slice_get d.functions f) refl e;
      tables = λ i t e. heap-valid d m.small t.element_type.heap_type ∙ passes-at (table_indices_pass (is_id (length d.types))) i d.tables t m.tables e;
      globals = λ i g e. type-valid d m.small g.content_type ∙ passes-at (global_indices_pass (is_id (length d.types))) i d.globals g m.globals e;
      tags = λ i f e. tag_of d m (slice_get d.tags i) f e;
      elements = λ i r e. heap-valid d m.small r.heap_type ∙ passes-at (ref_indices_pass (is_id (length d.types))) i d.elements r m.elements e;
      checked = checked_type d m;
      checked_ref = λ r s e.
          let p = cond_some (ref_indices_pass (is_known (length d.types)) r) (ref_with_id r) s e in
          subst (λ x. Valid (context_of d) (Ref x)) p.1 (heap-valid d m.small (heap_with_id r.heap_type) ∙ heap-ids (length d.types) r.heap_type ∙ p.0);
      checked_heap = λ k l e.
          let p = cond_some (heap_indices_pass (is_known (length d.types)) k) (heap_with_id k) l e in
          subst (λ h. is_valid_heap (context_of d) h ≡ true) p.1 (heap-valid d m.small (heap_with_id k) ∙ heap-ids (length d.types) k ∙ p.0);
    }

-- there are no more types than a lookup over lists holds
pub few_types : (d : Declared) → may_be_looked_up is_id d ≡ true → length d.types ≤ MAX_TYPES
few_types d h = (facts d h).small
