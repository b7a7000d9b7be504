-- Bytes have one reading as types.
use Rattle.std.proofs.Common.{ap, subst, sym, ◌∙◌, ◌≡◌, refl, arith, inl, inr, ℕ, zero, suc, ◌<◌, Bool, List, [], ◌∷◌, ◌++◌, length, append_assoc, append-nil, Option, Some, None, unwrap_or, Result, Ok, Err, IfErr}
use Rattle.std.specs.Option.{option_and_then, option_map}
use Rattle.binary_operators.specs.Integers.{unsigned}
use Rattle.binary_operators.specs.Values.{so_many}
use Rattle.binary_operators.specs.declared.types.CanonicalTypes.{CanonicalTypes}
use Rattle.binary_operators.specs.declared.types.GroupNames.{GroupNames}
use Rattle.binary_operators.specs.declared.types.GroupNames.TheVariants.{Places, Indices}
use Rattle.validate_types.specs.declared.types.SubType.{SubType}
use Rattle.module_rules.specs.declared.items.RecGroup.{RecGroup}
use Rattle.binary_modules.specs.Parts.{marked}
use Rattle.binary_modules.specs.SubTypes.{sub_type}
use Rattle.binary_modules.specs.Groups.{Group, types_of, canonical_of, rec_group, group_count}
use Rattle.binary_modules.specs.GroupsRead.{HasGroup, IsGroup, AreGroups, AreTypes, StandsFor}
use Rattle.binary_modules.specs.Read.{HasTypes, HasNoTypes, HasNoRolled, HasNoGroup, AreNoTypes}
use Rattle.binary_modules.proofs.Anyhow.{reads_wherever}

-- ---- answers

some_same : {A : Type 0} → (a b : A) → Some a ≡ Some b → a ≡ b
some_same a b e = ap (λ o. unwrap_or o a) e

both_same : {A B : Type 0} → (o : Option (A × B)) (a b : A) (x y : B) → o ≡ Some (a, x) → o ≡ Some (b, y) → (a ≡ b) × (x ≡ y)
both_same {A = A} {B = B} o a b x y e f =
    let p : A × B = (a, x) in
    let q : A × B = (b, y) in
    let same = some_same p q (sym e ∙ f) in
    (ap (λ (r : A × B). r.0) same, ap (λ (r : A × B). r.1) same)

none_read : {A : Type 0} → (o : Option A) (x : A) → o ≡ None → o ≡ Some x → ⊥
none_read o x e f = absurd cc

pub if_err : {T E : Type 0} → (r : Result T E) (P Q : E → Type 0) → ((e : E) → P e → Q e) → IfErr r P → IfErr r Q
if_err (Ok x) P Q f p = tt
if_err (Err e) P Q f p = f e p

-- ---- types

module _ (canonical : List ℕ) (names : GroupNames) (count : ℕ) (bytes : List ℕ) where
  types_as : (s t : CanonicalTypes) → s.canonical.now ≡ canonical → s.group ≡ names → t.canonical.now ≡ canonical → t.group ≡ names → so_many (sub_type s) count bytes ≡ so_many (sub_type t) count bytes
  types_as s t a b c d =
      ap (λ (item : List ℕ → Option (SubType × List ℕ)). so_many item count bytes)
      (λ i left. reads_wherever s t (a ∙ sym c) (b ∙ sym d) left i)

  pub types_once : (read more : List SubType) (rest behind : List ℕ) → HasTypes canonical names count bytes read rest → HasTypes canonical names count bytes more behind → (read ≡ more) × (rest ≡ behind)
  types_once read more rest behind h k =
      both_same (so_many (sub_type h.types) count bytes) read more rest behind h.are_read
      (types_as h.types k.types h.are_before h.are_own k.are_before k.are_own ∙ k.are_read)

  pub no_types : (s : CanonicalTypes) → s.canonical.now ≡ canonical → s.group ≡ names → so_many (sub_type s) count bytes ≡ None → HasNoTypes canonical names count bytes
  no_types s a b none = λ read rest h.
      none_read (so_many (sub_type s) count bytes) (read, rest) none
      (types_as s h.types a b h.are_before h.are_own ∙ h.are_read)

-- ---- one group

abbrev types_behind : (List ℕ → Option (SubType × List ℕ)) → Bool → ℕ × List ℕ → Option ((Bool × List SubType) × List ℕ)
types_behind item explicit count =
    option_and_then {U = (Bool × List SubType) × List ℕ} (λ (r : List SubType × List ℕ). Some ((explicit, r.0), r.1)) (so_many item count.0 count.1)

abbrev counted_behind : (List ℕ → Option (SubType × List ℕ)) → Bool × List ℕ → Option ((Bool × List SubType) × List ℕ)
counted_behind item mark = option_and_then (types_behind item mark.0) (group_count mark.0 mark.1)

in_parts : (types : CanonicalTypes) (bytes : List ℕ) → rec_group types bytes ≡ option_and_then (counted_behind (sub_type types)) (marked 0x4e bytes)
unfolding rec_group
in_parts types bytes = refl

pub group_as : (s t : CanonicalTypes) → s.canonical.now ≡ t.canonical.now → s.group ≡ t.group → (bytes : List ℕ) → rec_group s bytes ≡ rec_group t bytes
group_as s t here own bytes =
    in_parts s bytes
    ∙ ap (λ (item : List ℕ → Option (SubType × List ℕ)). option_and_then (counted_behind item) (marked 0x4e bytes))
    (λ i left. reads_wherever s t here own left i)
    ∙ sym (in_parts t bytes)

listed_items : (explicit listed : Bool) (items : Option (List SubType × List ℕ)) (read : List SubType) (rest : List ℕ) → option_and_then {U = (Bool × List SubType) × List ℕ} (λ (r : List SubType × List ℕ). Some ((explicit, r.0), r.1)) items ≡ Some ((listed, read), rest) → explicit ≡ listed
listed_items explicit listed None read rest e = absurd (none_read None ((listed, read), rest) refl e)
listed_items explicit listed (Some r) read rest e =
    ap (λ (o : Option ((Bool × List SubType) × List ℕ)). unwrap_or (option_map (λ (x : (Bool × List SubType) × List ℕ). x.0.0) o) explicit) e

listed_behind : (item : List ℕ → Option (SubType × List ℕ)) (explicit listed : Bool) (count : Option (ℕ × List ℕ)) (read : List SubType) (rest : List ℕ) → option_and_then (types_behind item explicit) count ≡ Some ((listed, read), rest) → explicit ≡ listed
listed_behind item explicit listed None read rest e = absurd (none_read None ((listed, read), rest) refl e)
listed_behind item explicit listed (Some n) read rest e =
    listed_items explicit listed (so_many item n.0 n.1) read rest e

listed_in : (item : List ℕ → Option (SubType × List ℕ)) (mark : Option (Bool × List ℕ)) (listed : Bool) (read : List SubType) (rest : List ℕ) → option_and_then (counted_behind item) mark ≡ Some ((listed, read), rest) → option_map (λ (m : Bool × List ℕ). m.0) mark ≡ Some listed
listed_in item None listed read rest e = absurd (none_read None ((listed, read), rest) refl e)
listed_in item (Some m) listed read rest e =
    ap (λ (x : Bool). Some x) (listed_behind item m.0 listed (group_count m.0 m.1) read rest e)

-- whether a group is written as a list doesn't depend on how types are named
pub listed_once : (s t : CanonicalTypes) (bytes : List ℕ) (explicit listed : Bool) (read more : List SubType) (rest behind : List ℕ) → rec_group s bytes ≡ Some ((explicit, read), rest) → rec_group t bytes ≡ Some ((listed, more), behind) → explicit ≡ listed
listed_once s t bytes explicit listed read more rest behind e f =
    some_same explicit listed
    (sym (listed_in (sub_type s) (marked 0x4e bytes) explicit read rest (sym (in_parts s bytes) ∙ e))
    ∙ listed_in (sub_type t) (marked 0x4e bytes) listed more behind (sym (in_parts t bytes) ∙ f))

group_once : (canonical : List ℕ) (names : GroupNames) (bytes : List ℕ) (explicit listed : Bool) (read more : List SubType) (rest behind : List ℕ) → HasGroup canonical names bytes explicit read rest → HasGroup canonical names bytes listed more behind → (explicit ≡ listed) × (read ≡ more) × (rest ≡ behind)
group_once canonical names bytes explicit listed read more rest behind h k =
    let same = both_same (rec_group h.types bytes) (explicit, read) (listed, more) rest behind h.is_read
    (group_as h.types k.types (h.are_before ∙ sym k.are_before) (h.are_own ∙ sym k.are_own) bytes ∙ k.is_read) in
    (ap (λ (r : Bool × List SubType). r.0) same.0, ap (λ (r : Bool × List SubType). r.1) same.0, same.1)

pub unmarked_group : (before : List Group) (bytes : List ℕ) → marked 0x4e bytes ≡ None → HasNoGroup before bytes
unmarked_group before bytes m = λ g behind is.
    let types = is.is_rolled.types in
    none_read (rec_group types bytes) ((g.explicit, g.rolled), behind)
    (in_parts types bytes ∙ ap (option_and_then (counted_behind (sub_type types))) m) is.is_rolled.is_read

pub uncounted_group : (before : List Group) (bytes b : List ℕ) (explicit : Bool) → marked 0x4e bytes ≡ Some (explicit, b) → group_count explicit b ≡ None → HasNoGroup before bytes
uncounted_group before bytes b explicit m n = λ g behind is.
    let types = is.is_rolled.types in
    none_read (rec_group types bytes) ((g.explicit, g.rolled), behind)
    (in_parts types bytes
    ∙ ap (option_and_then (counted_behind (sub_type types))) m
    ∙ ap (option_and_then (types_behind (sub_type types) explicit)) n)
    is.is_rolled.is_read

module _ (bytes b c : List ℕ) (explicit : Bool) (count : ℕ) (m : marked 0x4e bytes ≡ Some (explicit, b)) (n : group_count explicit b ≡ Some (count, c)) where
  behind_count : (types : CanonicalTypes) → rec_group types bytes ≡ types_behind (sub_type types) explicit (count, c)
  behind_count types =
      in_parts types bytes
      ∙ ap (option_and_then (counted_behind (sub_type types))) m
      ∙ ap (option_and_then (types_behind (sub_type types) explicit)) n

  items_in : (items : Option (List SubType × List ℕ)) (listed : Bool) (read : List SubType) (rest : List ℕ) → option_and_then {U = (Bool × List SubType) × List ℕ} (λ (r : List SubType × List ℕ). Some ((explicit, r.0), r.1)) items ≡ Some ((listed, read), rest) → items ≡ Some (read, rest)
  items_in None listed read rest e = absurd cc
  items_in (Some r) listed read rest e =
      ap (λ (o : Option ((Bool × List SubType) × List ℕ)). option_map (λ (x : (Bool × List SubType) × List ℕ). (x.0.1, x.1)) o) e

  types_in : (canonical : List ℕ) (names : GroupNames) (listed : Bool) (read : List SubType) (rest : List ℕ) → HasGroup canonical names bytes listed read rest → HasTypes canonical names count c read rest
  types_in canonical names listed read rest h = record {
    types = h.types;
    are_before = h.are_before;
    are_own = h.are_own;
    are_read = items_in (so_many (sub_type h.types) count c) listed read rest (sym (behind_count h.types) ∙ h.is_read);
  }

  -- where the types behind the count can't be read, the group can't
  pub typeless_group : (before : List Group) (canonical : List ℕ) → canonical ≡ canonical_of before → HasNoRolled before count c canonical → HasNoGroup before bytes
  typeless_group before canonical same none = λ g behind is.
      let R : List ℕ → Type 0 = λ l. HasNoRolled before count c l in
      let l = canonical_of before in
      let none_there = subst R same none in
      none_there g.rolled behind (types_in l Places g.explicit g.rolled behind is.is_rolled) g.first is.is_canonical
      g.types is.end (types_in l (Indices g.first) g.explicit g.types is.end is.is_declared)

-- ---- what a group stands for

pub stands_once : (groups : List Group) (rolled : List SubType) (own a b : ℕ) → StandsFor groups rolled own a → StandsFor groups rolled own b → a ≡ b
stands_once [] rolled own a b h k = h ∙ sym k
stands_once (g ∷ groups) rolled own a b (inl h) (inl k) = h.1 ∙ sym k.1
stands_once (g ∷ groups) rolled own a b (inl h) (inr k) = absurd (k.0 h.0)
stands_once (g ∷ groups) rolled own a b (inr h) (inl k) = absurd (h.0 k.0)
stands_once (g ∷ groups) rolled own a b (inr h) (inr k) = stands_once groups rolled own a b h.1 k.1

module _ (before : List Group) (canonical : List ℕ) (count : ℕ) (bytes : List ℕ) where
  -- where the types can't be read rolled up
  pub none_rolled : HasNoTypes canonical Places count bytes → HasNoRolled before count bytes canonical
  none_rolled none = λ rolled rest are_rolled first stands read end are_declared. none rolled rest are_rolled

  -- where they can't be read as they are declared
  pub none_declared : (rolled : List SubType) (rest : List ℕ) (first : ℕ) → HasTypes canonical Places count bytes rolled rest → StandsFor before rolled (length canonical) first → HasNoTypes canonical (Indices first) count bytes → HasNoRolled before count bytes canonical
  none_declared rolled rest first are_rolled stands none = λ more behind are_more other stands_other.
      let same = types_once canonical Places count bytes rolled more rest behind are_rolled are_more in
      let S : List SubType → Type 0 = λ r. StandsFor before r (length canonical) other in
      let here = stands_once before rolled (length canonical) first other stands (subst S (sym same.0) stands_other) in
      let N : ℕ → Type 0 = λ n. HasNoTypes canonical (Indices n) count bytes in
      subst N here none

pub group_unique : (before : List Group) (bytes : List ℕ) (g h : Group) (behind rest : List ℕ) → IsGroup before bytes g behind → IsGroup before bytes h rest → (g ≡ h) × (behind ≡ rest)
group_unique before bytes g h behind rest p q =
    let l = canonical_of before in
    let rolled = group_once l Places bytes g.explicit h.explicit g.rolled h.rolled behind rest p.is_rolled q.is_rolled in
    let S : List SubType → Type 0 = λ r. StandsFor before r (length l) h.first in
    let first = stands_once before g.rolled (length l) g.first h.first p.is_canonical (subst S (sym rolled.1) q.is_canonical) in
    let D : ℕ → Type 0 = λ n. HasGroup l (Indices n) bytes h.explicit h.types q.end in
    let declared = group_once l (Indices g.first) bytes g.explicit h.explicit g.types h.types p.end q.end p.is_declared (subst D (sym first) q.is_declared) in (
      λ i. record { rolled = rolled.1 i; types = declared.1 i; first = first i; explicit = rolled.0 i },
      rolled.2,
    )

-- ---- groups

none_more : (n : ℕ) → zero ≡ suc n → ⊥
none_more n e = omega arith

none_less : (n : ℕ) → n < zero → ⊥
none_less n h = omega arith

one_fewer : (m n : ℕ) → suc m ≡ suc n → m ≡ n
one_fewer m n e = omega arith

one_less : (m n : ℕ) → suc m < suc n → m < n
one_less m n h = omega arith

-- as many groups
groups_unique : (before : List Group) (bytes : List ℕ) (groups others : List Group) (rest behind : List ℕ) → length groups ≡ length others → AreGroups before bytes groups rest → AreGroups before bytes others behind → (groups ≡ others) × (rest ≡ behind)
groups_unique before bytes [] [] rest behind n p q = (refl, sym p ∙ q)
groups_unique before bytes [] (h ∷ others) rest behind n p q = absurd (none_more (length others) n)
groups_unique before bytes (g ∷ groups) [] rest behind n p q = absurd (none_more (length groups) (sym n))
groups_unique before bytes (g ∷ groups) (h ∷ others) rest behind n p q =
    let first = group_unique before bytes g h p.0 q.0 p.1 q.1 in
    let B : List ℕ → Type 0 = λ b. AreGroups (before ++ g ∷ []) b others behind in
    let G : Group → Type 0 = λ x. AreGroups (before ++ x ∷ []) q.0 others behind in
    let more = groups_unique (before ++ g ∷ []) p.0 groups others rest behind (one_fewer (length groups) (length others) n) p.2
    (subst B (sym first.1) (subst G (sym first.0) q.2)) in
    (λ i. first.0 i ∷ more.0 i, more.1)

-- where there are more, another stands behind
group_behind : (before : List Group) (bytes : List ℕ) (groups others : List Group) (rest behind : List ℕ) → length groups < length others → AreGroups before bytes groups rest → AreGroups before bytes others behind → (g : Group) × (left : List ℕ) × IsGroup (before ++ groups) rest g left
group_behind before bytes [] [] rest behind n p q = absurd (none_less zero n)
group_behind before bytes [] (h ∷ others) rest behind n p q =
    let B : List ℕ → Type 0 = λ b. IsGroup before b h q.0 in
    let P : List Group → Type 0 = λ l. IsGroup l rest h q.0 in
    (h, q.0, subst P (sym (append-nil before)) (subst B p q.1))
group_behind before bytes (g ∷ groups) [] rest behind n p q = absurd (none_less (length (g ∷ groups)) n)
group_behind before bytes (g ∷ groups) (h ∷ others) rest behind n p q =
    let first = group_unique before bytes g h p.0 q.0 p.1 q.1 in
    let B : List ℕ → Type 0 = λ b. AreGroups (before ++ g ∷ []) b others behind in
    let G : Group → Type 0 = λ x. AreGroups (before ++ x ∷ []) q.0 others behind in
    let more = group_behind (before ++ g ∷ []) p.0 groups others rest behind (one_less (length groups) (length others) n) p.2
    (subst B (sym first.1) (subst G (sym first.0) q.2)) in
    let P : List Group → Type 0 = λ l. IsGroup l rest more.0 more.1 in
    (more.0, more.1, subst P (append_assoc before (g ∷ []) groups) more.2)

-- ---- the types of a module

pub uncounted_types : (bytes : List ℕ) → unsigned 32 bytes ≡ None → AreNoTypes bytes
uncounted_types bytes none = λ types canonical written rest a.
    none_read (unsigned 32 bytes) (length a.groups, a.behind) none a.has_count

-- where no group stands behind fewer than there are to be
pub stopped_types : (bytes behind left : List ℕ) (count : ℕ) (groups : List Group) → unsigned 32 bytes ≡ Some (count, behind) → AreGroups [] behind groups left → length groups < count → HasNoGroup groups left → AreNoTypes bytes
stopped_types bytes behind left count groups counted are less none = λ types canonical written rest a.
    let same = both_same (unsigned 32 bytes) count (length a.groups) behind a.behind counted a.has_count in
    let B : List ℕ → Type 0 = λ b. AreGroups [] b a.groups rest in
    let L : ℕ → Type 0 = λ n. length groups < n in
    let more = group_behind [] behind groups a.groups left rest (subst L same.0 less) are (subst B (sym same.1) a.are_groups) in
    none more.0 more.1 more.2

pub types_unique : (bytes : List ℕ) (t t' : List SubType) (c c' : List ℕ) (w w' : List RecGroup) (r r' : List ℕ) → AreTypes bytes t c w r → AreTypes bytes t' c' w' r' → (t ≡ t') × (c ≡ c') × (r ≡ r')
types_unique bytes t t' c c' w w' r r' h k =
    let counts = both_same (unsigned 32 bytes) (length h.groups) (length k.groups) h.behind k.behind h.has_count k.has_count in
    let B : List ℕ → Type 0 = λ b. AreGroups [] b k.groups r' in
    let same = groups_unique [] h.behind h.groups k.groups r r' counts.0 h.are_groups (subst B (sym counts.1) k.are_groups) in (
      h.are_types ∙ ap types_of same.0 ∙ sym k.are_types,
      h.are_canonical ∙ ap canonical_of same.0 ∙ sym k.are_canonical,
      same.1,
    )
