-- A group more is read.
use Rattle.std.proofs.Common.{ap, subst, sym, ◌∙◌, ◌≡◌, ◌≢◌, refl, arith, inl, inr, ℕ, zero, suc, Bool, true, false, cond, List, [], ◌∷◌, ◌++◌, length, append_assoc, append-nil, ◌+◌, Some, Option, None, unwrap_or, IsSome, is_some, length-append, le_of_eq, Result, Ok, Err, IfOk}
use Rattle.std.specs.BTreeMap.{get, is_at, Updates}
use Rattle.std.specs.Map.{lookup}
use Rattle.std.specs.Ordering.{is_eq, nat_cmp}
use Rattle.std.specs.declared.cmp.Ordering.{Ordering}
use Rattle.std.specs.declared.cmp.Ordering.TheVariants.{Less, Equal, Greater}
use Rattle.std.specs.Cmp.Lexicographic.{lists_ties, pointwise}
use Rattle.std.specs.Prelude.{slice_get}
use mathlib.Core.Bool.{true≢false}
use Rattle.std.proofs.lemmas.Bool.{and_parts, and_from}
use Rattle.std.proofs.lemmas.Bool.Decides.{Decides-eqb}
use Rattle.std.specs.Option.{option_and_then, option_map}
use Rattle.std.specs.List.{range_with_len}
use Rattle.std.proofs.lemmas.List.{flat_map_more}
use Rattle.std.proofs.lemmas.List.FromFn.{length-range_with_len}
use Rattle.std.proofs.lemmas.Option.{slice_get_past}
use Rattle.std.proofs.lemmas.Map.Lookups.{exact_unsigned}
use Rattle.binary_operators.proofs.Wherever.{lying}
use Rattle.binary_operators.specs.Values.{so_many}
use Rattle.binary_operators.specs.declared.types.CanonicalTypes.{CanonicalTypes}
use Rattle.binary_operators.specs.declared.types.GroupNames.{GroupNames}
use Rattle.binary_operators.specs.declared.types.GroupNames.TheVariants.{Places, Indices}
use Rattle.validate_types.specs.contracts.types.SubTypePartialEq.TheImpl as sub_eq
use Rattle.validate_types.specs.contracts.types.SubTypeOrd.TheImpl as sub_ord
use Rattle.validate_types.specs.contracts.types.SubTypeOrd.TheImpl.Laws.{matches_eq-law as sub_ties}
use Rattle.validate_types.specs.declared.types.SubType.{SubType}
use Rattle.validate_types.proofs.Equal.{types_exact, types_tied}
use Rattle.binary_modules.specs.Parts.{marked}
use Rattle.binary_modules.specs.SubTypes.{sub_type}
use Rattle.binary_modules.specs.Groups.{Group, types_of, canonical_of, rec_group, group_count}
use Rattle.binary_modules.specs.GroupsRead.{HasGroup, IsGroup, AreGroups, StandsFor}
use Rattle.binary_modules.specs.Mixed.{mix_types}
use Rattle.binary_modules.specs.Read.{HasTypes, HasRead, HasReadTypes, ReadsAnyhow, IsFound, IsMixed, IsOther, IsUnlike, StandsAlone, Notes, Keeps, Knows, rolled_cmp, alone_at}
use Rattle.binary_modules.specs.contracts.mixed.RolledGroupOrd.TheImpl.Laws.{matches_eq-law as rolled_ties}
use Rattle.binary_modules.specs.declared.groups.Groups.{Groups}
use Rattle.binary_modules.specs.declared.groups.TypeSection.{TypeSection}
use Rattle.binary_modules.specs.declared.mixed.RolledGroup.{RolledGroup}

-- ---- lists

-- a number more
pub range_more : (a n : ℕ) → range_with_len a n ++ (a + n) ∷ [] ≡ range_with_len a (n + 1)
range_more a zero = ap (λ m. m ∷ []) (omega arith)
range_more a (suc n) =
    let e : a + suc n ≡ (a + 1) + n = omega arith in
    let k : suc (n + 1) ≡ suc n + 1 = omega arith in
    ap (λ m. a ∷ (range_with_len (a + 1) n ++ m ∷ [])) e
    ∙ ap (λ l. a ∷ l) (range_more (a + 1) n)
    ∙ ap (range_with_len a) k

-- as many are read as there are
length_behind : {A : Type 0} (n : ℕ) (x : A) (others : Option (List A × List ℕ)) (items : List A) (rest : List ℕ) → ((l : List A) (r : List ℕ) → others ≡ Some (l, r) → length l ≡ n) → option_and_then {U = List A × List ℕ} (λ (o : List A × List ℕ). Some (x ∷ o.0, o.1)) others ≡ Some (items, rest) → length items ≡ suc n
length_behind n x None items rest each e = cc
length_behind n x (Some o) items rest each e =
    let p : (x ∷ o.0, o.1) ≡ (items, rest) = cc in
    ap (λ (q : List _ × List ℕ). length q.0) (sym p) ∙ ap (λ m. suc m) (each o.0 o.1 refl)

length_from : {A : Type 0} (item : List ℕ → Option (A × List ℕ)) (n : ℕ) (first : Option (A × List ℕ)) (items : List A) (rest : List ℕ) → ((bytes : List ℕ) (l : List A) (r : List ℕ) → so_many item n bytes ≡ Some (l, r) → length l ≡ n) → option_and_then {U = List A × List ℕ} (λ (x : A × List ℕ). option_and_then {U = List A × List ℕ} (λ (o : List A × List ℕ). Some (x.0 ∷ o.0, o.1)) (so_many item n x.1)) first ≡ Some (items, rest) → length items ≡ suc n
length_from item n None items rest each e = cc
length_from item n (Some x) items rest each e = length_behind n x.0 (so_many item n x.1) items rest (each x.1) e

pub so_many_length : {A : Type 0} (item : List ℕ → Option (A × List ℕ)) (n : ℕ) (bytes : List ℕ) (items : List A) (rest : List ℕ) → so_many item n bytes ≡ Some (items, rest) → length items ≡ n
so_many_length item zero bytes items rest e =
    let p : ([], bytes) ≡ (items, rest) = cc in ap (λ (q : List _ × List ℕ). length q.0) (sym p)
so_many_length item (suc n) bytes items rest e =
    length_from item n (item bytes) items rest (λ b l r. so_many_length item n b l r) e

-- ---- groups

pub one_more_group : (before : List Group) (bytes : List ℕ) (groups : List Group) (rest : List ℕ) (g : Group) (behind : List ℕ) → AreGroups before bytes groups rest → IsGroup (before ++ groups) rest g behind → AreGroups before bytes (groups ++ g ∷ []) behind
one_more_group before bytes [] rest g behind h k =
    let P : List Group → Type 0 = λ b. IsGroup b rest g behind in
    let Q : List ℕ → Type 0 = λ b. IsGroup before b g behind in
    (behind, subst Q (sym h) (subst P (append-nil before) k), λ i. behind)
one_more_group before bytes (x ∷ groups) rest g behind h k =
    let P : List Group → Type 0 = λ b. IsGroup b rest g behind in
    (h.0, h.1, one_more_group (before ++ x ∷ []) h.0 groups rest g behind h.2 (subst P (sym (append_assoc before (x ∷ []) groups)) k))

pub more_types : (groups : List Group) (g : Group) → types_of groups ++ g.types ≡ types_of (groups ++ g ∷ [])
more_types groups g = flat_map_more (λ (x : Group). x.types) [] groups g

pub more_canonical : (groups : List Group) (g : Group) → canonical_of groups ++ range_with_len g.first (length g.types) ≡ canonical_of (groups ++ g ∷ [])
more_canonical groups g = flat_map_more (λ (x : Group). range_with_len x.first (length x.types)) [] groups g

-- where the parts of a group were read, the group was
pub group_is : (types : CanonicalTypes) (bytes b c : List ℕ) (explicit : Bool) (count : ℕ) (read : List SubType) (rest : List ℕ) → marked 0x4e bytes ≡ Some (explicit, b) → group_count explicit b ≡ Some (count, c) → so_many (sub_type types) count c ≡ Some (read, rest) → rec_group types bytes ≡ Some ((explicit, read), rest)
unfolding rec_group
group_is types bytes b c explicit count read rest m n s =
    let items = λ (e : Bool) (k : ℕ × List ℕ). option_and_then {U = (Bool × List SubType) × List ℕ} (λ (r : List SubType × List ℕ). Some ((e, r.0), r.1)) (so_many (sub_type types) k.0 k.1) in
    ap (λ o. option_and_then (λ (e : Bool × List ℕ). option_and_then (items e.0) (group_count e.0 e.1)) o) m
    ∙ ap (λ o. option_and_then (items explicit) o) n
    ∙ ap (λ o. option_and_then {U = (Bool × List SubType) × List ℕ} (λ (r : List SubType × List ℕ). Some ((explicit, r.0), r.1)) o) s

pub has_group : (canonical before : List ℕ) (names : GroupNames) (bytes b c : List ℕ) (explicit : Bool) (count : ℕ) (read : List SubType) (rest : List ℕ) → canonical ≡ before → marked 0x4e bytes ≡ Some (explicit, b) → group_count explicit b ≡ Some (count, c) → HasTypes canonical names count c read rest → HasGroup before names bytes explicit read rest
has_group canonical before names bytes b c explicit count read rest same m n h = record {
  types = h.types;
  are_before = h.are_before ∙ same;
  are_own = h.are_own;
  is_read = group_is h.types bytes b c explicit count read rest m n h.are_read;
}

-- ---- what equal groups stand for

pub stands_found : (groups : List Group) (rolled : List SubType) (own : ℕ) (found : Option ℕ) → IsFound groups rolled found → StandsFor groups rolled own (unwrap_or found own)
stands_found [] rolled own found h = ap (λ o. unwrap_or o own) h
stands_found (g ∷ groups) rolled own found (inl h) = inl (h.0, ap (λ o. unwrap_or o own) h.1)
stands_found (g ∷ groups) rolled own found (inr h) = inr (h.0, stands_found groups rolled own found h.1)

found_once : (groups : List Group) (rolled : List SubType) (a b : Option ℕ) → IsFound groups rolled a → IsFound groups rolled b → a ≡ b
found_once [] rolled a b h k = h ∙ sym k
found_once (g ∷ groups) rolled a b (inl h) (inl k) = h.1 ∙ sym k.1
found_once (g ∷ groups) rolled a b (inl h) (inr k) = absurd (k.0 h.0)
found_once (g ∷ groups) rolled a b (inr h) (inl k) = absurd (h.0 k.0)
found_once (g ∷ groups) rolled a b (inr h) (inr k) = found_once groups rolled a b h.1 k.1

-- a group behind them that is another
found_other : (groups : List Group) (rolled : List SubType) (found : Option ℕ) (g : Group) → g.rolled ≢ rolled → IsFound groups rolled found → IsFound (groups ++ g ∷ []) rolled found
found_other [] rolled found g ne h = inr (ne, h)
found_other (x ∷ groups) rolled found g ne (inl h) = inl h
found_other (x ∷ groups) rolled found g ne (inr h) = inr (h.0, found_other groups rolled found g ne h.1)

-- any group behind one that is equal
found_before : (groups : List Group) (rolled : List SubType) (n : ℕ) (g : Group) → IsFound groups rolled (Some n) → IsFound (groups ++ g ∷ []) rolled (Some n)
found_before [] rolled n g h = cc
found_before (x ∷ groups) rolled n g (inl h) = inl h
found_before (x ∷ groups) rolled n g (inr h) = inr (h.0, found_before groups rolled n g h.1)

-- the first that is equal
found_last : (groups : List Group) (rolled : List SubType) (g : Group) → g.rolled ≡ rolled → IsFound groups rolled None → IsFound (groups ++ g ∷ []) rolled (Some g.first)
found_last [] rolled g e h = inl (e, refl)
found_last (x ∷ groups) rolled g e (inl h) = cc
found_last (x ∷ groups) rolled g e (inr h) = inr (h.0, found_last groups rolled g e h.1)

-- ---- the order of groups, rolled up

-- one that it takes for equal has the same types
rolled_exact : (a b : RolledGroup) → is_eq (rolled_cmp a b) ≡ true → a.types.items ≡ b.types.items
rolled_exact a b e =
    let p = and_parts _ _ (rolled_ties a b ∙ e) in
    types_exact a.types.items b.types.items (sym (lists_ties (sub_ord.ghosts).cmp sub_ties a.types.items b.types.items) ∙ p.1)

-- and the other way round, where the numbers are mixed from the types
rolled_tied : (a b : RolledGroup) → IsMixed a → IsMixed b → a.types.items ≡ b.types.items → is_eq (rolled_cmp a b) ≡ true
rolled_tied a b p q e =
    let n : a.mixed ≡ b.mixed = p ∙ ap mix_types e ∙ sym q in
    sym (rolled_ties a b) ∙ and_from _ _ ((Decides-eqb a.mixed b.mixed).1 n) (lists_ties (sub_ord.ghosts).cmp sub_ties a.types.items b.types.items ∙ types_tied a.types.items b.types.items e)

equal_if : (r : Ordering) → is_eq r ≡ true → r ≡ Equal
equal_if Less e = cc
equal_if Equal e = refl
equal_if Greater e = cc

-- `==` of them
exactly : (a b : List SubType) → pointwise (sub_eq.ghosts).eq a b ≡ true → a ≡ b
exactly a b e = types_exact a b (sym (lists_ties (sub_ord.ghosts).cmp sub_ties a b) ∙ e)

-- ---- what is kept of groups

pub is_alone : (types rolled one : List SubType) (i : ℕ) (ty : SubType) → slice_get types i ≡ Some ty → one ≡ ty ∷ [] → pointwise (sub_eq.ghosts).eq rolled one ≡ true → alone_at types i ≡ Some rolled
is_alone types rolled one i ty there of_one e =
    ap (option_map (λ t. t ∷ [])) there ∙ ap Some (sym of_one ∙ sym (exactly rolled one e))

pub is_not_alone : (types rolled one : List SubType) (i : ℕ) (ty : SubType) → slice_get types i ≡ Some ty → one ≡ ty ∷ [] → pointwise (sub_eq.ghosts).eq rolled one ≡ false → alone_at types i ≢ Some rolled
is_not_alone types rolled one i ty there of_one e = λ h.
    let same : Some (ty ∷ []) ≡ Some rolled = sym (ap (option_map (λ t. t ∷ [])) there) ∙ h in
    let is : rolled ≡ one = sym (ap (λ o. unwrap_or o []) same) ∙ sym of_one in
    true≢false (sym (lists_ties (sub_ord.ghosts).cmp sub_ties rolled one ∙ types_tied rolled one is) ∙ e)

pub knows_none : (kept : Groups) (types : List SubType) → kept.numbers.entries ≡ [] → kept.others.entries ≡ [] → Knows kept types []
knows_none kept types n o = record {
  alone = λ number first e. (
      let both : None ≡ Some (Some first) = sym (ap (lookup (is_at (nat_cmp number))) n) ∙ e in cc);
  others = λ q is other. ap (lookup (is_at (rolled_cmp q))) o;
  unkept = λ rolled e. refl;
}

alone_more : (types more : List SubType) (i : ℕ) (rolled : List SubType) → alone_at types i ≡ Some rolled → alone_at (types ++ more) i ≡ Some rolled
alone_more [] more i rolled e = cc
alone_more (x ∷ types) more zero rolled e = e
alone_more (x ∷ types) more (suc i) rolled e = alone_more types more i rolled e

-- where a type is a group, one stands
alone_there : (types : List SubType) (i : ℕ) (rolled : List SubType) → alone_at types i ≡ Some rolled → IsSome (slice_get types i)
alone_there [] i rolled e = cc
alone_there (x ∷ types) zero rolled e = refl
alone_there (x ∷ types) (suc i) rolled e = alone_there types i rolled e

alone_last : (types : List SubType) (ty : SubType) → alone_at (types ++ ty ∷ []) (length types) ≡ Some (ty ∷ [])
alone_last [] ty = refl
alone_last (x ∷ types) ty = alone_last types ty

-- types more change nothing
pub knows_more : (kept : Groups) (types more : List SubType) (groups : List Group) → Knows kept types groups → Knows kept (types ++ more) groups
knows_more kept types more groups known = record {
  alone = λ number first e. (
      let s = known.alone number first e in (s.0, alone_more types more first s.0 s.1, s.2));
  others = λ q is other. known.others q is (λ first e there. other first e (alone_more types more first q.types.items there));
  unkept = known.unkept;
}

-- what is found for a group that is kept as one type alone
found_alone : (kept : Groups) (types : List SubType) (groups : List Group) (rolled : List SubType) (number first : ℕ) → Knows kept types groups → get nat_cmp kept.numbers number ≡ Some (Some first) → alone_at types first ≡ Some rolled → IsFound groups rolled (Some first)
found_alone kept types groups rolled number first known e there =
    let P : List SubType → Type 0 = λ r. IsFound groups r (Some first) in
    let s = known.alone number first e in
    let same : Some s.0 ≡ Some rolled = sym s.1 ∙ there in
    subst P (ap (λ o. unwrap_or o []) same) s.2

-- ---- what is noted at a number

module _ (kept after : Groups) (number : ℕ) (alone : Option ℕ) (notes : Notes kept after number alone) where
  abbrev stood : Option ℕ
  stood = unwrap_or (get nat_cmp kept.numbers number) alone

  at_number : (n : ℕ) → is_eq (nat_cmp number n) ≡ true → get nat_cmp after.numbers n ≡ Some stood
  at_number n p = notes.numbers.0 n ∙ ap (λ b. cond b (Some stood) (get nat_cmp kept.numbers n)) p

  elsewhere : (n : ℕ) → is_eq (nat_cmp number n) ≡ false → get nat_cmp after.numbers n ≡ get nat_cmp kept.numbers n
  elsewhere n p = notes.numbers.0 n ∙ ap (λ b. cond b (Some stood) (get nat_cmp kept.numbers n)) p

  same_number : (n : ℕ) → is_eq (nat_cmp number n) ≡ true → get nat_cmp kept.numbers number ≡ get nat_cmp kept.numbers n
  same_number n p =
      ap (λ m. get nat_cmp kept.numbers m) (exact_unsigned number n (equal_if (nat_cmp number n) p))

  -- where nothing stands, nothing stood
  stood_none : (n : ℕ) (b : Bool) → is_eq (nat_cmp number n) ≡ b → get nat_cmp after.numbers n ≡ None → get nat_cmp kept.numbers n ≡ None
  stood_none n true p e = let both : Some stood ≡ None = sym (at_number n p) ∙ e in cc
  stood_none n false p e = sym (elsewhere n p) ∙ e

  -- what stood there still does
  still : (n : ℕ) (x : Option ℕ) (b : Bool) → is_eq (nat_cmp number n) ≡ b → get nat_cmp kept.numbers n ≡ Some x → get nat_cmp after.numbers n ≡ Some x
  still n x true p e = at_number n p ∙ ap (λ o. Some (unwrap_or o alone)) (same_number n p ∙ e)
  still n x false p e = elsewhere n p ∙ e

  others_same : (q : RolledGroup) → get rolled_cmp after.others q ≡ get rolled_cmp kept.others q
  others_same q = ap (λ m. get rolled_cmp m q) notes.others

  -- what stands there is no type that didn't
  stood_alone : (n first : ℕ) (b : Bool) → is_eq (nat_cmp number n) ≡ b → (get nat_cmp kept.numbers number ≡ None → alone ≡ None) → get nat_cmp after.numbers n ≡ Some (Some first) → get nat_cmp kept.numbers n ≡ Some (Some first)
  stood_alone n first true p fits e = stood_by (get nat_cmp kept.numbers number) refl
    where
      stood_by : (o : Option (Option ℕ)) → get nat_cmp kept.numbers number ≡ o → get nat_cmp kept.numbers n ≡ Some (Some first)
      stood_by None k =
          let both : Some None ≡ Some (Some first) =
          sym (at_number n p ∙ ap (λ o. Some (unwrap_or o alone)) k ∙ ap Some (fits k)) ∙ e in cc
      stood_by (Some x) k =
          sym (same_number n p) ∙ k ∙ sym (at_number n p ∙ ap (λ o. Some (unwrap_or o alone)) k) ∙ e
  stood_alone n first false p fits e = sym (elsewhere n p) ∙ e

  -- where no type is put there that wasn't, what is kept says the same
  knows_noted : (types : List SubType) (groups : List Group) → (get nat_cmp kept.numbers number ≡ None → alone ≡ None) → Knows kept types groups → Knows after types groups
  knows_noted types groups fits known = record {
    alone = λ n first e. known.alone n first (stood_alone n first (is_eq (nat_cmp number n)) refl fits e);
    others = λ q is other. (
        let P : Option ℕ → Type 0 = λ o. IsFound groups q.types.items o in
        subst P (sym (others_same q)) (known.others q is (λ first e. other first (still q.mixed (Some first) (is_eq (nat_cmp number q.mixed)) refl e))));
    unkept = λ rolled e. known.unkept rolled (stood_none (mix_types rolled) (is_eq (nat_cmp number (mix_types rolled))) refl e);
  }

-- a group that is equal to an earlier one
module _ (kept : Groups) (types : List SubType) (groups : List Group) (g : Group) (n : ℕ)
    (known : Knows kept types groups) (there : IsFound groups g.rolled (Some n)) where
  again_by : (rolled : List SubType) (o : Option ℕ) → IsFound groups rolled o → IsFound (groups ++ g ∷ []) rolled o
  again_by rolled (Some m) h = found_before groups rolled m g h
  again_by rolled None h =
      let Q : List SubType → Type 0 = λ r. IsFound groups r (Some n) in
      let other : g.rolled ≢ rolled = λ e. (
      let both : None ≡ Some n = found_once groups rolled None (Some n) h (subst Q e there) in cc) in
      found_other groups rolled None g other h

  knows_again : Knows kept types (groups ++ g ∷ [])
  knows_again = record {
    alone = λ number first e. (
        let s = known.alone number first e in (s.0, s.1, found_before groups s.0 first g s.2));
    others = λ q is other. again_by q.types.items (get rolled_cmp kept.others q) (known.others q is other);
    unkept = λ rolled e. again_by rolled None (known.unkept rolled e);
  }

-- the group is found by the index that stands for it
found_here : (groups : List Group) (g : Group) (rolled : List SubType) (own : ℕ) (o : Option ℕ) → g.rolled ≡ rolled → g.first ≡ unwrap_or o own → IsFound groups rolled o → IsFound (groups ++ g ∷ []) rolled (Some g.first)
found_here groups g rolled own None e f h = found_last groups rolled g e h
found_here groups g rolled own (Some n) e f h =
    let P : ℕ → Type 0 = λ m. IsFound (groups ++ g ∷ []) rolled (Some m) in
    subst P (sym f) (found_before groups rolled n g h)

-- a group that is looked for among the others
module _ (kept after : Groups) (types : List SubType) (groups : List Group) (key : RolledGroup) (g : Group) (own : ℕ)
    (mixed : IsMixed key) (known : Knows kept types groups) (found : IsFound groups key.types.items (get rolled_cmp kept.others key))
    (is : g.rolled ≡ key.types.items) (stands : g.first ≡ unwrap_or (get rolled_cmp kept.others key) own)
    (same : after.numbers ≡ kept.numbers) (taken : get nat_cmp kept.numbers key.mixed ≢ None)
    (updates : Updates rolled_cmp kept.others after.others key (Some g.first)) where
  other_by : (q : RolledGroup) (h : IsMixed q) (k : IsFound groups q.types.items (get rolled_cmp kept.others q)) (b : Bool) → is_eq (rolled_cmp key q) ≡ b → IsFound (groups ++ g ∷ []) q.types.items (get rolled_cmp after.others q)
  other_by q h k true p =
      let P : Option ℕ → Type 0 = λ o. IsFound (groups ++ g ∷ []) q.types.items o in
      let Q : List SubType → Type 0 = λ r. IsFound (groups ++ g ∷ []) r (Some g.first) in
      let here = found_here groups g key.types.items own (get rolled_cmp kept.others key) is stands found in
      subst P (sym (updates.0 q ∙ ap (λ b. cond b (Some g.first) (get rolled_cmp kept.others q)) p)) (subst Q (rolled_exact key q p) here)
  other_by q h k false p =
      let P : Option ℕ → Type 0 = λ o. IsFound (groups ++ g ∷ []) q.types.items o in
      let unlike : g.rolled ≢ q.types.items = λ e. absurd (true≢false (sym (rolled_tied key q mixed h (sym is ∙ e)) ∙ p)) in
      subst P (sym (updates.0 q ∙ ap (λ b. cond b (Some g.first) (get rolled_cmp kept.others q)) p)) (found_other groups q.types.items (get rolled_cmp kept.others q) g unlike k)

  knows_other : Knows after types (groups ++ g ∷ [])
  knows_other = record {
    alone = λ number first e. (
        let s = known.alone number first (ap (λ m. get nat_cmp m number) (sym same) ∙ e) in (s.0, s.1, found_before groups s.0 first g s.2));
    others = λ q h other. other_by q h (known.others q h (λ first e. other first (ap (λ m. get nat_cmp m q.mixed) same ∙ e))) (is_eq (rolled_cmp key q)) refl;
    unkept = λ rolled e. (
        let none : get nat_cmp kept.numbers (mix_types rolled) ≡ None = ap (λ m. get nat_cmp m (mix_types rolled)) (sym same) ∙ e in
        let unlike : g.rolled ≢ rolled = λ k. taken (ap (λ n. get nat_cmp kept.numbers n) (mixed ∙ ap mix_types (sym is ∙ k)) ∙ none) in
        found_other groups rolled None g unlike (known.unkept rolled none));
  }

-- a group that is new, kept as one type alone at its number
module _ (kept after : Groups) (types : List SubType) (groups : List Group) (rolled : List SubType) (g : Group)
    (known : Knows kept types groups) (none : IsFound groups rolled None) (is : g.rolled ≡ rolled)
    (there : alone_at types g.first ≡ Some rolled) (free : get nat_cmp kept.numbers (mix_types rolled) ≡ None)
    (notes : Notes kept after (mix_types rolled) (Some g.first)) where
  noted : (n : ℕ) → is_eq (nat_cmp (mix_types rolled) n) ≡ true → get nat_cmp after.numbers n ≡ Some (Some g.first)
  noted n p =
      at_number kept after (mix_types rolled) (Some g.first) notes n p
      ∙ ap (λ o. Some (unwrap_or o (Some g.first))) free

  here : get nat_cmp after.numbers (mix_types rolled) ≡ Some (Some g.first)
  here = notes.numbers.1 ∙ ap (λ o. Some (unwrap_or o (Some g.first))) free

  alone_by : (n first : ℕ) (b : Bool) → is_eq (nat_cmp (mix_types rolled) n) ≡ b → get nat_cmp after.numbers n ≡ Some (Some first) → StandsAlone types (groups ++ g ∷ []) first
  alone_by n first true p e =
      let P : ℕ → Type 0 = λ f. StandsAlone types (groups ++ g ∷ []) f in
      let same : Some (Some g.first) ≡ Some (Some first) = sym (noted n p) ∙ e in
      subst P (ap (λ o. unwrap_or (unwrap_or o None) 0) same) (rolled, there, found_last groups rolled g is none)
  alone_by n first false p e =
      let s = known.alone n first (sym (elsewhere kept after (mix_types rolled) (Some g.first) notes n p) ∙ e) in
      (s.0, s.1, found_before groups s.0 first g s.2)

  rest_by : (q : RolledGroup) (h : IsMixed q) (other : IsOther after types q) (b : Bool) → pointwise (sub_eq.ghosts).eq rolled q.types.items ≡ b → IsFound (groups ++ g ∷ []) q.types.items (get rolled_cmp after.others q)
  rest_by q h other true p =
      let equal : rolled ≡ q.types.items = exactly rolled q.types.items p in
      let number : q.mixed ≡ mix_types rolled = h ∙ ap mix_types (sym equal) in
      absurd (other g.first (ap (λ n. get nat_cmp after.numbers n) number ∙ here) (there ∙ ap Some equal))
  rest_by q h other false p =
      let P : Option ℕ → Type 0 = λ o. IsFound (groups ++ g ∷ []) q.types.items o in
      let unlike : g.rolled ≢ q.types.items = λ e.
      absurd (true≢false (sym (lists_ties (sub_ord.ghosts).cmp sub_ties rolled q.types.items ∙ types_tied rolled q.types.items (sym is ∙ e)) ∙ p)) in
      let before : IsOther kept types q = λ first e. other first (still kept after (mix_types rolled) (Some g.first) notes q.mixed (Some first) (is_eq (nat_cmp (mix_types rolled) q.mixed)) refl e) in
      subst P (sym (others_same kept after (mix_types rolled) (Some g.first) notes q)) (found_other groups q.types.items (get rolled_cmp kept.others q) g unlike (known.others q h before))

  knows_alone : Knows after types (groups ++ g ∷ [])
  knows_alone = record {
    alone = λ n first e. alone_by n first (is_eq (nat_cmp (mix_types rolled) n)) refl e;
    others = λ q h other. rest_by q h other (pointwise (sub_eq.ghosts).eq rolled q.types.items) refl;
    unkept = λ r e. (
        let unlike : g.rolled ≢ r = λ k. (
        let both : Some (Some g.first) ≡ None = sym here ∙ ap (λ l. get nat_cmp after.numbers (mix_types l)) (sym is ∙ k) ∙ e in cc) in
        found_other groups r None g unlike (known.unkept r (stood_none kept after (mix_types rolled) (Some g.first) notes (mix_types r) (is_eq (nat_cmp (mix_types rolled) (mix_types r))) refl e)));
  }

-- ---- by which index a group is kept

-- that of an earlier type, which is equal
keeps_again : (kept after : Groups) (types more rolled : List SubType) (number own first : ℕ) (alone : Option ℕ) → Notes kept after number alone → get nat_cmp kept.numbers number ≡ Some (Some first) → (IsSome (slice_get types first) → alone_at types first ≡ Some rolled) → ((groups : List Group) → Knows after types groups → Knows after more groups) → Keeps kept after types more rolled own first
keeps_again kept after types more rolled number own first alone notes stood same extended = λ groups known.
    let s = known.alone number first stood in
    let there = alone_there types first s.0 s.1 in
    let found = found_alone kept types groups rolled number first known stood (same there) in
    let fits : get nat_cmp kept.numbers number ≡ None → alone ≡ None = λ e. (
    let both : None ≡ Some (Some first) = sym e ∙ stood in cc) in
    let P : List SubType → Type 0 = λ r. IsFound groups r (Some first) in (
      stands_found groups rolled own (Some first) found,
      λ g own_rolled own_stands. knows_again after more groups g first
          (extended groups (knows_noted kept after number alone notes types groups fits known)) (subst P (sym own_rolled) found),
    )

-- that of the type itself, if nothing stood at the number, or of an earlier one
keeps_by : (kept after : Groups) (types : List SubType) (ty : SubType) (own first : ℕ) → own ≡ length types → Notes kept after (mix_types (ty ∷ [])) (Some own) → get nat_cmp after.numbers (mix_types (ty ∷ [])) ≡ Some (Some first) → (IsSome (slice_get types first) → alone_at types first ≡ Some (ty ∷ [])) → (o : Option (Option ℕ)) → get nat_cmp kept.numbers (mix_types (ty ∷ [])) ≡ o → Keeps kept after types (types ++ ty ∷ []) (ty ∷ []) own first
keeps_by kept after types ty own first last notes stands same (Some x) e =
    let is : Some x ≡ Some (Some first) = sym (notes.numbers.1 ∙ ap (λ o. Some (unwrap_or o (Some own))) e) ∙ stands in
    keeps_again kept after types (types ++ ty ∷ []) (ty ∷ []) (mix_types (ty ∷ [])) own first (Some own) notes (e ∙ is) same
    (λ groups known. knows_more after types (ty ∷ []) groups known)
keeps_by kept after types ty own first last notes stands same None e =
    let is : Some (Some own) ≡ Some (Some first) = sym (notes.numbers.1 ∙ ap (λ o. Some (unwrap_or o (Some own))) e) ∙ stands in
    let own_first : own ≡ first = ap (λ o. unwrap_or (unwrap_or o None) 0) is in
    λ groups known.
    let none = known.unkept (ty ∷ []) e in
    let S : ℕ → Type 0 = λ n. StandsFor groups (ty ∷ []) own n in
    let N : Option ℕ → Type 0 = λ o. Notes kept after (mix_types (ty ∷ [])) o in (
      subst S own_first (stands_found groups (ty ∷ []) own None none),
      λ g own_rolled own_stands.
          knows_alone kept after (types ++ ty ∷ []) groups (ty ∷ []) g (knows_more kept types (ty ∷ []) groups known) none own_rolled
          (ap (alone_at (types ++ ty ∷ [])) (own_stands ∙ sym own_first ∙ last) ∙ alone_last types ty) e
          (subst N (ap Some (own_first ∙ sym own_stands)) notes),
    )

pub keeps_alone : (kept after : Groups) (types : List SubType) (ty : SubType) (number own first : ℕ) → number ≡ mix_types (ty ∷ []) → own ≡ length types → Notes kept after number (Some own) → get nat_cmp after.numbers number ≡ Some (Some first) → (IsSome (slice_get types first) → alone_at types first ≡ Some (ty ∷ [])) → Keeps kept after types (types ++ ty ∷ []) (ty ∷ []) own first
keeps_alone kept after types ty number own first mixed last notes stands same =
    let N : ℕ → Type 0 = λ n. Notes kept after n (Some own) in
    keeps_by kept after types ty own first last (subst N mixed notes) (ap (λ n. get nat_cmp after.numbers n) (sym mixed) ∙ stands) same
    (get nat_cmp kept.numbers (mix_types (ty ∷ []))) refl

-- that of an equal type that stood at the number, where no type was put there
pub keeps_noted : (kept after : Groups) (types rolled : List SubType) (number own first : ℕ) → Notes kept after number None → get nat_cmp after.numbers number ≡ Some (Some first) → (IsSome (slice_get types first) → alone_at types first ≡ Some rolled) → Keeps kept after types types rolled own first
keeps_noted kept after types rolled number own first notes stands same =
    keeps_again kept after types types rolled number own first None notes
    (stood_alone kept after number None notes number first (is_eq (nat_cmp number number)) refl (λ e. refl) stands) same
    (λ groups known. known)

-- that of an equal group among the others, or its own
pub keeps_other : (kept noted after : Groups) (types : List SubType) (key : RolledGroup) (own first : ℕ) (alone : Option ℕ) → IsMixed key → Notes kept noted key.mixed alone → (get nat_cmp kept.numbers key.mixed ≡ None → alone ≡ None) → IsUnlike noted types key.mixed key.types.items → first ≡ unwrap_or (get rolled_cmp noted.others key) own → Updates rolled_cmp noted.others after.others key (Some first) → after.numbers ≡ noted.numbers → Keeps kept after types types key.types.items own first
keeps_other kept noted after types key own first alone mixed notes fits unlike is updates same = λ groups known.
    let k = knows_noted kept noted key.mixed alone notes types groups fits known in
    let found = k.others key mixed (λ f e. (unlike f e).1) in
    let taken : get nat_cmp noted.numbers key.mixed ≢ None = λ e. (
    let both : None ≡ Some (unwrap_or (get nat_cmp kept.numbers key.mixed) alone) = sym e ∙ notes.numbers.1 in cc) in
    let S : ℕ → Type 0 = λ n. StandsFor groups key.types.items own n in
    let U : ℕ → Type 0 = λ n. Updates rolled_cmp noted.others after.others key (Some n) in (
      subst S (sym is) (stands_found groups key.types.items own (get rolled_cmp noted.others key) found),
      λ g own_rolled stands.
          knows_other noted after types groups key g own mixed k found own_rolled (stands ∙ is) same taken (subst U (sym stands) updates),
    )

-- a type stood at the number of one that is found to be another, since it isn't declared yet
pub stood_before : (kept after : Groups) (types group : List SubType) (number own : ℕ) → own ≡ length types → Notes kept after number (Some own) → IsUnlike after types number group → get nat_cmp kept.numbers number ≡ None → Some own ≡ None
stood_before kept after types group number own last notes unlike none =
    let here : get nat_cmp after.numbers number ≡ Some (Some own) = notes.numbers.1 ∙ ap (λ o. Some (unwrap_or o (Some own))) none in
    let past : slice_get types own ≡ None = slice_get_past types own (le_of_eq (sym last)) in
    absurd (true≢false (sym (unlike own here).0 ∙ ap is_some past))

-- ---- how many types there are

pub types_counted : (groups : List Group) → length (types_of groups) ≡ length (canonical_of groups)
types_counted [] = refl
types_counted (g ∷ groups) =
    length-append g.types (types_of groups)
    ∙ ap (λ n. length g.types + n) (types_counted groups)
    ∙ ap (λ n. n + length (canonical_of groups)) (sym (length-range_with_len g.first (length g.types)))
    ∙ sym (length-append (range_with_len g.first (length g.types)) (canonical_of groups))

-- ---- one type

-- a type that is read however its group's are named, as a group alone
pub has_one : (canonical : List ℕ) (names : GroupNames) (bytes : List ℕ) (ty : SubType) (rest : List ℕ) → ReadsAnyhow canonical bytes ty rest → HasTypes canonical names 1 bytes (ty ∷ []) rest
has_one canonical names bytes ty rest h = record {
  types = lying (0, 0) canonical names;
  are_before = refl;
  are_own = refl;
  are_read = ap (λ o. option_and_then {U = List SubType × List ℕ} (λ (x : SubType × List ℕ). Some (x.0 ∷ [], x.1)) o) (h (lying (0, 0) canonical names) refl);
}

-- ---- the types of a group more

module _ (before : List Group) (section : TypeSection) (kept : Groups) (h : HasRead section kept before) where
  pub as_many : length section.canonical.items ≡ length section.types.items
  as_many =
      ap length h.canonical ∙ sym (types_counted before) ∙ ap length (sym h.types)

  -- of any group, which is read twice
  pub read_twice : (count : ℕ) (bytes rest end : List ℕ) (after : TypeSection) (noted : Groups) (rolled read : List SubType) (own first : ℕ) → own ≡ length section.canonical.items → HasTypes section.canonical.items Places count bytes rolled rest → Keeps kept noted section.types.items section.types.items rolled own first → HasTypes section.canonical.items (Indices first) count bytes read end → after.types.items ≡ section.types.items ++ read → after.canonical.items ≡ section.canonical.items ++ range_with_len first count → after.groups ≡ section.groups → HasReadTypes before count bytes rest section after noted
  read_twice count bytes rest end after noted rolled read own first is are_rolled keeps are_declared t c g =
      let k = keeps before h.known in
      let S : ℕ → Type 0 = λ n. StandsFor before rolled n first in record {
        rolled = rolled;
        are_rolled = are_rolled;
        first = first;
        stands = subst S is k.0;
        types = read;
        end = end;
        are_declared = are_declared;
        are_types = t;
        are_canonical = c;
        are_groups = g;
        known = λ x own_rolled stands. (
            let N : List SubType → Type 0 = λ types. Knows noted types (before ++ x ∷ []) in
            subst N (sym t) (knows_more noted section.types.items read (before ++ x ∷ []) (k.1 x own_rolled stands)));
      }

  -- of one type alone, which is read once
  pub read_once : (bytes rest : List ℕ) (after : TypeSection) (noted : Groups) (ty : SubType) (own first : ℕ) → own ≡ length section.canonical.items → ReadsAnyhow section.canonical.items bytes ty rest → Keeps kept noted section.types.items (section.types.items ++ ty ∷ []) (ty ∷ []) own first → after.types.items ≡ section.types.items ++ ty ∷ [] → after.canonical.items ≡ section.canonical.items ++ first ∷ [] → after.groups ≡ section.groups → HasReadTypes before 1 bytes rest section after noted
  read_once bytes rest after noted ty own first is reads keeps t c g =
      let k = keeps before h.known in
      let S : ℕ → Type 0 = λ n. StandsFor before (ty ∷ []) n first in record {
        rolled = ty ∷ [];
        are_rolled = has_one section.canonical.items Places bytes ty rest reads;
        first = first;
        stands = subst S is k.0;
        types = ty ∷ [];
        end = rest;
        are_declared = has_one section.canonical.items (Indices first) bytes ty rest reads;
        are_types = t;
        are_canonical = c;
        are_groups = g;
        known = λ x own_rolled stands. (
            let N : List SubType → Type 0 = λ types. Knows noted types (before ++ x ∷ []) in
            subst N (sym t) (k.1 x own_rolled stands));
      }

-- ---- answers

pub both_ok : {T E : Type 0} (r : Result T E) (P Q R : T → Type 0) → ((x : T) → P x → Q x → R x) → IfOk r P → IfOk r Q → IfOk r R
both_ok (Ok x) P Q R f p q = f x p q
both_ok (Err e) P Q R f p q = tt
