-- A row that holds over the validator's operands holds over the machine's, which lie below them.
use Rattle.std.proofs.Common.{◌≡◌, ℕ, zero, suc, Bool, true, false, ◌&&◌, ◌||◌, ◌⊎◌, inl, inr, List, [], ◌∷◌, ◌++◌, length, map, take, drop, Option, Some, None, refl, sym, ap, ◌∙◌, subst, slice_get, slice_index_or, nat_eq, nat_le}
use Rattle.std.specs.List.{list_any}
use Rattle.validate_resources.specs.Context.{IsLawful}
use Rattle.validation_rules.specs.Context.{ValType, Context, AllBelow}
use Rattle.validation_rules.specs.Fits.{MaybeType, Known, all_fit}
use Rattle.validation_rules.specs.Rows.{Head, results, is_if, is_try, may_catch, Form, Stays, Opens, BeginsElse, BeginsCatch, Ends, Delegates, Clause, Row, guard, expected_count, pushed_for, label_types}
use Rattle.validation_rules.specs.Static.{Frame, is_local_set, is_read_local_set, stack_with, operands_on_top, operands_found, operands_under, pushed_by_row, clauses_fit, clause_fits, label_accepts, first_set_after, may_close}
use Rattle.type_safety.specs.Machine.{Label, live_frame, types_on_top, set_after}
use Rattle.type_safety.proofs.Laws.{IsMonotoneAt, HeadAccepts, IsLawfulRow}
use Rattle.validation_rules.proofs.Below.{and_true, true_and, below-length, below-trans, below-take, below-drop, below-onto, below_of_fit, fit_of_below, drop-known, on_top-known, onto-known, length-known}
use Rattle.validation_rules.proofs.Steps.{pushed_by_form, if_fits, joined, some_injective, guard_some}

-- ---- sets of locals

abbrev pub IsWithin : List ℕ → List ℕ → Type 0
IsWithin xs ys = (i : ℕ) → list_any (nat_eq i) xs ≡ true → list_any (nat_eq i) ys ≡ true

or_cases : (a b : Bool) → a || b ≡ true → (a ≡ true) ⊎ (b ≡ true)
or_cases true b h = inl refl
or_cases false b h = inr h

or_left : (a b : Bool) → a ≡ true → a || b ≡ true
or_left true b h = refl
or_left false b h = cc

or_right : (a b : Bool) → b ≡ true → a || b ≡ true
or_right true b h = refl
or_right false b h = h

has_cases : (xs ys : List ℕ) (i : ℕ) → list_any (nat_eq i) (xs ++ ys) ≡ true → (list_any (nat_eq i) xs ≡ true) ⊎ (list_any (nat_eq i) ys ≡ true)
has_cases [] ys i h = inr h
has_cases (x ∷ xs) ys i h =
    elim (or_cases (nat_eq i x) (list_any (nat_eq i) (xs ++ ys)) h) [
      | inl e ↦ inl (or_left (nat_eq i x) (list_any (nat_eq i) xs) e)
      | inr e ↦ elim (has_cases xs ys i e) [ inl d ↦ inl (or_right (nat_eq i x) (list_any (nat_eq i) xs) d) | inr d ↦ inr d ]
    ]

has_left : (xs ys : List ℕ) (i : ℕ) → list_any (nat_eq i) xs ≡ true → list_any (nat_eq i) (xs ++ ys) ≡ true
has_left [] ys i h = absurd cc
has_left (x ∷ xs) ys i h =
    elim (or_cases (nat_eq i x) (list_any (nat_eq i) xs) h) [
      | inl e ↦ or_left (nat_eq i x) (list_any (nat_eq i) (xs ++ ys)) e
      | inr e ↦ or_right (nat_eq i x) (list_any (nat_eq i) (xs ++ ys)) (has_left xs ys i e)
    ]

has_right : (xs ys : List ℕ) (i : ℕ) → list_any (nat_eq i) ys ≡ true → list_any (nat_eq i) (xs ++ ys) ≡ true
has_right [] ys i h = h
has_right (x ∷ xs) ys i h = or_right (nat_eq i x) (list_any (nat_eq i) (xs ++ ys)) (has_right xs ys i h)

pub within_right : (xs ys zs : List ℕ) → IsWithin (xs ++ ys) zs → IsWithin ys zs
within_right xs ys zs w i h = w i (has_right xs ys i h)

within_left : (xs ys zs : List ℕ) → IsWithin (xs ++ ys) zs → IsWithin xs zs
within_left xs ys zs w i h = w i (has_left xs ys i h)

within_both : (xs ys zs : List ℕ) → IsWithin xs zs → IsWithin ys zs → IsWithin (xs ++ ys) zs
within_both xs ys zs v w i h = elim (has_cases xs ys i h) [ inl e ↦ v i e | inr e ↦ w i e ]

one_within : (j : ℕ) (zs : List ℕ) → IsWithin (j ∷ []) (j ∷ zs)
one_within j zs i h = elim (or_cases (nat_eq i j) false h) [ inl e ↦ or_left (nat_eq i j) (list_any (nat_eq i) zs) e | inr e ↦ absurd cc ]

joined_within : (b : Bool) (i : ℕ) (xs ys zs : List ℕ) → IsWithin (xs ++ ys) zs → IsWithin (joined b xs i ++ ys) (i ∷ zs)
joined_within true i xs ys zs w j h = or_right (nat_eq j i) (list_any (nat_eq j) zs) (w j h)
joined_within false i xs ys zs w j h =
    within_both (xs ++ i ∷ []) ys (i ∷ zs)
    (within_both xs (i ∷ []) (i ∷ zs) (λ k e. or_right (nat_eq k i) (list_any (nat_eq k) zs) (within_left xs ys zs w k e)) (one_within i zs))
    (λ k e. or_right (nat_eq k i) (list_any (nat_eq k) zs) (within_right xs ys zs w k e))
    j h

-- the locals that a frame has set after an operator are within those of the machine
pub set_within : (cx : Context) (set : List ℕ) (sets : Option ℕ) (xs ys zs : List ℕ) → IsWithin (xs ++ ys) zs → IsWithin (first_set_after cx set sets xs ++ ys) (set_after sets zs)
set_within cx set None xs ys zs w = w
set_within cx set (Some i) xs ys zs w = joined_within (is_local_set cx.set_at_entry set i) i xs ys zs w

is_set_within : (cx : Context) (xs ys : List ℕ) (i : ℕ) → IsWithin xs ys → is_local_set cx.set_at_entry xs i ≡ true → is_local_set cx.set_at_entry ys i ≡ true
is_set_within cx xs ys i w h =
    elim (or_cases (list_any (nat_eq i) xs) (slice_index_or cx.set_at_entry i false) h) [
      | inl e ↦ or_left (list_any (nat_eq i) ys) (slice_index_or cx.set_at_entry i false) (w i e)
      | inr e ↦ or_right (list_any (nat_eq i) ys) (slice_index_or cx.set_at_entry i false) e
    ]

reads_within : (cx : Context) (xs ys : List ℕ) (o : Option ℕ) → IsWithin xs ys → is_read_local_set cx xs o ≡ true → is_read_local_set cx ys o ≡ true
reads_within cx xs ys None w h = refl
reads_within cx xs ys (Some i) w h = is_set_within cx xs ys i w h

-- ---- operands of a live frame whose operands are known

pub found_known : (n : ℕ) (f : Frame) (us : List ValType) → f.dead ≡ false → f.operands ≡ map Known us → operands_found n f ≡ map Known (types_on_top n us)
found_known n f us live own =
    ap (λ d. stack_with (operands_on_top n d f.operands) []) live
    ∙ ap (λ l. stack_with (operands_on_top n false l) []) own
    ∙ ap (λ l. stack_with l []) (on_top-known n us)
    ∙ onto-known (take n us) []

pub below_top_known : (n : ℕ) (f : Frame) (us : List ValType) → f.operands ≡ map Known us → operands_under n f ≡ map Known (drop n us)
below_top_known n f us own = ap (drop n) own ∙ drop-known n us

module _ (cx : Context) where
  pub top_below : (n : ℕ) (ts us : List ValType) → AllBelow cx ts us → AllBelow cx (types_on_top n ts) (types_on_top n us)
  top_below n ts us h = below-onto cx (take n ts) (take n us) [] [] (below-take cx n ts us h) tt

  pub rest_below : (n : ℕ) (ts us : List ValType) → AllBelow cx ts us → AllBelow cx (drop n ts) (drop n us)
  rest_below n ts us h = below-drop cx n ts us h

  -- ---- an operator that isn't a closing one

  pub record Passes (row : Row) (hs : List Head) (set : List ℕ) (l : Label) (us : List ValType) (pushed : List MaybeType) : Type 0 where
    pub premise : row.premise ≡ true
    pub clauses : clauses_fit cx hs row.clauses ≡ true
    pub monotone : IsMonotoneAt cx row.type (types_on_top (expected_count row.type) us) (types_on_top (expected_count row.type) l.operands) pushed
    pub holds : pushed_by_row cx row hs set (live_frame l) ≡ Some (map Known monotone.lower)

  pub passes : (row : Row) (hs : List Head) (set mset : List ℕ) (l : Label) (f : Frame) (us : List ValType) (pushed : List MaybeType) → IsLawfulRow cx hs row → f.dead ≡ false → f.operands ≡ map Known us → AllBelow cx l.operands us → IsWithin set mset → pushed_by_row cx row hs set f ≡ Some pushed → Passes row hs mset l us pushed
  passes row hs set mset l f us pushed laws live own below within p =
      let g = guard_some _ _ _ p in
      let a = and_true row.premise _ g.0 in
      let b = and_true (clauses_fit cx hs row.clauses) _ a.1 in
      let n = expected_count row.type in
      let fall = laws.monotone (types_on_top n us) (types_on_top n l.operands) pushed (top_below n l.operands us below) (ap (pushed_for cx row.type) (sym (found_known n f us live own)) ∙ g.1) in
      let test : (row.premise && (clauses_fit cx hs row.clauses && is_read_local_set cx mset row.reads)) ≡ true = true_and _ _ a.0 (true_and _ _ b.0 (reads_within cx set mset row.reads within b.1)) in
      record {
        premise = a.0;
        clauses = b.0;
        monotone = fall;
        holds = ap (λ t. guard t (pushed_for cx row.type (operands_found n (live_frame l)))) test ∙ ap (pushed_for cx row.type) (found_known n (live_frame l) l.operands refl refl) ∙ fall.passes;
      }

  pub clause_reaches : (hs : List Head) (types : List ValType) → label_accepts cx hs types ≡ true → HeadAccepts cx hs types
  clause_reaches [] types h = absurd cc
  clause_reaches (k ∷ hs) types h = below_of_fit cx types (label_types cx k) h

  pub each_clause : (hs : List Head) (cs : List Clause) → clauses_fit cx hs cs ≡ true → (j : ℕ) (c : Clause) → slice_get cs j ≡ Some c → HeadAccepts cx (drop c.depth hs) c.types
  each_clause hs [] h j c e = absurd cc
  each_clause hs (d ∷ cs) h zero c e =
      let a = and_true (clause_fits cx hs d) _ h in
      clause_reaches (drop c.depth hs) c.types (subst (λ x. clause_fits cx hs x ≡ true) (some_injective d c e) a.0)
  each_clause hs (d ∷ cs) h (suc j) c e = each_clause hs cs (and_true (clause_fits cx hs d) _ h).1 j c e

  -- ---- a closing operator

  closes_by : (l : Label) (f : Frame) (us : List ValType) → IsLawful cx.of_module → f.dead ≡ false → f.operands ≡ map Known us → AllBelow cx l.operands us → may_close cx f ≡ true → may_close cx (record { head = f.head; operands = map Known l.operands; dead = false; first_set = [] }) ≡ true
  closes_by l f us laws live own below h =
      let n = length (results cx f.head) in
      let a = and_true (nat_le (length f.operands) n) _ h in
      let len : length (map Known l.operands) ≡ length f.operands = length-known l.operands ∙ below-length cx l.operands us below ∙ sym (length-known us) ∙ ap length (sym own) in
      let fit = below_of_fit cx (types_on_top n us) (results cx f.head) (ap (λ x. all_fit cx x (results cx f.head)) (sym (found_known n f us live own)) ∙ a.1) in
      let lower = below-trans cx laws (types_on_top n l.operands) (types_on_top n us) (results cx f.head) (top_below n l.operands us below) fit in
      true_and _ _ (ap (λ m. nat_le m n) len ∙ a.0)
      (ap (λ x. all_fit cx x (results cx f.head)) (found_known n (live_frame l) l.operands refl refl) ∙ fit_of_below cx (types_on_top n l.operands) (results cx f.head) lower)

  closes_below : (l : Label) (f : Frame) (us : List ValType) → IsLawful cx.of_module → l.head ≡ f.head → f.dead ≡ false → f.operands ≡ map Known us → AllBelow cx l.operands us → may_close cx f ≡ true → may_close cx (live_frame l) ≡ true
  closes_below l f us laws head live own below h =
      subst (λ k. may_close cx (record { head = k; operands = map Known l.operands; dead = false; first_set = [] }) ≡ true) (sym head) (closes_by l f us laws live own below h)

  closing : (row : Row) (l : Label) (f : Frame) (us : List ValType) (kind kind' : Bool) → kind' ≡ kind → (pushed : List MaybeType) → IsLawful cx.of_module → l.head ≡ f.head → f.dead ≡ false → f.operands ≡ map Known us → AllBelow cx l.operands us → guard (row.premise && (kind && may_close cx f)) (Some []) ≡ Some pushed → (ps : List ValType) × (guard (row.premise && (kind' && may_close cx (live_frame l))) (Some []) ≡ Some (map Known ps))
  closing row l f us kind kind' same pushed laws head live own below p =
      let g = guard_some _ _ _ p in
      let a = and_true row.premise _ g.0 in
      let b = and_true kind _ a.1 in
      let test = true_and row.premise _ a.0 (true_and kind' _ (same ∙ b.0) (closes_below l f us laws head live own below b.1)) in
      ([], ap (λ t. guard t (Some [])) test)

  -- any operator: its row holds over the label read as a live frame
  pub holds_below : (row : Row) (hs : List Head) (set mset : List ℕ) (l : Label) (f : Frame) (us : List ValType) (form : Form) (pushed : List MaybeType) → IsLawful cx.of_module → IsLawfulRow cx hs row → l.head ≡ f.head → f.dead ≡ false → f.operands ≡ map Known us → AllBelow cx l.operands us → IsWithin set mset → pushed_by_form cx row hs set f form ≡ Some pushed → (ps : List ValType) × (pushed_by_form cx row hs mset (live_frame l) form ≡ Some (map Known ps))
  holds_below row hs set mset l f us Stays pushed laws rl head live own below within p =
      let a = passes row hs set mset l f us pushed rl live own below within p in
      (a.monotone.lower, a.holds)
  holds_below row hs set mset l f us (Opens o) pushed laws rl head live own below within p =
      let a = passes row hs set mset l f us pushed rl live own below within p in
      (a.monotone.lower, a.holds)
  holds_below row hs set mset l f us BeginsElse pushed laws rl head live own below within p =
      closing row l f us (is_if f.head.kind) (is_if l.head.kind) (ap (λ h. is_if h.kind) head) pushed laws head live own below p
  holds_below row hs set mset l f us (BeginsCatch all types) pushed laws rl head live own below within p =
      closing row l f us (may_catch f.head.kind) (may_catch l.head.kind) (ap (λ h. may_catch h.kind) head) pushed laws head live own below p
  holds_below row hs set mset l f us Ends pushed laws rl head live own below within p =
      closing row l f us (if_fits cx (is_if f.head.kind) f.head) (if_fits cx (is_if l.head.kind) l.head) (ap (λ h. if_fits cx (is_if h.kind) h) head) pushed laws head live own below p
  holds_below row hs set mset l f us Delegates pushed laws rl head live own below within p =
      closing row l f us (is_try f.head.kind) (is_try l.head.kind) (ap (λ h. is_try h.kind) head) pushed laws head live own below p
