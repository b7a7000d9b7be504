-- The steps of operators that make a struct with a descriptor, read one, or cast by one, by their pops: once the
-- descriptor is popped, a struct is made, or a cast is one, like others.
use Rattle.std.proofs.Common.{◌≡◌, ◌≢◌, ℕ, Bool, true, false, not, ◌&&◌, ◌||◌, List, [], ◌∷◌, ◌++◌, reverse, Option, Some, None, refl, sym, ap, ap₂, ◌∙◌}
use Rattle.std.specs.Option.{option_map, option_and_then}
use Rattle.std.proofs.lemmas.List.{reverse-append}
use Rattle.validate_resources.specs.Context.{ModuleContext}
use Rattle.validate_types.specs.Refs.{nullable_reference, non_null_reference, is_exact}
use Rattle.validate_types.specs.declared.heap.HeapType.{HeapType}
use Rattle.validate_types.specs.declared.heap.HeapType.TheVariants.{Exact}
use Rattle.validate_types.specs.declared.heap.UnpackedIndex.{UnpackedIndex}
use Rattle.validate_types.specs.declared.heap.UnpackedIndex.TheVariants.{Module}
use Rattle.validate_types.specs.declared.refs.RefType.{RefType}
use Rattle.validate_types.specs.declared.types.FieldType.{FieldType}
use Rattle.validate_visit.specs.declared.op.BranchCast.{BranchCast}
use Rattle.validation_rules.specs.Branches.{has_label, label_types_at}
use Rattle.validation_rules.specs.Casts.{CastTypes, cast_type, cast_operand, checked_cast, split_last, with_last, cast_branch_row_for, cast_branch_row}
use Rattle.validation_rules.specs.Context.{ValType, Ref, Context}
use Rattle.validation_rules.specs.Descriptors.{descriptor_at, descriptor, descriptor_in, is_found_exact, get_desc_pushes, ref_get_desc_row, tested_row_if, is_below_if_known, is_cast_descriptor, ref_cast_desc_eq_row, without_last, descriptor_branch_row_for, descriptor_branch_row, cast_desc_eq_branch_row}
use Rattle.validation_rules.specs.Exact.{declared_heap, allocated_reference}
use Rattle.validation_rules.specs.Fits.{MaybeType, Known, fits}
use Rattle.validation_rules.specs.Indirect.{type_reference}
use Rattle.validation_rules.specs.Operators.{plain_row, plain_row_if, lookup_row, lookups_row, never_row, looking_row, row_operator, staying_operator}
use Rattle.validation_rules.specs.Rows.{Head, Row, guard}
use Rattle.validation_rules.specs.Static.{Frame, heads}
use Rattle.validation_rules.specs.Structs.{struct_type, described_row_for}
use Rattle.validate_stacks.specs.AtOnce.{body_dropped}
use Rattle.validate_stacks.specs.Pops.{may_pop, body_popped_each, body_pushed_each, has_operands_fitting}
use Rattle.validate_stacks.specs.State.{BodyState, body_context}
use Rattle.validate_stacks.specs.Steps.{found_in_body, body_popped, body_pushed}
use Rattle.validate_stacks.specs.Visits.{step_body}
use Rattle.validation_rules.proofs.Steps.{some_injective}
use Rattle.validate_stacks.proofs.Validity.{popped_kept}
use Rattle.validate_stacks.proofs.AtOnce.{popped_dropped}
use Rattle.validate_stacks.proofs.Moves.{not_popped, fits_now}
use Rattle.validate_stacks.proofs.Whole.{popped_none, popped_next}
use Rattle.validate_shapes.proofs.BranchSteps.{popped_heads, pushes_is}
use Rattle.validate_shapes.proofs.LookupRows.{at_labels, barred}
use Rattle.validate_shapes.proofs.ReferenceSteps.{one_is, tested_types, tested_is}
use Rattle.validate_shapes.proofs.Rows.{row_then, same_row, same_context, not_plain}
use Rattle.validate_rows_gc.specs.Descriptors.{found_descriptor, found_new_descriptor}

-- x alone, where the test holds
alone : (b : Bool) (x : MaybeType) → guard b (Some (x ∷ [])) ≡ option_map (λ (y : MaybeType). y ∷ []) (guard b (Some x))
alone true x = refl
alone false x = refl

guard_none : {A : Type 0} (b : Bool) → guard {A = A} b None ≡ None
guard_none true = refl
guard_none false = refl

-- a pop leaves a frame open
popped_open : (v : BodyState) → v.present.frames ≢ [] → (body_popped v).present.frames ≢ []
popped_open v o e = by v.present.frames refl (sym (popped_heads v) ∙ ap heads e)
  where
    by : (fs : List Frame) → v.present.frames ≡ fs → heads fs ≡ [] → ⊥
    by [] k q = o k
    by (f ∷ fs) k q = cc

-- the row of what is made with a descriptor, by the type of that
pub described_as : (md : ModuleContext) (v : BodyState) (i : ℕ) (d : ValType) → option_map (descriptor true) (descriptor_at md i) ≡ Some d → (row : ValType → List FieldType → ValType → Row) → described_row_for (body_context md v) i row ≡ lookups_row (struct_type (body_context md v) i) (allocated_reference (body_context md v) i) (row d)
described_as md v i d e row = by (descriptor_at md i) e
  where
    under : ValType → Row
    under t = lookups_row (struct_type (body_context md v) i) (allocated_reference (body_context md v) i) (row t)

    by : (q : Option UnpackedIndex) → option_map (descriptor true) q ≡ Some d → lookup_row q (λ u. under (descriptor true u)) ≡ under d
    by None k = absurd cc
    by (Some u) k = ap under (some_injective (descriptor true u) d k)

-- an operand that fits can be popped, and one that doesn't can't
pub is_there : (md : ModuleContext) (v : BodyState) (w : ValType) → has_operands_fitting (body_context md v) (w ∷ []) (body_dropped 0 v) ≡ true → may_pop (body_context md v) (found_in_body v) (Some w) ≡ true
is_there md v w h = passed _ _ _ (sym (popped_next md w [] v) ∙ popped_dropped md (w ∷ []) v (fits_now md (w ∷ []) v true h))
  where
    passed : (b : Bool) (q : Option BodyState) (x : BodyState) → guard b q ≡ Some x → b ≡ true
    passed true q x e = refl
    passed false q x e = absurd cc

pub not_there : (md : ModuleContext) (v : BodyState) → v.present.frames ≢ [] → (w : ValType) → has_operands_fitting (body_context md v) (w ∷ []) (body_dropped 0 v) ≡ false → may_pop (body_context md v) (found_in_body v) (Some w) ≡ false
not_there md v o w h =
    let b = may_pop (body_context md v) (found_in_body v) (Some w) in
    shut b (body_popped v) (sym (popped_next md w [] v ∙ ap (guard b) (popped_none md (body_popped v))) ∙ not_popped md (w ∷ []) v o (fits_now md (w ∷ []) v false h))
  where
    shut : (b : Bool) (x : BodyState) → guard b (Some x) ≡ None → b ≡ false
    shut true x e = absurd cc
    shut false x e = refl

-- ---- the descriptor by which something is cast

module _ (cx : Context) (exact : Bool) (d : UnpackedIndex) where
  pub another_descriptor : (f : Option MaybeType) → may_pop cx f (Some (descriptor false d)) ≡ false → found_descriptor cx exact d f ≡ false
  another_descriptor None h = refl
  another_descriptor (Some x) h = ap (λ b. b && (not exact || is_below_if_known cx.of_module (descriptor true d) x)) h

  -- one of its type, which is asked to be exact
  pub that_descriptor : (f : Option MaybeType) (x : MaybeType) → f ≡ Some x → may_pop cx f (Some (descriptor false d)) ≡ true → found_descriptor cx exact d f ≡ (not exact || is_below_if_known cx.of_module (descriptor true d) x)
  that_descriptor f x e h =
      ap (found_descriptor cx exact d) e
      ∙ ap (λ b. b && (not exact || is_below_if_known cx.of_module (descriptor true d) x)) (sym (ap (λ g. may_pop cx g (Some (descriptor false d))) e) ∙ h)

module _ (md : ModuleContext) (v : BodyState) (o : v.present.frames ≢ []) where
  abbrev cx : Context
  cx = body_context md v

  -- ---- structs that are made with a descriptor

  -- a plain row, by the pop of the operand on top
  above_plain : (p : Bool) (ws : List ValType) (w : ValType) (ps : List ValType) → step_body md (λ c. row_operator (plain_row_if p (ws ++ w ∷ []) ps)) v ≡ guard (may_pop cx (found_in_body v) (Some w)) (step_body md (λ c. row_operator (plain_row_if p ws ps)) (body_popped v))
  above_plain false ws w ps =
      let b = may_pop cx (found_in_body v) (Some w) in
      not_plain md v (ws ++ w ∷ []) ps
      ∙ sym (ap (guard b) (not_plain md (body_popped v) ws ps) ∙ guard_none b)
  above_plain true ws w ps =
      let b = may_pop cx (found_in_body v) (Some w) in
      let push : Option BodyState → Option BodyState = option_map (λ u. body_pushed_each ps u) in
      row_then md v None None (ws ++ w ∷ []) ps o
      ∙ (ap push (ap (λ rs. body_popped_each md rs v) (reverse-append ws (w ∷ [])) ∙ popped_next md w (reverse ws) v)
      ∙ (guarded b (body_popped_each md (reverse ws) (body_popped v))
      ∙ ap (guard b) (sym (row_then md (body_popped v) None None ws ps (popped_open v o)))))
    where
      guarded : (b : Bool) (q : Option BodyState) → option_map (λ u. body_pushed_each ps u) (guard b q) ≡ guard b (option_map (λ u. body_pushed_each ps u) q)
      guarded true q = refl
      guarded false q = refl

  module _ (has : List FieldType → Bool) (expected : List FieldType → List ValType) (i : ℕ) where
    -- what is made of it below the descriptor
    abbrev under_row : List FieldType → ValType → Row
    under_row fields t = plain_row_if (has fields) (expected fields) (t ∷ [])

    abbrev with_descriptor : ValType → List FieldType → ValType → Row
    with_descriptor d fields t = plain_row_if (has fields) (expected fields ++ d ∷ []) (t ∷ [])

    by_descriptor : (d : UnpackedIndex) → descriptor_at md i ≡ Some d → step_body md (λ c. row_operator (described_row_for c i with_descriptor)) v ≡ guard (may_pop cx (found_in_body v) (Some (descriptor true d))) (step_body md (λ c. row_operator (lookups_row (struct_type c i) (allocated_reference c i) under_row)) (body_popped v))
    by_descriptor d e =
        let b = may_pop cx (found_in_body v) (Some (descriptor true d)) in
        same_row md v (λ c. row_operator (described_row_for c i with_descriptor)) (row_operator (lookups_row (struct_type cx i) (allocated_reference cx i) (with_descriptor (descriptor true d))))
        (ap (λ q. row_operator (lookup_row q (λ d. lookups_row (struct_type cx i) (allocated_reference cx i) (with_descriptor (descriptor true d))))) e)
        ∙ (by b refl (struct_type cx i) (allocated_reference cx i)
        ∙ ap (guard b) (sym (same_row md (body_popped v) (λ c. row_operator (lookups_row (struct_type c i) (allocated_reference c i) under_row)) (row_operator (lookups_row (struct_type cx i) (allocated_reference cx i) under_row))
        (ap (λ (c : Context). row_operator (lookups_row (struct_type c i) (allocated_reference c i) under_row)) (sym (same_context md v (body_popped v) (popped_kept v)))))))
      where
        none : (b : Bool) → step_body md (λ c. row_operator never_row) v ≡ guard b (step_body md (λ c. row_operator never_row) (body_popped v))
        none b = not_plain md v [] [] ∙ sym (ap (guard b) (not_plain md (body_popped v) [] []) ∙ guard_none b)

        by : (b : Bool) → may_pop cx (found_in_body v) (Some (descriptor true d)) ≡ b → (f : Option (List FieldType)) (a : Option ValType) → step_body md (λ c. row_operator (lookups_row f a (with_descriptor (descriptor true d)))) v ≡ guard b (step_body md (λ c. row_operator (lookups_row f a under_row)) (body_popped v))
        by b e None a = none b
        by b e (Some fields) None = none b
        by b e (Some fields) (Some t) =
            above_plain (has fields) (expected fields) (descriptor true d) (t ∷ [])
            ∙ ap (λ c. guard c (step_body md (λ c. row_operator (under_row fields t)) (body_popped v))) e

    -- there is no descriptor, or what is found isn't one
    pub made_missing : found_new_descriptor cx (descriptor_at md i) (found_in_body v) ≡ false → step_body md (λ c. row_operator (described_row_for c i with_descriptor)) v ≡ None
    made_missing n = by (descriptor_at md i) refl n
      where
        by : (q : Option UnpackedIndex) → descriptor_at md i ≡ q → found_new_descriptor cx q (found_in_body v) ≡ false → step_body md (λ c. row_operator (described_row_for c i with_descriptor)) v ≡ None
        by None e k =
            barred md v (λ c hs. described_row_for c i with_descriptor)
            (ap (λ q. (lookup_row q (λ d. lookups_row (struct_type cx i) (allocated_reference cx i) (with_descriptor (descriptor true d)))).premise) e)
        by (Some d) e k =
            by_descriptor d e
            ∙ ap (λ b. guard b (step_body md (λ c. row_operator (lookups_row (struct_type c i) (allocated_reference c i) under_row)) (body_popped v))) k

  -- ---- `ref.get_desc`

  -- what is pushed for the operand that is found
  abbrev descriptor_of_found : HeapType → UnpackedIndex → MaybeType → MaybeType
  descriptor_of_found h d x = Known (Ref (non_null_reference (declared_heap (is_found_exact md h x) d)))

  pub undescribed : (i : ℕ) → descriptor_at md i ≡ None → step_body md (λ c. row_operator (ref_get_desc_row c i)) v ≡ None
  undescribed i n =
      barred md v (λ c hs. ref_get_desc_row c i)
      (ap (λ q. (lookup_row q (λ d. lookups_row (type_reference cx nullable_reference i) (md.canonical_heap (Exact (Module i))) (λ t h. looking_row 1 (get_desc_pushes cx t h d)))).premise) n)

  -- there is no such type
  pub untyped : (i : ℕ) → type_reference cx nullable_reference i ≡ None → (ref_get_desc_row cx i).premise ≡ false
  untyped i n = ap (λ q. (lookup_row (descriptor_at md i) (λ d. lookups_row q (md.canonical_heap (Exact (Module i))) (λ t h. looking_row 1 (get_desc_pushes cx t h d)))).premise) n ∙ by (descriptor_at md i)
    where
      by : (q : Option UnpackedIndex) → (lookup_row q (λ d. never_row)).premise ≡ false
      by None = refl
      by (Some d) = refl

  pub not_exact : (i : ℕ) → md.canonical_heap (Exact (Module i)) ≡ None → (ref_get_desc_row cx i).premise ≡ false
  not_exact i n =
      ap (λ q. (lookup_row (descriptor_at md i) (λ d. lookups_row (type_reference cx nullable_reference i) q (λ t h. looking_row 1 (get_desc_pushes cx t h d)))).premise) n
      ∙ by (descriptor_at md i) (type_reference cx nullable_reference i)
    where
      by : (q : Option UnpackedIndex) (t : Option ValType) → (lookup_row q (λ d. lookup_row t (λ t. never_row))).premise ≡ false
      by None t = refl
      by (Some d) None = refl
      by (Some d) (Some t) = refl

  module _ (i : ℕ) (t : ValType) (h : HeapType) (typed : type_reference cx nullable_reference i ≡ Some t) (canonical : md.canonical_heap (Exact (Module i)) ≡ Some h) where
    described : (d : UnpackedIndex) → descriptor_at md i ≡ Some d → step_body md (λ c. row_operator (ref_get_desc_row c i)) v ≡ option_map (λ (y : MaybeType). body_pushed y (body_popped v)) (option_and_then (λ x. guard (fits cx x t) (Some (descriptor_of_found h d x))) (found_in_body v))
    described d e =
        same_row md v (λ c. row_operator (ref_get_desc_row c i)) (row_operator (looking_row 1 (get_desc_pushes cx t h d)))
        (ap (λ q. row_operator (lookup_row q (λ d. lookups_row (type_reference cx nullable_reference i) (md.canonical_heap (Exact (Module i))) (λ t h. looking_row 1 (get_desc_pushes cx t h d))))) e
        ∙ (ap (λ q. row_operator (lookups_row q (md.canonical_heap (Exact (Module i))) (λ t h. looking_row 1 (get_desc_pushes cx t h d)))) typed
        ∙ ap (λ q. row_operator (lookup_row q (λ h. looking_row 1 (get_desc_pushes cx t h d)))) canonical))
        ∙ one_is md v o (λ c. get_desc_pushes cx t h d) (λ x. guard (fits cx x t) (Some (descriptor_of_found h d x))) (λ x. alone (fits cx x t) (descriptor_of_found h d x)) refl

    -- what is found doesn't fit
    pub get_missing : may_pop cx (found_in_body v) (Some t) ≡ false → step_body md (λ c. row_operator (ref_get_desc_row c i)) v ≡ None
    get_missing n = by (descriptor_at md i) refl
      where
        refused : (d : UnpackedIndex) (f : Option MaybeType) → may_pop cx f (Some t) ≡ false → option_map (λ (y : MaybeType). body_pushed y (body_popped v)) (option_and_then (λ x. guard (fits cx x t) (Some (descriptor_of_found h d x))) f) ≡ None
        refused d None k = refl
        refused d (Some x) k = ap (λ b. option_map (λ (y : MaybeType). body_pushed y (body_popped v)) (guard b (Some (descriptor_of_found h d x)))) k

        by : (q : Option UnpackedIndex) → descriptor_at md i ≡ q → step_body md (λ c. row_operator (ref_get_desc_row c i)) v ≡ None
        by None e = undescribed i e
        by (Some d) e = described d e ∙ refused d (found_in_body v) n

    pub get_there : (d : UnpackedIndex) (x : MaybeType) → descriptor_at md i ≡ Some d → found_in_body v ≡ Some x → may_pop cx (found_in_body v) (Some t) ≡ true → step_body md (λ c. row_operator (ref_get_desc_row c i)) v ≡ Some (body_pushed (descriptor_of_found h d x) (body_popped v))
    get_there d x e there passes =
        described d e
        ∙ (ap (λ f. option_map (λ (y : MaybeType). body_pushed y (body_popped v)) (option_and_then (λ x. guard (fits cx x t) (Some (descriptor_of_found h d x))) f)) there
        ∙ ap (λ b. option_map (λ (y : MaybeType). body_pushed y (body_popped v)) (guard b (Some (descriptor_of_found h d x)))) (sym (ap (λ f. may_pop cx f (Some t)) there) ∙ passes))

  -- ---- casts by a descriptor

  module _ (exact : Bool) (d : UnpackedIndex) (b : Bool) (found : found_descriptor cx exact d (found_in_body v) ≡ b) where
    -- the types below the descriptor, where it is one
    tested_top : (ts ps : List ValType) → tested_types md (is_cast_descriptor cx exact d) ts ps v ≡ guard b (option_map (λ u. body_pushed_each ps u) (body_popped_each md (reverse ts) (body_popped v)))
    tested_top ts ps = by (found_in_body v) found
      where
        by : (f : Option MaybeType) → found_descriptor cx exact d f ≡ b → option_and_then (λ x. guard (is_cast_descriptor cx exact d x) (option_map (λ u. body_pushed_each ps u) (body_popped_each md (reverse ts) (body_popped v)))) f ≡ guard b (option_map (λ u. body_pushed_each ps u) (body_popped_each md (reverse ts) (body_popped v)))
        by None e = ap (λ c. guard c (option_map (λ u. body_pushed_each ps u) (body_popped_each md (reverse ts) (body_popped v)))) e
        by (Some x) e = ap (λ c. guard c (option_map (λ u. body_pushed_each ps u) (body_popped_each md (reverse ts) (body_popped v)))) e

  -- the type that it leads to has no descriptors
  pub no_descriptor : (nullable : Bool) (h : HeapType) → descriptor_in md h ≡ None → (ref_cast_desc_eq_row cx nullable h).premise ≡ false
  no_descriptor nullable h n = ap (λ q. (lookups_row q (cast_type cx nullable h) (λ d r. tested_row_if true cx (is_cast_descriptor cx (is_exact h) d) (cast_operand md r ∷ []) (Ref r ∷ []))).premise) n

  -- the cast leads nowhere
  pub not_castable : (nullable : Bool) (h : HeapType) (d : UnpackedIndex) → descriptor_in md h ≡ Some d → cast_type cx nullable h ≡ None → step_body md (λ c. row_operator (ref_cast_desc_eq_row c nullable h)) v ≡ None
  not_castable nullable h d e n =
      barred md v (λ c hs. ref_cast_desc_eq_row c nullable h)
      (ap (λ q. (lookups_row q (cast_type cx nullable h) (λ d r. tested_row_if true cx (is_cast_descriptor cx (is_exact h) d) (cast_operand md r ∷ []) (Ref r ∷ []))).premise) e
      ∙ ap (λ q. (lookup_row q (λ r. tested_row_if true cx (is_cast_descriptor cx (is_exact h) d) (cast_operand md r ∷ []) (Ref r ∷ []))).premise) n)

  cast_is : (nullable : Bool) (h : HeapType) (d : UnpackedIndex) (r : RefType) → descriptor_in md h ≡ Some d → cast_type cx nullable h ≡ Some r → step_body md (λ c. row_operator (ref_cast_desc_eq_row c nullable h)) v ≡ tested_types md (is_cast_descriptor cx (is_exact h) d) (cast_operand md r ∷ []) (Ref r ∷ []) v
  cast_is nullable h d r e k =
      same_row md v (λ c. row_operator (ref_cast_desc_eq_row c nullable h)) (row_operator (tested_row_if true cx (is_cast_descriptor cx (is_exact h) d) (cast_operand md r ∷ []) (Ref r ∷ [])))
      (ap (λ q. row_operator (lookups_row q (cast_type cx nullable h) (λ d r. tested_row_if true cx (is_cast_descriptor cx (is_exact h) d) (cast_operand md r ∷ []) (Ref r ∷ [])))) e
      ∙ ap (λ q. row_operator (lookup_row q (λ r. tested_row_if true cx (is_cast_descriptor cx (is_exact h) d) (cast_operand md r ∷ []) (Ref r ∷ [])))) k)
      ∙ tested_is md v o true (λ c. is_cast_descriptor c (is_exact h) d) (cast_operand md r ∷ []) (Ref r ∷ []) []

  -- the operand on top is no such descriptor
  pub cast_missing : (nullable : Bool) (h : HeapType) (d : UnpackedIndex) → descriptor_in md h ≡ Some d → found_descriptor cx (is_exact h) d (found_in_body v) ≡ false → step_body md (λ c. row_operator (ref_cast_desc_eq_row c nullable h)) v ≡ None
  cast_missing nullable h d e n = by (cast_type cx nullable h) refl
    where
      by : (q : Option RefType) → cast_type cx nullable h ≡ q → step_body md (λ c. row_operator (ref_cast_desc_eq_row c nullable h)) v ≡ None
      by None k = not_castable nullable h d e k
      by (Some r) k = cast_is nullable h d r e k ∙ tested_top (is_exact h) d false n (cast_operand md r ∷ []) (Ref r ∷ [])

  pub cast_rest : (nullable : Bool) (h : HeapType) (d : UnpackedIndex) (r : RefType) (u : BodyState) → descriptor_in md h ≡ Some d → cast_type cx nullable h ≡ Some r → found_descriptor cx (is_exact h) d (found_in_body v) ≡ true → u ≡ body_popped v → step_body md (λ c. row_operator (ref_cast_desc_eq_row c nullable h)) v ≡ step_body md (λ c. row_operator (plain_row (cast_operand md r ∷ []) (Ref r ∷ []))) u
  cast_rest nullable h d r u e k found popped =
      cast_is nullable h d r e k
      ∙ (tested_top (is_exact h) d true found (cast_operand md r ∷ []) (Ref r ∷ [])
      ∙ (sym (row_then md (body_popped v) None None (cast_operand md r ∷ []) (Ref r ∷ []) (popped_open v o))
      ∙ ap (λ (w : BodyState). step_body md (λ c. row_operator (plain_row (cast_operand md r ∷ []) (Ref r ∷ []))) w) (sym popped)))

  -- ---- branches by a cast by a descriptor

  -- the types aren't those of a cast, or the type that it leads to has no descriptors
  pub not_cast : (types : RefType × RefType → CastTypes) (cast : BranchCast) (hs : List Head) → checked_cast cx cast ≡ None → (cast_desc_eq_branch_row cx hs types cast).premise ≡ false
  not_cast types cast hs n =
      ap (λ q. (lookups_row (descriptor_in md cast.to_ref_type.heap_type) q (λ d p. descriptor_branch_row cx hs (is_cast_descriptor cx (is_exact cast.to_ref_type.heap_type) d) cast.relative_depth (types p))).premise) n
      ∙ by (descriptor_in md cast.to_ref_type.heap_type)
    where
      by : (q : Option UnpackedIndex) → (lookup_row q (λ d. never_row)).premise ≡ false
      by None = refl
      by (Some d) = refl

  pub without_descriptor : (types : RefType × RefType → CastTypes) (cast : BranchCast) (hs : List Head) → descriptor_in md cast.to_ref_type.heap_type ≡ None → (cast_desc_eq_branch_row cx hs types cast).premise ≡ false
  without_descriptor types cast hs n =
      ap (λ q. (lookups_row q (checked_cast cx cast) (λ d p. descriptor_branch_row cx hs (is_cast_descriptor cx (is_exact cast.to_ref_type.heap_type) d) cast.relative_depth (types p))).premise) n

  module _ (types : RefType × RefType → CastTypes) (cast : BranchCast) (d : UnpackedIndex) (p : RefType × RefType) (e : descriptor_in md cast.to_ref_type.heap_type ≡ Some d) (k : checked_cast cx cast ≡ Some p) where
    abbrev exactly : Bool
    exactly = is_exact cast.to_ref_type.heap_type

    abbrev test : MaybeType → Bool
    test = is_cast_descriptor cx exactly d

    abbrev hs : List Head
    hs = heads v.present.frames

    abbrev depth : ℕ
    depth = cast.relative_depth

    abbrev label : Option (List ValType × ValType)
    label = guard (has_label hs depth) (split_last (label_types_at cx hs depth))

    branch_now : (q : Option (List ValType × ValType)) → label ≡ q → step_body md (λ c. staying_operator (λ hs. cast_desc_eq_branch_row c hs types cast)) v ≡ step_body md (λ c. row_operator (lookup_row q (descriptor_branch_row_for cx test depth (types p)))) v
    branch_now q is =
        at_labels md v (λ c hs. cast_desc_eq_branch_row c hs types cast)
        ∙ same_row md v (λ c. row_operator (cast_desc_eq_branch_row c hs types cast)) (row_operator (lookup_row q (descriptor_branch_row_for cx test depth (types p))))
        (ap (λ q. row_operator (lookups_row q (checked_cast cx cast) (λ d p. descriptor_branch_row cx hs (is_cast_descriptor cx exactly d) depth (types p)))) e
        ∙ (ap (λ q. row_operator (lookup_row q (λ p. descriptor_branch_row cx hs test depth (types p)))) k
        ∙ ap (λ q. row_operator (lookup_row q (descriptor_branch_row_for cx test depth (types p)))) is))

    -- the operand on top is no such descriptor
    pub branch_missing : found_descriptor cx exactly d (found_in_body v) ≡ false → step_body md (λ c. staying_operator (λ hs. cast_desc_eq_branch_row c hs types cast)) v ≡ None
    branch_missing n = by label refl
      where
        by : (q : Option (List ValType × ValType)) → label ≡ q → step_body md (λ c. staying_operator (λ hs. cast_desc_eq_branch_row c hs types cast)) v ≡ None
        by None is = branch_now None is ∙ not_plain md v [] []
        by (Some q) is =
            let b = md.below (Ref (types p).carried) q.1 in
            let expected = q.0 ++ Ref (types p).from ∷ [] in
            let left = q.0 ++ Ref (types p).left ∷ [] in
            branch_now (Some q) is
            ∙ (tested_is md v o b (λ c. is_cast_descriptor c exactly d) expected left (record { depth = depth; carried = λ found. with_last (Ref (types p).carried) (without_last found) } ∷ [])
            ∙ (ap (guard b) (tested_top exactly d false n expected left) ∙ guard_none b))

    pub branch_rest : (u : BodyState) → found_descriptor cx exactly d (found_in_body v) ≡ true → u ≡ body_popped v → step_body md (λ c. staying_operator (λ hs. cast_desc_eq_branch_row c hs types cast)) v ≡ step_body md (λ c. staying_operator (λ hs. cast_branch_row c hs depth (types p))) u
    branch_rest u found popped = by label refl ∙ ap (λ (w : BodyState). step_body md (λ c. staying_operator (λ hs. cast_branch_row c hs depth (types p))) w) (sym popped)
      where
        here : (q : Option (List ValType × ValType)) → label ≡ q → cast_branch_row (body_context md (body_popped v)) (heads (body_popped v).present.frames) depth (types p) ≡ lookup_row q (cast_branch_row_for cx depth (types p))
        here q is =
            ap₂ (λ (c : Context) hs. cast_branch_row c hs depth (types p)) (sym (same_context md v (body_popped v) (popped_kept v))) (popped_heads v)
            ∙ ap (λ q. lookup_row q (cast_branch_row_for cx depth (types p))) is

        by : (q : Option (List ValType × ValType)) → label ≡ q → step_body md (λ c. staying_operator (λ hs. cast_desc_eq_branch_row c hs types cast)) v ≡ step_body md (λ c. staying_operator (λ hs. cast_branch_row c hs depth (types p))) (body_popped v)
        by None is =
            branch_now None is
            ∙ (not_plain md v [] []
            ∙ sym (barred md (body_popped v) (λ c hs. cast_branch_row c hs depth (types p)) (ap (λ r. r.premise) (here None is))))
        by (Some q) is =
            let b = md.below (Ref (types p).carried) q.1 in
            let expected = q.0 ++ Ref (types p).from ∷ [] in
            let left = q.0 ++ Ref (types p).left ∷ [] in
            branch_now (Some q) is
            ∙ (tested_is md v o b (λ c. is_cast_descriptor c exactly d) expected left (record { depth = depth; carried = λ found. with_last (Ref (types p).carried) (without_last found) } ∷ [])
            ∙ (ap (guard b) (tested_top exactly d true found expected left)
            ∙ sym (pushes_is md (body_popped v) (popped_open v o) (λ c hs. cast_branch_row c hs depth (types p)) b expected left (record { depth = depth; carried = with_last (Ref (types p).carried) } ∷ []) (here (Some q) is))))
