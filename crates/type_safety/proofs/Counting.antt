-- Counting finds each delimiter: the openers of the blocks that are open, followed through the list.
use Rattle.std.proofs.Common.{◌≡◌, ◌<◌, ℕ, zero, suc, ◌+◌, Bool, true, false, List, [], ◌∷◌, length, map, drop, Some, refl, sym, ap, arith, ◌∙◌, subst, slice_get}
use Rattle.validation_rules.specs.Context.{BlockType, Context}
use Rattle.validation_rules.specs.Fits.{MaybeType, Known}
use Rattle.validation_rules.specs.Rows.{Head, params, results, body_head, is_if, is_try, may_catch, Form, Stays, Opens, BeginsElse, BeginsCatch, Ends, Delegates, Row, Operator, is_instruction}
use Rattle.validation_rules.specs.Static.{Frame, frame_after, frame_under, frame_with, opened_frame, heads, locals_set, state_with, open_state, start, state_before, IsAccepted}
use Rattle.validation_rules.proofs.Below.{and_true}
use Rattle.validation_rules.proofs.Steps.{pushed_by_form, after, some_injective, guard_some, drop_next, get_of_drop}
use Rattle.type_safety.specs.Machine.{Delimiter, delimiter, delimiters_from, forms_of, delimiters}
use Rattle.type_safety.specs.Counting.{DelimitsBlock, DelimitersAreFound}
use Rattle.type_safety.proofs.Delimiters.{rest_accepted, row_at}

module _ (code : List Operator) where
  -- at place b an opener stands, whose delimiters have all of these among them
  record Opener (ds : List Delimiter) (b : ℕ) : Type 0 where
    op : Operator
    is : slice_get code b ≡ Some op
    head : Head
    opens : op.form ≡ Opens head
    has : (j : ℕ) (m : Delimiter) → slice_get ds j ≡ Some m → (i : ℕ) × (slice_get (delimiters code b) i ≡ Some m)

  -- so at each of these places, the innermost first, where so many blocks stand open inside it
  abbrev Openers : ℕ → ℕ → List Form → List ℕ → Type 0
  Openers depth k forms [] = Unit {0}
  Openers depth k forms (b ∷ bs) = Opener (delimiters_from depth k forms) b × Openers (suc depth) k forms bs

  past : (d : Delimiter) (ds : List Delimiter) (b : ℕ) → Opener (d ∷ ds) b → Opener ds b
  past d ds b o = record { op = o.op; is = o.is; head = o.head; opens = o.opens; has = λ j m e. o.has (suc j) m e }

  past_staying : (depth k : ℕ) (forms : List Form) (bs : List ℕ) → Openers depth k (Stays ∷ forms) bs → Openers depth (suc k) forms bs
  past_staying depth k forms [] o = tt
  past_staying depth k forms (b ∷ bs) o = (o.0, past_staying (suc depth) k forms bs o.1)

  past_opener : (depth k : ℕ) (h : Head) (forms : List Form) (bs : List ℕ) → Openers depth k (Opens h ∷ forms) bs → Openers (suc depth) (suc k) forms bs
  past_opener depth k h forms [] o = tt
  past_opener depth k h forms (b ∷ bs) o = (o.0, past_opener (suc depth) k h forms bs o.1)

  outside_else : (depth k : ℕ) (forms : List Form) (bs : List ℕ) → Openers (suc depth) k (BeginsElse ∷ forms) bs → Openers (suc depth) (suc k) forms bs
  outside_else depth k forms [] o = tt
  outside_else depth k forms (b ∷ bs) o = (o.0, outside_else (suc depth) k forms bs o.1)

  outside_catch : (depth k : ℕ) (all : Bool) (types : _) (forms : List Form) (bs : List ℕ) → Openers (suc depth) k (BeginsCatch all types ∷ forms) bs → Openers (suc depth) (suc k) forms bs
  outside_catch depth k all types forms [] o = tt
  outside_catch depth k all types forms (b ∷ bs) o = (o.0, outside_catch (suc depth) k all types forms bs o.1)

  outside_end : (depth k : ℕ) (forms : List Form) (bs : List ℕ) → Openers (suc depth) k (Ends ∷ forms) bs → Openers depth (suc k) forms bs
  outside_end depth k forms [] o = tt
  outside_end depth k forms (b ∷ bs) o = (o.0, outside_end (suc depth) k forms bs o.1)

  outside_delegate : (depth k : ℕ) (forms : List Form) (bs : List ℕ) → Openers (suc depth) k (Delegates ∷ forms) bs → Openers depth (suc k) forms bs
  outside_delegate depth k forms [] o = tt
  outside_delegate depth k forms (b ∷ bs) o = (o.0, outside_delegate (suc depth) k forms bs o.1)

-- nothing follows once no frame is open
nothing_follows : (cx : Context) (ops : List Operator) (left : List MaybeType) (i : ℕ) (op : Operator) → slice_get ops i ≡ Some op → IsAccepted cx ops (state_with left []) → ⊥
nothing_follows cx [] left i op e a = absurd cc
nothing_follows cx (x ∷ ops) left i op e a = let d = a.1 in absurd cc

module _ (cx : Context) (code : List Operator) (ty : BlockType) (accepted : IsAccepted cx code (start ty)) where
  -- the frames but for the outermost one are those of these openers
  abbrev Opened : List ℕ → List Frame → Type 0
  Opened [] [] = ⊥
  Opened [] (f ∷ []) = f.head ≡ body_head ty
  Opened [] (f ∷ g ∷ fs) = ⊥
  Opened (b ∷ bs) [] = ⊥
  Opened (b ∷ bs) (f ∷ fs) = Opened bs fs

  -- from place k on: a delimiter that so many places behind it stands, and isn't the last operator
  abbrev Found : ℕ → List Operator → Type 0
  Found k ops =
      (bs : List ℕ) (fs : List Frame) → state_before cx code (start ty) k ≡ Some (open_state fs) → Opened bs fs → Openers code 0 k (forms_of ops) bs →
      (i : ℕ) (op : Operator) → slice_get ops i ≡ Some op → is_instruction op.form ≡ false → suc i < length ops → DelimitsBlock code (k + i) op.form

  same_opened : (bs : List ℕ) (f g : Frame) (fs : List Frame) → g.head ≡ f.head → Opened bs (f ∷ fs) → Opened bs (g ∷ fs)
  same_opened [] f g [] e o = e ∙ o
  same_opened [] f g (h ∷ fs) e o = elim o [ ]
  same_opened (b ∷ bs) f g fs e o = o

  -- the body itself has no other delimiter than its `end`
  only_end : (r : Row) (hs : List Head) (set : List ℕ) (f : Frame) (form : Form) (pushed : List MaybeType) → pushed_by_form cx r hs set f form ≡ Some pushed → f.head ≡ body_head ty → is_instruction form ≡ false → form ≡ Ends
  only_end r hs set f Stays pushed p o i = absurd cc
  only_end r hs set f (Opens h) pushed p o i = absurd cc
  only_end r hs set f Ends pushed p o i = refl
  only_end r hs set f BeginsElse pushed p o i =
      let g = guard_some _ _ _ p in
      let t = (and_true (is_if f.head.kind) _ (and_true r.premise _ g.0).1).0 in
      let d : true ≡ false = sym t ∙ ap (λ (h : Head). is_if h.kind) o in
      absurd cc
  only_end r hs set f (BeginsCatch all types) pushed p o i =
      let g = guard_some _ _ _ p in
      let t = (and_true (may_catch f.head.kind) _ (and_true r.premise _ g.0).1).0 in
      let d : true ≡ false = sym t ∙ ap (λ (h : Head). may_catch h.kind) o in
      absurd cc
  only_end r hs set f Delegates pushed p o i =
      let g = guard_some _ _ _ p in
      let t = (and_true (is_try f.head.kind) _ (and_true r.premise _ g.0).1).0 in
      let d : true ≡ false = sym t ∙ ap (λ (h : Head). is_try h.kind) o in
      absurd cc

  -- what follows the closer of the outermost frame is empty
  ends_list : (k : ℕ) (ops : List Operator) (left : List MaybeType) (i : ℕ) (op : Operator) → drop (suc k) code ≡ ops → state_before cx code (start ty) (suc k) ≡ Some (state_with left []) → slice_get ops i ≡ Some op → ⊥
  ends_list k ops left i op d b e = nothing_follows cx ops left i op e (subst (λ v. IsAccepted cx v (state_with left [])) d (rest_accepted cx code (start ty) (suc k) _ b accepted))

  -- past one operator
  further : (k : ℕ) (x : Operator) (ops : List Operator) → slice_get code k ≡ Some x → drop (suc k) code ≡ ops → Found (suc k) ops → (form : Form) → x.form ≡ form → (r : Row) (hs : List Head) (set : List ℕ) (pushed : List MaybeType) (bs : List ℕ) (f : Frame) (fs : List Frame) → pushed_by_form cx r hs set f form ≡ Some pushed → state_before cx code (start ty) (suc k) ≡ Some (after cx r f fs form pushed) → Opened bs (f ∷ fs) → Openers code 0 k (form ∷ forms_of ops) bs → (i : ℕ) (op : Operator) → slice_get ops i ≡ Some op → is_instruction op.form ≡ false → suc i < length ops → DelimitsBlock code (suc k + i) op.form
  further k x ops at d ih Stays is r hs set pushed bs f fs p b o n = ih bs (frame_after cx r (locals_set (f ∷ fs)) pushed f ∷ fs) b (same_opened bs f _ fs refl o) (past_staying code 0 k (forms_of ops) bs n)
  further k x ops at d ih (Opens h) is r hs set pushed bs f fs p b o n =
      let opener : Opener code (delimiters_from 0 (suc k) (forms_of ops)) k = record { op = x; is = at; head = h; opens = is; has = λ j m e. (j, subst (λ v. slice_get (delimiters_from 0 (suc k) (forms_of v)) j ≡ Some m) (sym d) e) } in
      ih (k ∷ bs) (opened_frame h (params cx h) ∷ frame_under r f ∷ fs) b (same_opened bs f (frame_under r f) fs refl o) (opener, past_opener code 0 k h (forms_of ops) bs n)
  further k x ops at d ih BeginsElse is r hs set pushed (u ∷ bs) f fs p b o n = ih (u ∷ bs) _ b o (past code _ _ u n.0, outside_else code 0 k (forms_of ops) bs n.1)
  further k x ops at d ih BeginsElse is r hs set pushed [] f [] p b o n = let e = only_end r hs set f BeginsElse pushed p o refl in absurd cc
  further k x ops at d ih (BeginsCatch all types) is r hs set pushed (u ∷ bs) f fs p b o n = ih (u ∷ bs) _ b o (past code _ _ u n.0, outside_catch code 0 k all types (forms_of ops) bs n.1)
  further k x ops at d ih (BeginsCatch all types) is r hs set pushed [] f [] p b o n = let e = only_end r hs set f (BeginsCatch all types) pushed p o refl in absurd cc
  further k x ops at d ih Ends is r hs set pushed (u ∷ bs) f (g ∷ gs) p b o n = ih bs (frame_with (map Known (results cx f.head)) g ∷ gs) b (same_opened bs g _ gs refl o) (outside_end code 0 k (forms_of ops) bs n.1)
  further k x ops at d ih Ends is r hs set pushed [] f [] p b o n = λ i op e t w. absurd (ends_list k ops _ i op d b e)
  further k x ops at d ih Delegates is r hs set pushed (u ∷ bs) f (g ∷ gs) p b o n = ih bs (frame_with (map Known (results cx f.head)) g ∷ gs) b (same_opened bs g _ gs refl o) (outside_delegate code 0 k (forms_of ops) bs n.1)
  further k x ops at d ih Delegates is r hs set pushed [] f [] p b o n = let e = only_end r hs set f Delegates pushed p o refl in absurd cc
  further k x ops at d ih form is r hs set pushed [] f (g ∷ fs) p b o n = elim o [ ]
  further k x ops at d ih form is r hs set pushed (u ∷ []) f [] p b o n = elim o [ ]
  further k x ops at d ih form is r hs set pushed (u ∷ v ∷ bs) f [] p b o n = elim o [ ]

  first_found : (k : ℕ) (forms : List Form) (form : Form) → is_instruction form ≡ false → slice_get (delimiters_from 0 k (form ∷ forms)) 0 ≡ Some (delimiter k form)
  first_found k forms Stays i = absurd cc
  first_found k forms (Opens h) i = absurd cc
  first_found k forms BeginsElse i = refl
  first_found k forms (BeginsCatch all types) i = refl
  first_found k forms Ends i = refl
  first_found k forms Delegates i = refl

  -- the operator at place k
  found_here : (k : ℕ) (x : Operator) (ops : List Operator) (bs : List ℕ) (f : Frame) (fs : List Frame) → drop k code ≡ x ∷ ops → state_before cx code (start ty) k ≡ Some (open_state (f ∷ fs)) → Opened bs (f ∷ fs) → Openers code 0 k (forms_of (x ∷ ops)) bs → is_instruction x.form ≡ false → 1 < length (x ∷ ops) → DelimitsBlock code k x.form
  found_here k x ops (u ∷ bs) f fs d b o n i w =
      record { place = u; opener = n.0.op; is_opener = n.0.is; head = n.0.head; opens = n.0.opens; is_found = n.0.has 0 (delimiter k x.form) (first_found k (forms_of ops) x.form i) }
  found_here k x (y ∷ ops) [] f [] d b o n i w =
      let a = row_at cx code (start ty) accepted k x (y ∷ ops) f [] d b in
      let e = only_end (x.row (heads (f ∷ []))) (heads (f ∷ [])) (locals_set (f ∷ [])) f x.form a.pushed a.holds o i in
      absurd (ends_list k (y ∷ ops) _ 0 y (drop_next code k x (y ∷ ops) d) (a.next ∙ ap (λ form. Some (after cx (x.row (heads (f ∷ []))) f [] form a.pushed)) e) refl)
  found_here k x [] [] f [] d b o n i w = absurd (omega (arith, w))
  found_here k x ops [] f (g ∷ fs) d b o n i w = elim o [ ]

  found : (ops : List Operator) (k : ℕ) → drop k code ≡ ops → Found k ops
  found [] k d bs fs b o n i op e t w = absurd cc
  found (x ∷ ops) k d bs (f ∷ fs) b o n zero op e t w =
      let same : x ≡ op = some_injective x op e in
      let here = found_here k x ops bs f fs d b o n (subst (λ (v : Operator). is_instruction v.form ≡ false) (sym same) t) w in
      let place : k ≡ k + 0 = omega arith in
      subst (λ c. DelimitsBlock code c op.form) place (subst (λ (v : Operator). DelimitsBlock code k v.form) same here)
  found (x ∷ ops) k d bs (f ∷ fs) b o n (suc i) op e t w =
      let a = row_at cx code (start ty) accepted k x ops f fs d b in
      let next = drop_next code k x ops d in
      let place : suc k + i ≡ k + suc i = omega arith in
      subst (λ c. DelimitsBlock code c op.form) place
      (further k x ops (get_of_drop code k x ops d) next (found ops (suc k) next) x.form refl (x.row (heads (f ∷ fs))) (heads (f ∷ fs)) (locals_set (f ∷ fs)) a.pushed bs f fs a.holds a.next o n i op e t (omega (arith, w)))
  found (x ∷ ops) k d [] [] b o n i op e t w = elim o [ ]
  found (x ∷ ops) k d (u ∷ bs) [] b o n i op e t w = elim o [ ]

pub delimiters_are_found : (cx : Context) → DelimitersAreFound cx
delimiters_are_found cx code ty c op accepted e t w =
    let place : 0 + c ≡ c = omega arith in
    subst (λ k. DelimitsBlock code k op.form) place (found cx code ty accepted code 0 refl [] (opened_frame (body_head ty) [] ∷ []) refl refl tt c op e t w)
