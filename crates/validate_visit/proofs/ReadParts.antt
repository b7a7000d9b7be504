-- Reading a list, by the parts that are open after each operator, the innermost first.
use Rattle.std.proofs.Common.{◌≡◌, ◌≢◌, ℕ, suc, ◌+◌, ◌<◌, Bool, true, false, ◌&&◌, List, [], ◌∷◌, ◌++◌, map, length, take, drop, get_or, refl, ap, sym, ◌∙◌, arith}
use Rattle.std.proofs.lemmas.List.{take_more, map-append}
use Rattle.std.proofs.Math.Bool.{and_assoc, and-true}
use Rattle.std.proofs.Math.Seq.{split_at}
use Rattle.validate_visit.specs.declared.frame.FrameKind.{FrameKind}
use Rattle.validate_visit.specs.declared.op.Op.{Op}
use Rattle.validate_visit.specs.declared.op.Op.TheVariants.{Control}
use Rattle.validate_visit.specs.declared.op.ControlOp.TheVariants.{Nop}
use Rattle.validate_visit.specs.Parts.{outermost, parts_after_list}
use Rattle.validate_visit.specs.Order.{parts_after}
use Rattle.validate_visit.specs.Order.{Nesting, Stays, Opens, Ends, nesting, may_stand_anywhere, is_ordered_from, is_well_ordered_list, may_stand}

-- the operators of a list with offsets, and what they do to the open parts
abbrev pub operators : List (Op × ℕ) → List Op
operators ps = map (λ (p : Op × ℕ). p.0) ps

abbrev pub nestings : List (Op × ℕ) → List Nesting
nestings ps = map nesting (operators ps)

-- ---- one operator

-- whether it may stand there
reads_one : (ks : List FrameKind) (n : Nesting) (ns : List Nesting) → is_ordered_from ks (n ∷ ns) ≡ may_stand ks n && is_ordered_from (parts_after ks n) ns
reads_one ks n ns = refl

-- such an operator may stand wherever `nop` does
as_nop : (ks : List FrameKind) (n : Nesting) → may_stand_anywhere n ≡ true → may_stand ks n ≡ may_stand ks Stays
as_nop [] n h = refl
as_nop (k ∷ ks) Stays h = refl
as_nop (k ∷ ks) (Opens kind) h = refl
as_nop (k ∷ ks) Ends h = refl
as_nop (k ∷ ks) _ h = absurd cc

nop_stands : (ks : List FrameKind) (n : ℕ) → n ≡ length ks → n ≢ 0 → may_stand ks Stays ≡ true
nop_stands [] n e some = absurd (some e)
nop_stands (k ∷ ks) n e some = refl

none_stands : (ks : List FrameKind) (n : Nesting) → 0 ≡ length ks → may_stand ks n ≡ false
none_stands [] n e = refl
none_stands (k ∷ ks) n e = absurd (omega (arith, e))

-- ---- a list

parts-push : (ks : List FrameKind) (ns : List Nesting) (n : Nesting) → parts_after_list ks (ns ++ n ∷ []) ≡ parts_after (parts_after_list ks ns) n
parts-push ks [] n = refl
parts-push ks (m ∷ ns) n = parts-push (parts_after ks m) ns n

reads-append : (ks : List FrameKind) (ns ms : List Nesting) → is_ordered_from ks (ns ++ ms) ≡ is_ordered_from ks ns && is_ordered_from (parts_after_list ks ns) ms
reads-append ks [] ms = refl
reads-append ks (n ∷ ns) ms =
    reads_one ks n (ns ++ ms) ∙ ap (λ b. may_stand ks n && b) (reads-append (parts_after ks n) ns ms)
    ∙ sym (and_assoc (may_stand ks n) (is_ordered_from (parts_after ks n) ns) (is_ordered_from (parts_after_list (parts_after ks n) ns) ms))
    ∙ ap (λ b. b && is_ordered_from (parts_after_list (parts_after ks n) ns) ms) (sym (reads_one ks n ns))

-- after a list that is in order
module _ (ks : List FrameKind) (ns : List Nesting) (ordered : is_ordered_from ks ns ≡ true) where
  reads-on : (n : Nesting) (ms : List Nesting) → is_ordered_from ks (ns ++ n ∷ ms) ≡ may_stand (parts_after_list ks ns) n && is_ordered_from (parts_after (parts_after_list ks ns) n) ms
  reads-on n ms =
      reads-append ks ns (n ∷ ms) ∙ ap (λ b. b && is_ordered_from (parts_after_list ks ns) (n ∷ ms)) ordered ∙ reads_one (parts_after_list ks ns) n ms

  pub reads-push : (n : Nesting) → is_ordered_from ks (ns ++ n ∷ []) ≡ may_stand (parts_after_list ks ns) n
  reads-push n = reads-on n [] ∙ and-true (may_stand (parts_after_list ks ns) n)

-- ---- the operators up to an index

nestings-append : (ps qs : List (Op × ℕ)) → nestings (ps ++ qs) ≡ nestings ps ++ nestings qs
nestings-append ps qs = ap (map nesting) (map-append (λ (p : Op × ℕ). p.0) ps qs) ∙ map-append nesting (operators ps) (operators qs)

module _ (ps : List (Op × ℕ)) (i : ℕ) (d : Op × ℕ) (h : i < length ps) where
  nestings-more : nestings (take (i + 1) ps) ≡ nestings (take i ps) ++ nesting (get_or ps i d).0 ∷ []
  nestings-more = ap nestings (take_more ps i d h) ∙ nestings-append (take i ps) (get_or ps i d ∷ [])

  pub parts-more : parts_after_list outermost (nestings (take (i + 1) ps)) ≡ parts_after (parts_after_list outermost (nestings (take i ps))) (nesting (get_or ps i d).0)
  parts-more = ap (parts_after_list outermost) nestings-more ∙ parts-push outermost (nestings (take i ps)) (nesting (get_or ps i d).0)

-- ---- one operator after a list that is in order

pub follows : (ps : List (Op × ℕ)) (op : Op) → is_ordered_from outermost (nestings ps) ≡ true → is_well_ordered_list (operators ps ++ op ∷ []) ≡ may_stand (parts_after_list outermost (nestings ps)) (nesting op)
follows ps op h = ap (is_ordered_from outermost) (map-append nesting (operators ps) (op ∷ [])) ∙ reads-push outermost (nestings ps) h (nesting op)

left_of_and : (a b : Bool) → a && b ≡ true → a ≡ true
left_of_and true b h = refl
left_of_and false b h = absurd cc

pub ordered-front : (ps : List (Op × ℕ)) (op : Op) → is_well_ordered_list (operators ps ++ op ∷ []) ≡ true → is_well_ordered_list (operators ps) ≡ true
ordered-front ps op h =
    let e = ap (is_ordered_from outermost) (map-append nesting (operators ps) (op ∷ [])) ∙ reads-append outermost (nestings ps) (nesting op ∷ []) in
    left_of_and (is_ordered_from outermost (nestings ps)) (is_ordered_from (parts_after_list outermost (nestings ps)) (nesting op ∷ [])) (sym e ∙ h)

pub follows-as_nop : (ps : List (Op × ℕ)) (op : Op) → is_well_ordered_list (operators ps ++ Control Nop ∷ []) ≡ true → may_stand_anywhere (nesting op) ≡ true → is_well_ordered_list (operators ps ++ op ∷ []) ≡ true
follows-as_nop ps op nop h =
    let front = ordered-front ps (Control Nop) nop in
    follows ps op front ∙ as_nop (parts_after_list outermost (nestings ps)) (nesting op) h ∙ sym (follows ps (Control Nop) front) ∙ nop

-- ---- reading on at an index, where so many parts are open

pub nop_follows : (ps : List (Op × ℕ)) (open_parts : ℕ) → is_well_ordered_list (operators ps) ≡ true → open_parts ≡ length (parts_after_list outermost (nestings ps)) → open_parts ≢ 0 → is_well_ordered_list (operators ps ++ Control Nop ∷ []) ≡ true
nop_follows ps n h e some = follows ps (Control Nop) h ∙ nop_stands (parts_after_list outermost (nestings ps)) n e some

module _ (ps : List (Op × ℕ)) (i : ℕ) (d : Op × ℕ) (h : i < length ps) (ordered : is_well_ordered_list (operators (take i ps)) ≡ true) where
  abbrev now : List FrameKind
  now = parts_after_list outermost (nestings (take i ps))

  abbrev next : Op
  next = (get_or ps i d).0

  stops : may_stand now (nesting next) ≡ false → is_well_ordered_list (operators ps) ≡ false
  stops wrong =
      ap (λ qs. is_ordered_from outermost (nestings qs)) (split_at ps i d h)
      ∙ ap (is_ordered_from outermost) (nestings-append (take i ps) (get_or ps i d ∷ drop (suc i) ps))
      ∙ reads-on outermost (nestings (take i ps)) ordered (nesting next) (nestings (drop (suc i) ps))
      ∙ ap (λ b. b && is_ordered_from (parts_after now (nesting next)) (nestings (drop (suc i) ps))) wrong

  pub stops-no_follower : is_well_ordered_list (operators (take i ps) ++ next ∷ []) ≡ false → is_well_ordered_list (operators ps) ≡ false
  stops-no_follower wrong = stops (sym (follows (take i ps) next ordered) ∙ wrong)

  pub one_further : is_well_ordered_list (operators (take i ps) ++ next ∷ []) ≡ true → is_well_ordered_list (operators (take (i + 1) ps)) ≡ true
  one_further may = ap (is_ordered_from outermost) nestings-further ∙ may
    where
      nestings-further : nestings (take (i + 1) ps) ≡ map nesting (operators (take i ps) ++ next ∷ [])
      nestings-further = nestings-more ps i d h ∙ sym (map-append nesting (operators (take i ps)) (next ∷ []))

pub stops-none_open : (ps : List (Op × ℕ)) (i : ℕ) → i < length ps → is_well_ordered_list (operators (take i ps)) ≡ true → 0 ≡ length (parts_after_list outermost (nestings (take i ps))) → is_well_ordered_list (operators ps) ≡ false
stops-none_open ps i h ordered e =
    let d : Op × ℕ = (Control Nop, 0) in
    stops ps i d h ordered (none_stands (parts_after_list outermost (nestings (take i ps))) (nesting (get_or ps i d).0) e)
