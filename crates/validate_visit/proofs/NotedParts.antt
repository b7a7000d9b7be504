-- What is noted of the open parts: bits in rings of words.
use Rattle.std.proofs.Common.{◌≡◌, ◌≢◌, ℕ, zero, suc, ◌+◌, ◌-◌, ◌<◌, ◌≤◌, inl, inr, min, Bool, true, false, not, Some, List, [], ◌∷◌, length, drop, refl, ap, sym, ◌∙◌, arith}
use Rattle.std.specs.Int.{from_bool}
use Rattle.std.proofs.lemmas.Bool.{cases_eq}
use Rattle.std.proofs.lemmas.List.{length-drop, drop-drop}
use Rattle.validate_visit.specs.declared.frame.FrameKind.{FrameKind}
use Rattle.validate_visit.specs.declared.frame.FrameKind.TheVariants.{If, LegacyTry}
use Rattle.validate_visit.specs.declared.order.Notes.{Notes}
use Rattle.validate_visit.specs.Order.{Nesting, Opens, BeginsElse, BeginsCatch, Delegates, is_part_opener, is_part_closer, is_if, is_try, may_catch, may_stand, may_stand_anywhere, part_begun}
use Rattle.validate_visit.specs.Order.{parts_after}
use Rattle.validate_visit.specs.Parts.{outermost, is_first_part, may_stand_in, most_noted, is_noted_at, NotesAt, has_innermost, Tell, AreNoted}
use Rattle.validate_visit.proofs.LookBack.{opened, length-closed, drop-closed, length-begun, innermost-begun, drop-begun}

-- ---- one ring

module _ (is_such : FrameKind → Bool) (d n : ℕ) (ws : List ℕ) where
  -- reading an operator that closes a part
  tell-closed : (ks : List FrameKind) (op : Nesting) → is_part_closer op ≡ true → Tell ws is_such d n ks → Tell ws is_such (d - 1) (n - 1) (parts_after ks op)
  tell-closed ks op h tell = λ under l.
      let e : d - 1 - under ≡ d - suc under = omega arith in
      ap (is_noted_at ws) e ∙ tell (suc under) (omega (arith, l)) ∙ ap (has_innermost is_such) (sym (drop-closed under ks op h))

  -- reading one that begins a part of this kind
  tell-begun : (ws' : List ℕ) (ks : List FrameKind) (op : Nesting) (k : FrameKind) → part_begun op ≡ Some k → n ≤ d → opened op ≤ 1 → 0 < length (parts_after ks op) → NotesAt (d + opened op) (is_such k) ws ws' → Tell ws is_such d n ks → Tell ws' is_such (d + opened op) (min (n + opened op) most_noted) (parts_after ks op)
  tell-begun ws' ks op k begun within one some notes tell = at
    where
      at : (under : ℕ) → under < min (n + opened op) most_noted → is_noted_at ws' (d + opened op - under) ≡ has_innermost is_such (drop under (parts_after ks op))
      at zero l =
          let e : d + opened op - 0 ≡ d + opened op = omega arith in
          ap (is_noted_at ws') e ∙ notes.here ∙ sym (innermost-begun is_such ks op k begun some)
      at (suc under) l =
          let e : d + opened op - suc under ≡ d - (suc under - opened op) = omega (arith, one, l, within) in
          let other : d - (suc under - opened op) ≢ d + opened op = omega (arith, one, l, within) in
          ap (is_noted_at ws') e ∙ notes.others (d - (suc under - opened op)) other (omega (arith, one, l, within)) (omega arith)
          ∙ tell (suc under - opened op) (omega (arith, one, l)) ∙ ap (has_innermost is_such) (sym (drop-begun under ks op k begun))

  -- taking back one that begins the part to be noted next
  tell-found : (ws' : List ℕ) (ks whole : List FrameKind) (op : Nesting) (k : FrameKind) → n < d → n < most_noted → part_begun op ≡ Some k → 0 < length (parts_after ks op) → parts_after ks op ≡ drop n whole → NotesAt (d - n) (is_such k) ws ws' → Tell ws is_such d n whole → Tell ws' is_such d (n + 1) whole
  tell-found ws' ks whole op k deeper room begun some rest notes tell = λ under l. elim (cases_eq under n) [
    | inl e ↦
        ap (λ i. is_noted_at ws' (d - i)) e ∙ notes.here ∙ sym (innermost-begun is_such ks op k begun some)
        ∙ ap (has_innermost is_such) (rest ∙ ap (λ i. drop i whole) (sym e))
    | inr ne ↦
        let other : d - under ≢ d - n = omega (arith, l, deeper, ne) in
        notes.others (d - under) other (omega (arith, l, room, deeper)) (omega (arith, l, room, deeper)) ∙ tell under (omega (arith, l, ne))
  ]

-- ---- the two rings

at_most_one : (op : Nesting) → opened op ≤ 1
at_most_one (Opens k) = omega arith
at_most_one _ = omega arith

pub noted-closed : (d n : ℕ) (notes : Notes) (ks : List FrameKind) (op : Nesting) → is_part_closer op ≡ true → AreNoted d n notes ks → AreNoted (d - 1) (n - 1) notes (parts_after ks op)
noted-closed d n notes ks op h v = record {
  counted = omega (arith, v.counted, length-closed ks op h);
  within = omega (arith, v.within);
  within_limit = omega (arith, v.within_limit);
  firsts = tell-closed is_first_part d n notes.firsts ks op h v.firsts;
  catching = tell-closed may_catch d n notes.catching ks op h v.catching;
}

pub noted-begun : (d n : ℕ) (notes notes' : Notes) (ks : List FrameKind) (op : Nesting) (k : FrameKind) → part_begun op ≡ Some k → 0 < d → NotesAt (d + opened op) (is_first_part k) notes.firsts notes'.firsts → NotesAt (d + opened op) (may_catch k) notes.catching notes'.catching → AreNoted d n notes ks → AreNoted (d + opened op) (min (n + opened op) most_noted) notes' (parts_after ks op)
noted-begun d n notes notes' ks op k begun some first catches v = record {
  counted = counted;
  within = omega (arith, v.within);
  within_limit = omega arith;
  firsts = tell-begun is_first_part d n notes.firsts notes'.firsts ks op k begun v.within (at_most_one op) left first v.firsts;
  catching = tell-begun may_catch d n notes.catching notes'.catching ks op k begun v.within (at_most_one op) left catches v.catching;
}
  where
    counted : d + opened op ≡ length (parts_after ks op)
    counted = omega (arith, v.counted, length-begun ks op k begun)

    left : 0 < length (parts_after ks op)
    left = omega (arith, some, counted)

pub noted-found : (d n : ℕ) (notes notes' : Notes) (ks whole : List FrameKind) (op : Nesting) (k : FrameKind) → n < d → n < most_noted → part_begun op ≡ Some k → parts_after ks op ≡ drop n whole → NotesAt (d - n) (is_first_part k) notes.firsts notes'.firsts → NotesAt (d - n) (may_catch k) notes.catching notes'.catching → AreNoted d n notes whole → AreNoted d (n + 1) notes' whole
noted-found d n notes notes' ks whole op k deeper room begun rest first catches v = record {
  counted = v.counted;
  within = omega (arith, deeper);
  within_limit = omega (arith, room);
  firsts = tell-found is_first_part d n notes.firsts notes'.firsts ks whole op k deeper room begun some rest first v.firsts;
  catching = tell-found may_catch d n notes.catching notes'.catching ks whole op k deeper room begun some rest catches v.catching;
}
  where
    some : 0 < length (parts_after ks op)
    some = omega (arith, deeper, v.counted, ap length rest, length-drop n whole)

-- the part after that one
pub rest-begun : (n : ℕ) (ks whole : List FrameKind) (op : Nesting) (k : FrameKind) → part_begun op ≡ Some k → parts_after ks op ≡ drop n whole → drop (from_bool (not (is_part_opener op))) ks ≡ drop (n + 1) whole
rest-begun n ks whole op k begun rest =
    ap (λ i. drop i ks) (by_test (is_part_opener op)) ∙ sym (drop-begun 0 ks op k begun) ∙ ap (drop 1) rest ∙ drop-drop 1 n whole
  where
    by_test : (b : Bool) → from_bool (not b) ≡ 1 - from_bool b
    by_test true = refl
    by_test false = refl

-- ---- whether an operator may stand, by what is noted

if_is : (k : FrameKind) → may_stand_in (is_first_part k) (may_catch k) BeginsElse ≡ is_if k
if_is If = refl
if_is LegacyTry = refl
if_is _ = refl

try_is : (k : FrameKind) → may_stand_in (is_first_part k) (may_catch k) Delegates ≡ is_try k
try_is If = refl
try_is LegacyTry = refl
try_is _ = refl

stands_in : (ks : List FrameKind) (op : Nesting) → 0 < length ks → may_stand_in (has_innermost is_first_part ks) (has_innermost may_catch ks) op ≡ may_stand ks op
stands_in [] op some = absurd (omega (arith, some))
stands_in (k ∷ ks) BeginsElse some = if_is k
stands_in (k ∷ ks) Delegates some = try_is k
stands_in (k ∷ ks) _ some = refl

pub noted-stands : (d n : ℕ) (notes : Notes) (ks : List FrameKind) (op : Nesting) → 0 < n → AreNoted d n notes ks → may_stand_in (is_noted_at notes.firsts d) (is_noted_at notes.catching d) op ≡ may_stand ks op
noted-stands d n notes ks op some v =
    let e : d ≡ d - 0 = omega arith in
    let left : 0 < length ks = omega (arith, some, v.within, v.counted) in
    ap (λ b. may_stand_in b (is_noted_at notes.catching d) op) (ap (is_noted_at notes.firsts) e ∙ v.firsts 0 some)
    ∙ ap (λ b. may_stand_in (has_innermost is_first_part ks) b op) (ap (is_noted_at notes.catching) e ∙ v.catching 0 some)
    ∙ stands_in ks op left

-- an operator that asks for a part stands in no outermost frame
pub outermost_refuses : (op : Nesting) → may_stand_anywhere op ≡ false → may_stand outermost op ≡ false
outermost_refuses BeginsElse h = refl
outermost_refuses (BeginsCatch all) h = refl
outermost_refuses Delegates h = refl
outermost_refuses _ h = absurd cc
