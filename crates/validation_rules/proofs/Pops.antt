-- Pops one at a time from the top come to the expected list taken whole, over the padded operands.
use Rattle.std.proofs.Common.{◌≡◌, ◌≢◌, ℕ, zero, suc, ◌+◌, Bool, true, false, ◌&&◌, nat_le, List, [], ◌∷◌, reverse, length, drop, Option, Some, refl, sym, ap, ap₂, ◌∙◌, arith, append-nil}
use Rattle.std.proofs.lemmas.List.{reverse-reverse, length-reverse}
use Rattle.std.proofs.Math.Dec.{leb-zero, leb-suc-zero, leb-suc-suc}
use Rattle.std.specs.Option.{option_and_then}
use Rattle.validation_rules.specs.Context.{ValType, Context}
use Rattle.validation_rules.specs.Fits.{MaybeType, fits, all_fit}
use Rattle.validation_rules.specs.Rows.{Head, results, guard}
use Rattle.validation_rules.specs.Static.{Frame, stack_with, operands_on_top, operands_found, operands_under, may_close}
use Rattle.validation_rules.specs.Pops.{frame_after_pops, PopsAreWhole}
use Rattle.validation_rules.proofs.Steps.{onto-next}

-- ---- lists turned

pub and_false : (b : Bool) → b && false ≡ false
and_false true = refl
and_false false = refl

pub and_true_right : (b : Bool) → b && true ≡ b
and_true_right true = refl
and_true_right false = refl

and_swap : (a b c : Bool) → a && (b && c) ≡ (b && a) && c
and_swap true true c = refl
and_swap true false c = refl
and_swap false true c = refl
and_swap false false c = refl

pub drop_none : {A : Type 0} (n : ℕ) → drop {A = A} n [] ≡ []
drop_none zero = refl
drop_none (suc n) = refl

pub length-onto : {A : Type 0} (xs ys : List A) → length (stack_with xs ys) ≡ length xs + length ys
length-onto [] ys = omega arith
length-onto (x ∷ xs) ys = ap length (onto-next x xs ys) ∙ (length-onto xs (x ∷ ys) ∙ omega arith)

pub onto-turned : {A : Type 0} (xs : List A) → stack_with (reverse xs) [] ≡ xs
onto-turned xs = append-nil (reverse (reverse xs)) ∙ reverse-reverse xs

-- ---- what is found on top

module _ (cx : Context) where
  -- lists of different length don't fit
  pub no_fit : (xs : List MaybeType) (ws : List ValType) → length xs ≢ length ws → all_fit cx xs ws ≡ false
  no_fit [] [] h = absurd (h refl)
  no_fit [] (w ∷ ws) h = refl
  no_fit (x ∷ xs) [] h = refl
  no_fit (x ∷ xs) (w ∷ ws) h = ap (λ b. fits cx x w && b) (no_fit xs ws (λ e. h (ap suc e))) ∙ and_false (fits cx x w)

  fit_onto : (xs ps : List MaybeType) (ws qs : List ValType) → length ps ≡ length qs → all_fit cx (stack_with xs ps) (stack_with ws qs) ≡ all_fit cx xs ws && all_fit cx ps qs
  fit_onto [] ps [] qs h = refl
  fit_onto (x ∷ xs) ps (w ∷ ws) qs h =
      ap₂ (all_fit cx) (onto-next x xs ps) (onto-next w ws qs) ∙ fit_onto xs (x ∷ ps) ws (w ∷ qs) (ap suc h) ∙ and_swap (all_fit cx xs ws) (fits cx x w) (all_fit cx ps qs)
  fit_onto [] ps (w ∷ ws) qs h = no_fit ps (stack_with (w ∷ ws) qs) (λ e. omega (arith, h, e, length-onto (w ∷ ws) qs))
  fit_onto (x ∷ xs) ps [] qs h = no_fit (stack_with (x ∷ xs) ps) qs (λ e. omega (arith, h, e, length-onto (x ∷ xs) ps))

  -- the top first on both sides, or the last on top on both
  pub fit_turned : (xs : List MaybeType) (ws : List ValType) → all_fit cx (stack_with xs []) ws ≡ all_fit cx xs (reverse ws)
  fit_turned xs ws =
      ap (all_fit cx (stack_with xs [])) (sym (onto-turned ws))
      ∙ fit_onto xs [] (reverse ws) [] refl
      ∙ and_true_right (all_fit cx xs (reverse ws))

  -- ---- pops from the top

  together : {A B : Type 0} (b c : Bool) (x : A) (z : B) (k : A → Option B) → k x ≡ guard c (Some z) → option_and_then k (guard b (Some x)) ≡ guard (b && c) (Some z)
  together true c x z k h = h
  together false c x z k h = refl

  -- a frame by its parts
  abbrev at : Head → List MaybeType → Bool → List ℕ → Frame
  at h own dead set = record { head = h; operands = own; dead = dead; first_set = set }

  pops_in : (ws : List ValType) (h : Head) (own : List MaybeType) (dead : Bool) (set : List ℕ) → frame_after_pops cx ws (at h own dead set) ≡ guard (all_fit cx (operands_on_top (length ws) dead own) ws) (Some (at h (drop (length ws) own) dead set))
  pops_in [] h own dead set = refl
  pops_in (w ∷ ws) h (x ∷ own) dead set =
      together (fits cx x w) (all_fit cx (operands_on_top (length ws) dead own) ws) (at h own dead set) (at h (drop (length ws) own) dead set) (frame_after_pops cx ws) (pops_in ws h own dead set)
  pops_in (w ∷ ws) h [] true set =
      pops_in ws h [] true set ∙ ap (λ o. guard (all_fit cx (operands_on_top (length ws) true []) ws) (Some (at h o true set))) (drop_none (length ws))
  pops_in (w ∷ ws) h [] false set = refl

  -- a list with the top first
  pub pops_from_top : (ws : List ValType) (f : Frame) → frame_after_pops cx ws f ≡ guard (all_fit cx (operands_on_top (length ws) f.dead f.operands) ws) (Some (record f { operands = operands_under (length ws) f }))
  pops_from_top ws f = pops_in ws f.head f.operands f.dead f.first_set

  -- a row's expected list, whose last lies on top and is popped first
  pub pops_whole : PopsAreWhole cx
  pops_whole expected f =
      pops_from_top (reverse expected) f
      ∙ ap (λ n. guard (all_fit cx (operands_on_top n f.dead f.operands) (reverse expected)) (Some (record f { operands = operands_under n f }))) (length-reverse expected)
      ∙ ap (λ b. guard b (Some (record f { operands = operands_under (length expected) f }))) (sym (fit_turned (operands_on_top (length expected) f.dead f.operands) expected))

-- ---- nothing left below

abbrev pub is_empty : List MaybeType → Bool
is_empty [] = true
is_empty (x ∷ xs) = false

pub few_left : (xs : List MaybeType) (n : ℕ) → nat_le (length xs) n ≡ is_empty (drop n xs)
few_left [] n = leb-zero n ∙ sym (ap (λ (l : List MaybeType). is_empty l) (drop_none n))
few_left (x ∷ xs) zero = leb-suc-zero (length xs)
few_left (x ∷ xs) (suc n) = leb-suc-suc (length xs) n ∙ few_left xs n

-- a frame closes where its results are found and nothing is left below them
pub closes_whole : (cx : Context) (f : Frame) → may_close cx f ≡ is_empty (operands_under (length (results cx f.head)) f) && all_fit cx (operands_found (length (results cx f.head)) f) (results cx f.head)
closes_whole cx f =
    ap (λ b. b && all_fit cx (operands_found (length (results cx f.head)) f) (results cx f.head)) (few_left f.operands (length (results cx f.head)))
