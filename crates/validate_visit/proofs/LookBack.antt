-- What an operator does to the open parts, and looking back from an index for those that are open there.
use Rattle.std.proofs.Common.{◌≡◌, ℕ, zero, suc, ◌+◌, ◌-◌, ◌<◌, ◌≤◌, Bool, true, Some, List, [], ◌∷◌, length, take, drop, get_or, refl, ap, sym, ◌∙◌, arith}
use Rattle.std.proofs.Math.Seq.{drop-nil}
use Rattle.std.specs.Int.{from_bool}
use Rattle.validate_visit.specs.declared.frame.FrameKind.{FrameKind}
use Rattle.validate_visit.specs.declared.frame.FrameKind.TheVariants.{Else}
use Rattle.validate_visit.specs.declared.op.Op.{Op}
use Rattle.validate_visit.specs.Order.{Nesting, Opens, BeginsElse, BeginsCatch, Ends, Delegates, nesting, is_part_opener, is_part_closer, catch_kind, part_begun}
use Rattle.validate_visit.specs.Order.{parts_after}
use Rattle.validate_visit.specs.Parts.{outermost, parts_after_list, has_innermost}
use Rattle.validate_visit.proofs.ReadParts.{nestings, parts-more}

-- how many parts an operator opens
abbrev pub opened : Nesting → ℕ
opened n = from_bool (is_part_opener n)

-- ---- an operator that closes a part

pub length-closed : (ks : List FrameKind) (n : Nesting) → is_part_closer n ≡ true → length (parts_after ks n) ≡ length ks - 1
length-closed [] Ends h = refl
length-closed (k ∷ ks) Ends h = omega arith
length-closed [] Delegates h = refl
length-closed (k ∷ ks) Delegates h = omega arith
length-closed ks _ h = absurd cc

pub drop-closed : (under : ℕ) (ks : List FrameKind) (n : Nesting) → is_part_closer n ≡ true → drop under (parts_after ks n) ≡ drop (suc under) ks
drop-closed under [] Ends h = drop-nil under
drop-closed under (k ∷ ks) Ends h = refl
drop-closed under [] Delegates h = drop-nil under
drop-closed under (k ∷ ks) Delegates h = refl
drop-closed under ks _ h = absurd cc

-- ---- one that begins a part of this kind

pub length-begun : (ks : List FrameKind) (n : Nesting) (k : FrameKind) → part_begun n ≡ Some k → length (parts_after ks n) ≡ length ks + opened n
length-begun ks (Opens j) k e = omega arith
length-begun [] BeginsElse k e = refl
length-begun (j ∷ ks) BeginsElse k e = omega arith
length-begun [] (BeginsCatch all) k e = refl
length-begun (j ∷ ks) (BeginsCatch all) k e = omega arith
length-begun ks _ k e = absurd cc

pub innermost-begun : (is_such : FrameKind → Bool) (ks : List FrameKind) (n : Nesting) (k : FrameKind) → part_begun n ≡ Some k → 0 < length (parts_after ks n) → has_innermost is_such (parts_after ks n) ≡ is_such k
innermost-begun is_such ks (Opens j) k e some = let same : j ≡ k = cc in ap is_such same
innermost-begun is_such [] BeginsElse k e some = absurd (omega (arith, some))
innermost-begun is_such (j ∷ ks) BeginsElse k e some = let same : Else ≡ k = cc in ap is_such same
innermost-begun is_such [] (BeginsCatch all) k e some = absurd (omega (arith, some))
innermost-begun is_such (j ∷ ks) (BeginsCatch all) k e some = let same : catch_kind all ≡ k = cc in ap is_such same
innermost-begun is_such ks _ k e some = absurd cc

-- the parts outside the innermost
pub drop-begun : (under : ℕ) (ks : List FrameKind) (n : Nesting) (k : FrameKind) → part_begun n ≡ Some k → drop (suc under) (parts_after ks n) ≡ drop (suc under - opened n) ks
drop-begun under ks (Opens j) k e = let less : under ≡ suc under - 1 = omega arith in ap (λ i. drop i ks) less
drop-begun under [] BeginsElse k e = sym (drop-nil (suc under - 0))
drop-begun under (j ∷ ks) BeginsElse k e = let same : suc under ≡ suc under - 0 = omega arith in ap (λ i. drop i (j ∷ ks)) same
drop-begun under [] (BeginsCatch all) k e = sym (drop-nil (suc under - 0))
drop-begun under (j ∷ ks) (BeginsCatch all) k e = let same : suc under ≡ suc under - 0 = omega arith in ap (λ i. drop i (j ∷ ks)) same
drop-begun under ks _ k e = absurd cc

-- ---- from an index

pub one_left : (whole : List FrameKind) (under : ℕ) → 0 < length whole → drop under outermost ≡ whole → whole ≡ outermost
one_left whole zero some e = sym e
one_left whole (suc under) some e =
    let none : length whole ≡ 0 = sym (ap length e) ∙ ap length (drop-nil {A = FrameKind} under) in
    absurd (omega (arith, none))

-- the parts left up to an index, by the operator before it
pub one_back : (ps : List (Op × ℕ)) (i : ℕ) (d : Op × ℕ) → 0 < i → i ≤ length ps → parts_after_list outermost (nestings (take i ps)) ≡ parts_after (parts_after_list outermost (nestings (take (i - 1) ps))) (nesting (get_or ps (i - 1) d).0)
one_back ps i d some within =
    let h : i - 1 < length ps = omega arith in
    let e : i ≡ (i - 1) + 1 = omega arith in
    ap (λ j. parts_after_list outermost (nestings (take j ps))) e ∙ parts-more ps (i - 1) d h
