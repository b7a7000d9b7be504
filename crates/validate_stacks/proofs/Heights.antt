-- Heights that are read off lists rise from the outer frame to the inner one.
use Rattle.std.proofs.Common.{◌≡◌, ℕ, zero, suc, ◌+◌, ◌≤◌, List, [], ◌∷◌, length, Some, slice_get, ap, arith}
use Rattle.validate_visit.specs.declared.frame.Frame.{Frame as FlatFrame}
use Rattle.validation_rules.specs.Static.{Frame, operand_count_in}
use Rattle.validate_stacks.specs.Flat.{with_heights}
use Rattle.validate_stacks.specs.Heights.{HeightsRise}
use Rattle.validate_stacks.specs.State.{BodyState}

same_height : (f g : FlatFrame) → Some f ≡ Some g → f.height ≡ g.height
same_height f g e = let same : f ≡ g = cc in ap (λ (h : FlatFrame). h.height) same

within_lists : (fs : List Frame) (n depth : ℕ) (f : FlatFrame) → slice_get (with_heights fs n) depth ≡ Some f → f.height ≤ operand_count_in fs + n
within_lists [] n depth f h = absurd cc
within_lists (g ∷ fs) n zero f h = omega (arith, same_height _ f h)
within_lists (g ∷ fs) n (suc depth) f h = omega (arith, within_lists fs n depth f h)

rising_lists : (fs : List Frame) (n depth : ℕ) (inner outer : FlatFrame) → slice_get (with_heights fs n) depth ≡ Some inner → slice_get (with_heights fs n) (suc depth) ≡ Some outer → outer.height ≤ inner.height
rising_lists [] n depth inner outer h k = absurd cc
rising_lists (g ∷ fs) n zero inner outer h k = omega (arith, same_height _ inner h, within_lists fs n zero outer k)
rising_lists (g ∷ fs) n (suc depth) inner outer h k = rising_lists fs n depth inner outer h k

pub heights_rise : (v : BodyState) → HeightsRise v
heights_rise v =
    record {
      rising = λ depth inner outer h k. rising_lists v.present.frames (length v.present.left) depth inner outer h k;
      within = λ depth f h. within_lists v.present.frames (length v.present.left) depth f h;
    }
