-- The law for the bodies that the table gives, and the heights of their runs.
use Rattle.std.proofs.Common.{◌≡◌, ℕ, suc, ◌+◌, List, [], ◌∷◌, length, map, refl, sym, ap, ◌∙◌, subst}
use Rattle.std.proofs.Common.{arith}
use Rattle.validate_resources.specs.Context.{ModuleContext, IsLawful}
use Rattle.validation_rules.specs.Context.{BlockType, Context}
use Rattle.validation_rules.specs.Rows.{Operator}
use Rattle.validation_rules.specs.Static.{Frame, open_state, operand_count_in}
use Rattle.validation_rules.specs.Operators.{operators}
use Rattle.validation_rules.proofs.Below.{below-length, length-known}
use Rattle.type_safety.specs.Machine.{Label, At}
use Rattle.type_safety.specs.Theorem.{LabelsBelow, OperandsBelow, IsAsValidated, IsTypeSafe}
use Rattle.type_safety.specs.Bodies.{BodySafety, BodyHeights, HasHeights, HasHeightsAt, operands_held}
use Rattle.type_safety.proofs.Safety.{type_safety}
use Rattle.type_safety.proofs.Operators.{body_lawful}

-- the main theorem: for every lawful module
pub body_safety : (md : ModuleContext) → IsLawful md → BodySafety md
body_safety md laws cx ops ty same accepted =
    let l = subst IsLawful (sym same) laws in
    type_safety cx (operators cx ops) ty l (body_lawful cx l ops) accepted

module _ (cx : Context) where
  own_counts : (l : Label) (f : Frame) → OperandsBelow cx l.operands f.operands → length l.operands ≡ length f.operands
  own_counts l f b = below-length cx l.operands b.0 b.2 ∙ sym (length-known b.0) ∙ ap length (sym b.1)

  frames_count : (ls : List Label) (fs : List Frame) → LabelsBelow cx ls fs → length ls ≡ length fs
  frames_count [] [] h = refl
  frames_count (l ∷ ls) (f ∷ fs) h = ap suc (frames_count ls fs h.1)
  frames_count [] (f ∷ fs) h = elim h [ ]
  frames_count (l ∷ ls) [] h = elim h [ ]

  each_counts : (ls : List Label) (fs : List Frame) → LabelsBelow cx ls fs → map (λ l. length l.operands) ls ≡ map (λ f. length f.operands) fs
  each_counts [] [] h = refl
  each_counts (l ∷ ls) (f ∷ fs) h =
      ap (λ n. n ∷ map (λ l. length l.operands) ls) (own_counts l f h.0.operands) ∙ ap (λ ns. length f.operands ∷ ns) (each_counts ls fs h.1)
  each_counts [] (f ∷ fs) h = elim h [ ]
  each_counts (l ∷ ls) [] h = elim h [ ]

  operands_count : (ls : List Label) (fs : List Frame) → LabelsBelow cx ls fs → operands_held ls ≡ operand_count_in fs
  operands_count [] [] h = refl
  operands_count (l ∷ ls) (f ∷ fs) h =
      ap (λ n. n + operands_held ls) (own_counts l f h.0.operands) ∙ ap (λ n. length f.operands + n) (operands_count ls fs h.1)
  operands_count [] (f ∷ fs) h = elim h [ ]
  operands_count (l ∷ ls) [] h = elim h [ ]

  heights_of : (code : List Operator) (ty : BlockType) (k : ℕ) (ls : List Label) (set : List ℕ) → IsAsValidated cx code ty (At k ls set) → HasHeightsAt cx code ty k ls
  heights_of code ty k ls set s =
      record {
        state = open_state s.0;
        is_before = s.1;
        frames = frames_count ls s.0 s.2;
        operands = operands_count ls s.0 s.2 ∙ omega arith;
        each = each_counts ls s.0 s.2;
      }

-- of any body that is type safe
pub heights_of_safe : (cx : Context) (code : List Operator) (ty : BlockType) → IsTypeSafe cx code ty → HasHeights cx code ty
heights_of_safe cx code ty safe n k labels set run = heights_of cx code ty k labels set (safe n (At k labels set) run).1

pub body_heights : (md : ModuleContext) → IsLawful md → BodyHeights md
body_heights md laws cx ops ty same accepted =
    heights_of_safe cx (operators cx ops) ty (body_safety md laws cx ops ty same accepted)
