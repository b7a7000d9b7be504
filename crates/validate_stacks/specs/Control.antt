-- The height of the innermost frame (Specification, appendix "Validation Algorithm": ctrls[0].height).
use Rattle.std.specs.Prelude.{ℕ, ◌-◌, ◌^◌, List, [], ◌∷◌}
use Rattle.validate_visit.specs.declared.frame.Frame.{Frame}

-- where no frame is open, more than there can be operands
abbrev pub innermost_height : List Frame → ℕ
innermost_height [] = 2 ^ 64 - 1
innermost_height (f ∷ _) = f.height
