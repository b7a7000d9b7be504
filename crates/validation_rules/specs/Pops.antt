-- Pops one at a time from the top, as a validator makes them (WebAssembly core specification, appendix
-- "Validation Algorithm": pop_val).
use Rattle.std.specs.Prelude.{◌≡◌, Bool, true, false, List, [], ◌∷◌, reverse, length, Option, Some, None}
use Rattle.std.specs.Prelude.{drop}
use Rattle.std.specs.Option.{option_and_then}
use Rattle.validation_rules.specs.Context.{ValType, Context}
use Rattle.validation_rules.specs.Fits.{MaybeType, Bottom, fits, all_fit}
use Rattle.validation_rules.specs.Rows.{guard}
use Rattle.validation_rules.specs.Static.{Frame, operands_found, operands_under}

-- what a pop finds: the top operand; below those of a dead frame anything at all, of a live one nothing
abbrev pub found_by_pop : Bool → List MaybeType → Option MaybeType
found_by_pop dead (x ∷ own) = Some x
found_by_pop true [] = Some Bottom
found_by_pop false [] = None

-- something is found, and it fits
abbrev pub found_fits : Context → ValType → Option MaybeType → Bool
found_fits cx w None = false
found_fits cx w (Some x) = fits cx x w

-- the frame without its top operand, if it has one
abbrev pub without_top : Frame → Frame
without_top f = record f { operands = drop 1 f.operands }

-- one pop: None where nothing is found, or what is found doesn't fit
abbrev pub frame_after_pop : Context → ValType → Frame → Option Frame
frame_after_pop cx w f = guard (found_fits cx w (found_by_pop f.dead f.operands)) (Some (without_top f))

-- one after the other, the first of the list first
abbrev pub frame_after_pops : Context → List ValType → Frame → Option Frame
frame_after_pops cx [] f = Some f
frame_after_pops cx (w ∷ ws) f = option_and_then (frame_after_pops cx ws) (frame_after_pop cx w f)

-- One at a time from the top, or taken whole: the pops of a row's expected list, whose last type lies on
-- top, pass exactly where what is found there fits it, and leave what lies below.
abbrev pub PopsAreWhole : Context → Type 0
PopsAreWhole cx =
    (expected : List ValType) (f : Frame) →
    frame_after_pops cx (reverse expected) f
    ≡ guard (all_fit cx (operands_found (length expected) f) expected)
    (Some (record f { operands = operands_under (length expected) f }))
