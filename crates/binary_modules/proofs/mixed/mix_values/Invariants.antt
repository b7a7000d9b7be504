-- So many are mixed in.
use Rattle.std.proofs.Common.{◌≡◌, length, take}
use Rattle.std.specs.List.{fold}
use Rattle.module_rules.specs.Mixing.{mix}
use Rattle.binary_modules.specs.Mixed.{mix_value}
use Rattle.binary_modules.proofs.mixed.mix_values.Given as goal

abbrev pub invariant-loop-ty : goal.invariant-loop-ty
invariant-loop-ty l = l.mixed ≡ fold mix_value (mix l.fn.mixed (length l.types)) (take l.ty-index l.types)
