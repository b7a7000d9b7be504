-- So many are mixed in.
use Rattle.std.proofs.Common.{◌≡◌, take}
use Rattle.std.specs.List.{fold}
use Rattle.binary_modules.specs.Mixed.{mix_type}
use Rattle.binary_modules.proofs.mixed.mix_types.Given as goal

abbrev pub invariant-loop-ty : goal.invariant-loop-ty
invariant-loop-ty l = l.mixed ≡ fold mix_type 0 (take l.ty-index l.types)
