-- So many are mixed in.
use Rattle.std.proofs.Common.{◌≡◌, length, take}
use Rattle.std.specs.List.{fold}
use Rattle.module_rules.specs.Mixing.{mix}
use Rattle.binary_modules.specs.Mixed.{mix_field}
use Rattle.binary_modules.proofs.mixed.mix_fields.Given as goal

abbrev pub invariant-loop-field : goal.invariant-loop-field
invariant-loop-field l = l.mixed ≡ fold mix_field (mix l.fn.mixed (length l.fields)) (take l.field-index l.fields)
