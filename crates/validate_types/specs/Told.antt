-- What an answer tells about the row that was asked for (the crate's own).
use Rattle.std.specs.Prelude.{◌≡◌, ◌≢◌, false}
use Rattle.validate_types.specs.declared.refusal.Refusal.{Refusal}
use Rattle.validate_types.specs.declared.refusal.Refusal.TheVariants.{OutOfMemory}
use Rattle.validate_types.specs.declared.refusal.Told.{Told}
use Rattle.validate_types.specs.declared.refusal.Told.TheVariants.{Rule, LookUp}

-- a rule doesn't hold: every reason but want of memory
abbrev pub IsTold : Refusal → Type 0
IsTold r = r ≢ OutOfMemory

abbrev pub IsRowRefused : Told → Type 0
IsRowRefused (Rule r) = IsTold r
IsRowRefused (LookUp e) = e.wants_memory ≡ false
