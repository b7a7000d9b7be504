-- What a check says that looks at rules and at limits: its first fault is one of a rule, which doesn't hold, or of a
-- limit, which is passed.
use Rattle.std.specs.Prelude.{◌≡◌, Bool, true, false, Result, Ok, Err, if◌then◌else◌}
use Rattle.module_rules.specs.declared.faults.Fault.{Fault}
use Rattle.module_rules.specs.declared.faults.Fault.TheVariants.{Rule, Limit}
use Rattle.module_rules.specs.declared.faults.Located.{Located}

abbrev pub is_limit : Fault → Bool
is_limit (Rule rule) = false
is_limit (Limit limit) = true

-- it is valid and within the limits, or this fault tells which of the two it isn't
abbrev pub Judges : Bool → Bool → Result Unit Fault → Type 0
Judges valid within (Ok _) = (valid ≡ true) × (within ≡ true)
Judges valid within (Err fault) = (if is_limit fault then within else valid) ≡ false

-- the same, of a fault with its place
abbrev pub JudgesAt : Bool → Bool → Result Unit Located → Type 0
JudgesAt valid within (Ok _) = (valid ≡ true) × (within ≡ true)
JudgesAt valid within (Err at) = (if is_limit at.fault then within else valid) ≡ false
