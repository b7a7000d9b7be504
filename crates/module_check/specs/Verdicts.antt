-- What a module's verdict says (the crate's own).
use Rattle.std.specs.Prelude.{◌≡◌, ◌≢◌, ◌<◌, ◌≤◌, ℕ, ◌+◌, ◌-◌, ◌^◌, min, Option, Some, None}
use Rattle.module_check.specs.declared.outcome.Outcome.{Outcome}
use Rattle.module_check.specs.declared.outcome.Outcome.TheVariants.{Valid, Invalid, Unreadable, TooLarge}
use Rattle.module_check.specs.declared.outcome.Outcome.TheVariants.{Malformed as IsMalformed}
use Rattle.module_check.specs.declared.outcome.Outcome.TheVariants.{NotCovered as IsNotCovered}
use Rattle.module_check.specs.declared.outcome.Outcome.TheVariants.{OutOfMemory as IsOutOfMemory}
use Rattle.module_check.specs.declared.module_verdict.ModuleVerdict.{ModuleVerdict}
use Rattle.module_check.specs.declared.verdict.Item.{Item}
use Rattle.module_check.specs.declared.verdict.Item.TheVariants.{Function, Expression}
use Rattle.module_check.specs.declared.verdict.Verdict.{Verdict}
use Rattle.module_check.specs.declared.verdict.Verdict.TheVariants.{Accepted, Refused, Malformed}
use Rattle.module_check.specs.declared.verdict.Verdict.TheVariants.{NotCovered, OutOfMemory}
use Rattle.module_rules.specs.declared.module.Place.TheVariants.{Table, Global, ElementOffset, Element, DataOffset}

-- The status says what the counts say, and the text that is reported stands in this room.
pub record IsConsistent (room : ℕ) (v : ModuleVerdict) : Type 0 where
  pub accepted : v.status ≡ 0 → (v.refused ≡ 0) × (v.not_covered ≡ 0)
  pub refused : v.status ≡ 1 → 0 < v.refused
  pub malformed : v.status ≡ 2 → 0 < v.refused
  pub not_covered : v.status ≡ 4 → (v.refused ≡ 0) × (0 < v.not_covered)
  pub text_fits : v.text_length ≤ room

-- the status says that something isn't accepted: not everything is, and memory didn't run out
abbrev pub SaysNo : ℕ → Type 0
SaysNo status = (status ≢ 0) × (status ≢ 3)

-- what a verdict comes to
abbrev pub outcome_of : Verdict → Outcome
outcome_of Accepted = Valid
outcome_of (Refused e) = Invalid
outcome_of (Malformed e) = IsMalformed
outcome_of OutOfMemory = IsOutOfMemory
outcome_of (NotCovered offset) = IsNotCovered

-- the offset that it tells, or 0
abbrev pub verdict_offset : Verdict → ℕ
verdict_offset Accepted = 0
verdict_offset (Refused e) = e.offset
verdict_offset (Malformed e) = e.offset
verdict_offset OutOfMemory = 0
verdict_offset (NotCovered offset) = offset

-- it isn't the verdict of what isn't covered
abbrev pub IsCovered : Verdict → Type 0
IsCovered v = (offset : ℕ) → v ≢ NotCovered offset

-- how grave it is
abbrev pub weight : Outcome → ℕ
weight Valid = 0
weight IsNotCovered = 1
weight TooLarge = 2
weight Invalid = 3
weight IsMalformed = 4
weight Unreadable = 5
weight IsOutOfMemory = 6

-- its status
abbrev pub status : Outcome → ℕ
status Valid = 0
status Invalid = 1
status IsMalformed = 2
status IsOutOfMemory = 3
status IsNotCovered = 4
status Unreadable = 5
status TooLarge = 7

-- the status of one verdict
abbrev pub status_of : Verdict → ℕ
status_of verdict = status (outcome_of verdict)

-- how many bodies and constant expressions are counted
abbrev pub total : ModuleVerdict → ℕ
total v = v.accepted + v.refused + v.not_covered

-- one more than so many, as far as 64 bits go
abbrev pub one_more : ℕ → ℕ
one_more count = min (count + 1) (2 ^ 64 - 1)

-- one verdict more is counted, unless memory ran out
abbrev pub counted_with : Verdict → ModuleVerdict → ModuleVerdict
counted_with Accepted v = record v { accepted = one_more v.accepted }
counted_with (Refused e) v = record v { refused = one_more v.refused }
counted_with (Malformed e) v = record v { refused = one_more v.refused }
counted_with OutOfMemory v = v
counted_with (NotCovered offset) v = record v { not_covered = one_more v.not_covered }

-- the kind of what is checked, and its index; nothing is the module as a whole
abbrev pub kind_of : Item → ℕ
kind_of (Function i) = 0
kind_of (Expression (Table i)) = 1
kind_of (Expression (Global i)) = 2
kind_of (Expression (ElementOffset i)) = 3
kind_of (Expression (Element i)) = 4
kind_of (Expression (DataOffset i)) = 5

abbrev pub index_of : Item → ℕ
index_of (Function i) = i
index_of (Expression (Table i)) = i
index_of (Expression (Global i)) = i
index_of (Expression (ElementOffset i)) = i
index_of (Expression (Element i)) = i
index_of (Expression (DataOffset i)) = i

abbrev pub item_kind : Option Item → ℕ
item_kind (Some item) = kind_of item
item_kind None = 6

abbrev pub item_index : Option Item → ℕ
item_index (Some item) = index_of item
item_index None = 0

-- what is reported is this item, or the module as a whole
pub record Reports (item : Option Item) (v : ModuleVerdict) : Type 0 where
  pub kind : v.kind ≡ item_kind item
  pub index : v.index ≡ item_index item
