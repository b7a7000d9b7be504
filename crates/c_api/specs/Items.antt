-- What is reported of the constant expressions and bodies of a module in one row (the crate's own).
use Rattle.std.specs.Prelude.{◌≡◌, ℕ, ◌-◌, ◌≤◌, ◌<◌, Some}
use Rattle.module_check.specs.FaultyModule.{IsInvalidAt, IsMalformedAt}
use Rattle.module_check.specs.Items.{IsItemAt, IsNotAcceptedAt, IsSafeAt, item_count}
use Rattle.module_check.specs.UncoveredModule.{IsUncoveredAt}
use Rattle.module_check.specs.Verdicts.{Reports, SaysNo}
use Rattle.module_check.specs.declared.loaded.LoadedModule.{LoadedModule}
use Rattle.module_check.specs.declared.module_verdict.ModuleVerdict.{ModuleVerdict}
use Rattle.module_check.specs.declared.verdict.Item.{Item}

-- each of those from the place start on, below the place end, is safe
abbrev pub AreSafeBetween : LoadedModule → ℕ → ℕ → Type 0
AreSafeBetween m start end =
    (place : ℕ) → start ≤ place → place < end → IsSafeAt m place

-- each of those from the place start on is safe
abbrev pub AreSafeFrom : LoadedModule → ℕ → Type 0
AreSafeFrom m start = (place : ℕ) → start ≤ place → IsSafeAt m place

-- what is reported stands at this place of the row
pub record IsReportedAt (m : LoadedModule) (place : ℕ) (v : ModuleVerdict) : Type 0 where
  pub item : Item
  pub is_there : IsItemAt m place item
  pub reports : Reports (Some item) v

-- what a status says of what stands at this place of the row
pub record ItemAnswer (m : LoadedModule) (place status : ℕ) : Type 0 where
  pub safe : status ≡ 0 → IsSafeAt m place
  pub refused : SaysNo status → IsNotAcceptedAt m place
  pub invalid : status ≡ 1 → IsInvalidAt m place
  pub malformed : status ≡ 2 → IsMalformedAt m place
  pub uncovered : status ≡ 4 → IsUncoveredAt m place

-- Of those from the place start on, the one before the place end is reported, as the status says of it, and those
-- before it are safe.
pub record IsReported (m : LoadedModule) (start end : ℕ) (v : ModuleVerdict) : Type 0 where
  pub further : start < end
  pub within : end ≤ item_count m
  pub before : AreSafeBetween m start (end - 1)
  pub reported : IsReportedAt m (end - 1) v
  pub answer : ItemAnswer m (end - 1) v.status
