-- The types of the locals in parts: the first of them plainly, the others in runs (the crate's own).
use Rattle.std.specs.Prelude.{◌≡◌, ℕ, ◌+◌, ◌-◌, ◌<◌, ◌≤◌, List, [], ◌∷◌, ◌++◌, length, replicate}
use Rattle.std.specs.Prelude.{slice_index_or}
use Rattle.validate_types.specs.declared.types.ValType.{ValType}
use Rattle.validate_locals.specs.Limit.{max_locals}

-- how many locals are held plainly at the most
abbrev pub max_first : ℕ
max_first = 50

-- the types of the runs, the first of which begins at this index: of each the greatest index and the type
abbrev pub run_types : ℕ → List (ℕ × ValType) → List ValType
run_types from [] = []
run_types from (run ∷ runs) = replicate (run.0 + 1 - from) run.1 ++ run_types (run.0 + 1) runs

-- the types of all locals
abbrev pub local_types : List ValType → List (ℕ × ValType) → List ValType
local_types first runs = first ++ run_types (length first) runs

-- each run begins after the one before it, and none is empty
abbrev pub AreRuns : ℕ → List (ℕ × ValType) → Type 0
AreRuns from [] = Unit {0}
AreRuns from (run ∷ runs) = (from ≤ run.0) × AreRuns (run.0 + 1) runs

-- the index after the last of the runs
abbrev pub end_of : ℕ → List (ℕ × ValType) → ℕ
end_of from runs = from + length (run_types from runs)

-- the later runs are the earlier ones with these types after them
pub record AreLongerRuns (from : ℕ) (earlier later : List (ℕ × ValType)) (more : List ValType) : Type 0 where
  pub rising : AreRuns from later
  pub types : run_types from later ≡ run_types from earlier ++ more

-- the runs before this place end below the index
abbrev pub EndBelow : List (ℕ × ValType) → ℕ → ℕ → Type 0
EndBelow runs place index = (j : ℕ) (d : ℕ × ValType) → j < place → (slice_index_or runs j d).0 < index

-- the local at this index is in the runs
pub record IsInRuns (runs : List (ℕ × ValType)) (index : ℕ) : Type 0 where
  -- the first of them begins here
  pub from : ℕ
  pub rising : AreRuns from runs
  pub begun : from ≤ index
  pub within : index < end_of from runs

-- so many locals, in runs only once the first are as many as they can be
pub record AreLocals (first : List ValType) (runs : List (ℕ × ValType)) (count : ℕ) : Type 0 where
  pub rising : AreRuns (length first) runs
  pub counted : count ≡ length (local_types first runs)
  pub within_limit : length first ≤ max_first
  pub full : length first < max_first → runs ≡ []
  pub within : count ≤ max_locals
