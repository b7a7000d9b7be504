-- Locals in parts, computed.
use Rattle.std.proofs.Common.{◌≡◌, [], ◌∷◌, ◌++◌, true, false, replicate, refl}
use Rattle.validate_types.specs.declared.types.ValType.TheVariants.{I32, I64, F32}
use Rattle.validate_locals.specs.Inits.{all_marks, marks_without}
use Rattle.validate_locals.specs.Runs.{run_types, local_types}

-- no runs, and two of which the first begins at index 2 and the second at 5
no_runs : local_types (I32 ∷ I64 ∷ []) [] ≡ I32 ∷ I64 ∷ []
no_runs = refl

two_runs : run_types 2 ((4, F32) ∷ (5, I64) ∷ []) ≡ F32 ∷ F32 ∷ F32 ∷ I64 ∷ []
two_runs = refl

-- 49 locals and 3 more: the first of these comes among the first 50, the others are a run up to index 51
first_and_run : local_types (replicate 49 I32 ++ I64 ∷ []) ((51, I64) ∷ []) ≡ replicate 49 I32 ++ replicate 3 I64
first_and_run = refl

single_runs : local_types (replicate 50 I32) ((50, I64) ∷ (51, F32) ∷ []) ≡ replicate 50 I32 ++ I64 ∷ F32 ∷ []
single_runs = refl

-- two locals without marks, one that was unset and was set since, and one that is unset
since : marks_without (2 ∷ []) (all_marks 2 (true ∷ false ∷ [])) ≡ true ∷ true ∷ false ∷ false ∷ []
since = refl
