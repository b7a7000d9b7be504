-- A verdict that is told of bytes isn't that of want of memory.
use Rattle.std.proofs.Common.{◌≡◌, ℕ}
use Rattle.module_check.specs.declared.load_refusal.LoadRefusal.TheVariants.{Judged}
use Rattle.module_check.specs.declared.verdict.Verdict.{Verdict}
use Rattle.module_check.specs.declared.verdict.Verdict.TheVariants.{Refused, Malformed, NotCovered, OutOfMemory}
use Rattle.validate_types.specs.declared.error.Error.{Error}

pub uncovered_told : (v : Verdict) (offset : ℕ) → Judged v ≡ Judged (NotCovered offset) → v ≡ OutOfMemory → ⊥
uncovered_told v offset is wanting = absurd cc

pub malformed_told : (v : Verdict) (e : Error) → Judged v ≡ Judged (Malformed e) → v ≡ OutOfMemory → ⊥
malformed_told v e is wanting = absurd cc

pub refused_told : (v : Verdict) (e : Error) → Judged v ≡ Judged (Refused e) → v ≡ OutOfMemory → ⊥
refused_told v e is wanting = absurd cc

pub judged_same : {v w : Verdict} → Judged v ≡ Judged w → v ≡ w
judged_same is = cc
