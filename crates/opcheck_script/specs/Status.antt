-- The statuses of the program (the crate's own).
use Rattle.std.specs.Prelude.{ℕ, Bool, true, false, Result, Ok, Err}
use Rattle.script_reader.specs.declared.failure.ScriptError.{ScriptError}
use Rattle.script_reader.specs.declared.failure.ScriptError.TheVariants.{BadLine, OutOfMemory as NoMemory}
use Rattle.opcheck_script.specs.declared.failure.BadScript.TheVariants.{Line}
use Rattle.opcheck_script.specs.declared.failure.Failure.{Failure}
use Rattle.opcheck_script.specs.declared.failure.Failure.TheVariants.{BadScript, OutOfMemory, Output}
use Rattle.opcheck_script.specs.declared.verdict.ScriptVerdict.{ScriptVerdict}
use Rattle.opcheck_script.specs.declared.verdict.ScriptVerdict.TheVariants.{Accepted, Refused, Open}

-- 0: accepted. 1: refused or open. 2: a bad script. 3: want of memory, or a failed write.
abbrev pub status_of : Result ScriptVerdict Failure → ℕ
status_of (Ok Accepted) = 0
status_of (Ok Refused) = 1
status_of (Ok Open) = 1
status_of (Err (BadScript cause)) = 2
status_of (Err OutOfMemory) = 3
status_of (Err Output) = 3

-- what a body comes to: accepted where the outermost frame is closed, and else open
abbrev pub verdict_of : {E : Type 0} → Result Bool E → ScriptVerdict
verdict_of (Ok true) = Accepted
verdict_of (Ok false) = Open
verdict_of (Err refusal) = Refused

-- why a run ends whose script isn't read
abbrev pub failure_of : ScriptError → Failure
failure_of (BadLine number) = BadScript (Line number)
failure_of NoMemory = OutOfMemory
