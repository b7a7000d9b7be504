-- The texts that a run prints (the crate's own).
use Rattle.std.specs.Prelude.{◌++◌, ℕ, List, [], codes, decimal}
use Rattle.opcheck_script.specs.declared.failure.BadScript.{BadScript}
use Rattle.opcheck_script.specs.declared.failure.BadScript.TheVariants.{Input, Line, Order, Module}
use Rattle.opcheck_script.specs.declared.failure.Failure.{Failure}
use Rattle.opcheck_script.specs.declared.failure.Failure.TheVariants.{BadScript as OfBadScript, OutOfMemory}
use Rattle.opcheck_script.specs.declared.failure.Failure.TheVariants.{Output}
use Rattle.opcheck_script.specs.declared.verdict.ScriptVerdict.{ScriptVerdict}
use Rattle.opcheck_script.specs.declared.verdict.ScriptVerdict.TheVariants.{Accepted, Refused, Open}

abbrev pub cause_text : BadScript → List ℕ
cause_text Input = codes "input"
cause_text (Line number) = codes "line " ++ decimal number
cause_text Order = codes "order"
cause_text Module = codes "module"

abbrev pub verdict_text : ScriptVerdict → List ℕ
verdict_text Accepted = codes "accepted"
verdict_text Refused = codes "refused"
verdict_text Open = codes "open"

-- the line on standard error, if there is one
abbrev pub failure_text : Failure → List ℕ
failure_text (OfBadScript cause) = (codes "bad script: " ++ cause_text cause) ++ codes "\n"
failure_text OutOfMemory = codes "out of memory\n"
failure_text Output = []
