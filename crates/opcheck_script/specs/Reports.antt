-- What the check of a script answers (the crate's own).
use Rattle.std.specs.Prelude.{◌≡◌, ◌⊎◌, ◌↔◌, ℕ, Bool, true, false, IsTrue, List, [], Some, Result, Ok, Err}
use Rattle.std.specs.Prelude.{length, ◌&&◌, ◌||◌, None, IsSome, IfSome, OnOk, IfOk, IfErr}
use Rattle.std.specs.List.{list_any}
use Rattle.validate_types.specs.ErrorValue.{ErrorValue}
use Rattle.validate_types.specs.declared.features.WasmFeatures.{WasmFeatures}
use Rattle.validate_resources.specs.Context.{ModuleContext}
use Rattle.validate_resources.specs.Lists.{Declared, context_of, module_of}
use Rattle.validate_visit.specs.Order.{is_well_ordered_list}
use Rattle.validate_visit.specs.declared.body.LocalGroup.{LocalGroup}
use Rattle.validate_visit.specs.declared.frame.BlockType.{BlockType}
use Rattle.validate_visit.specs.declared.op.Op.{Op}
use Rattle.validate_stacks.specs.State.{BodyState}
use Rattle.validation_rules.specs.Static.{State, start}
use Rattle.validate_operators.specs.Begin.{HasLocals, CannotBegin, without_places}
use Rattle.validate_operators.specs.Runs.{without_offsets, body_before, AreHeightsAfter, IsRefusedAt, IsSafeFrom}
use Rattle.opcheck_script.specs.Attempts.{Attempted, RunsEach, accepted_of}
use Rattle.opcheck_script.specs.declared.failure.BadScript.TheVariants.{Order, Module}
use Rattle.opcheck_script.specs.declared.failure.Failure.{Failure}
use Rattle.opcheck_script.specs.declared.failure.Failure.TheVariants.{BadScript, OutOfMemory}
use Rattle.opcheck_script.specs.declared.report.Report.{Report}
use Rattle.opcheck_script.specs.declared.report.Answers.{Answers}
use Rattle.opcheck_script.specs.declared.report.Answers.TheVariants.{Heights, Each}
use Rattle.script_reader.specs.declared.parts.script.BodyLine.{BodyLine}
use Rattle.script_reader.specs.declared.parts.script.Script.{Script}

-- What a run of operators as one list answers: whether the outermost frame is closed, where all
-- rows hold; or the refusal of the first operator whose row doesn't. The heights are those after each
-- operator before that.
abbrev pub RunsThrough :
    ModuleContext → BodyState → List (Op × ℕ) → List (ℕ × ℕ) → Result Bool ErrorValue → Type 0
RunsThrough md v ops heights (Ok closed) =
    (s : State) × (body_before md v ops (length ops) ≡ Some s) × (IsTrue closed ↔ (s.frames ≡ []))
    × AreHeightsAfter md v ops (length ops) heights
RunsThrough md v ops heights (Err refusal) =
    (k : ℕ) × IsRefusedAt md v ops k refusal × AreHeightsAfter md v ops k heights

abbrev pub is_attempted : Bool → Bool
is_attempted b = b

-- the operators are run one by one: where types are shown, or one of them is attempted
abbrev pub is_run_each : Bool → Attempted → Bool
is_run_each shows body = shows || list_any is_attempted body.attempts

-- what the run of the operators from this state answers
abbrev pub Runs : ModuleContext → BodyState → Bool → Attempted → Answers → Result Bool ErrorValue → Type 0
Runs md v shows body (Heights heights) outcome =
    (is_run_each shows body ≡ false) × RunsThrough md v body.ops heights.items outcome
Runs md v shows body (Each answers) outcome =
    (is_run_each shows body ≡ true) × RunsEach md v shows body answers.items outcome

-- the operators that were accepted, where no plain one was refused
abbrev pub accepted_in : List (Op × ℕ) → Answers → List (Op × ℕ)
accepted_in ops (Heights heights) = ops
accepted_in ops (Each answers) = accepted_of ops answers.items

-- the body of a script: the proposals that are on, whether types are shown, the line that begins it, its
-- `local` lines, and its operators
pub record ScriptBody : Type 0 where
  pub features : WasmFeatures
  pub shows : Bool
  pub line : BodyLine
  pub locals : List LocalGroup
  pub operators : Attempted

abbrev pub script_body : Script → ScriptBody
script_body script =
    record {
      features = script.features;
      shows = script.shows;
      line = script.body;
      locals = script.locals.items;
      operators = record { ops = script.operators.ops.items; attempts = script.operators.attempts.items };
    }

-- the body begins, with its locals, and its operators run from there; where the outermost frame is closed
-- at the end, the body of those that were accepted is type safe
pub record IsRun (md : ModuleContext) (body : ScriptBody) (report : Report) : Type 0 where
  pub begun : BodyState
  pub has_locals : HasLocals md body.features body.line.kind (without_places body.locals) begun
  pub runs : Runs md begun body.shows body.operators report.answers report.outcome
  pub block_type : BlockType
  pub one_frame : begun.present ≡ start block_type
  pub safe :
      report.outcome ≡ Ok true →
      IsSafeFrom md begun (accepted_in body.operators.ops report.answers) block_type

-- nothing is answered at an operator
abbrev pub HasNone : Answers → Type 0
HasNone (Heights heights) = heights.items ≡ []
HasNone (Each answers) = answers.items ≡ []

-- the body is refused before its operators
pub record IsRefusedBefore (md : ModuleContext) (body : ScriptBody) (report : Report) : Type 0 where
  pub refusal : ErrorValue
  pub is_outcome : report.outcome ≡ Err refusal
  pub cause :
      refusal.wants_memory ≡ false →
      CannotBegin md body.features body.line.kind body.line.offset body.locals refusal.offset
  pub none_noted : HasNone report.answers

abbrev pub IsReport : ModuleContext → ScriptBody → Report → Type 0
IsReport md body report = IsRun md body report ⊎ IsRefusedBefore md body report

-- What comes of a script with these declarations and this body: a report of a body in order, in its module; or
-- why there is none, want of memory aside.
pub record ChecksScript (declared : Declared) (body : ScriptBody) (answer : Result Report Failure) : Type 0 where
  pub ordered : OnOk answer (is_well_ordered_list (without_offsets body.operators.ops) ≡ true)
  pub declares : OnOk answer (IsSome (module_of declared))
  pub report :
      IfOk answer (λ report. IfSome (module_of declared) (λ lists. IsReport (context_of lists) body report))
  pub cause :
      IfErr answer
      (λ failure.
      (failure ≡ OutOfMemory)
      ⊎ ((failure ≡ BadScript Order) × (is_well_ordered_list (without_offsets body.operators.ops) ≡ false))
      ⊎ ((failure ≡ BadScript Module) × (module_of declared ≡ None)))
