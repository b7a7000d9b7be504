-- What was checked and accepted is the code of the body; what was refused is none, by its first fault.
use Rattle.std.proofs.Common.{◌≡◌, ◌∙◌, ap, sym, inl, inr}
use Rattle.module_check.specs.Constant.{may_stand}
use Rattle.module_check.specs.Faults.{end_of}
use Rattle.module_check.specs.Refusals.{IsMalformed, IsRefusal, IsVector}
use Rattle.module_check.specs.Verdicts.{verdict_offset}
use Rattle.module_check.specs.declared.verdict.Verdict.TheVariants.{Accepted, Malformed, NotCovered, OutOfMemory, Refused}
use Rattle.validate_operators.specs.Validator.{state}
use Rattle.module_check.proofs.Begun.{given_ok, error_of, both_told, not_started}
use Rattle.module_check.proofs.FirstFaults.{no_code, vector_there, vector_is_refusal, malformed_is_refusal}
use Rattle.module_check.proofs.body.check_body.Goals as goal

pub returns-in-Ok-clause-accepted : goal.returns-in-Ok-clause-accepted
returns-in-Ok-clause-accepted g c = λ accepted.
    given_ok c.check_body_from-checked.result (c.of_check_in.ensures.accepted.0 (c.under.ensures.accepted.0 accepted)) c.check_body_from-checked.ensures.accepted c.args.context.now.features.now c.in-Ok.ensures.made

pub returns-in-Ok-clause-refused : goal.returns-in-Ok-clause-refused
returns-in-Ok-clause-refused g c = λ refused memory.
    error_of c.check_body_from-checked.result IsRefusal _ (λ ok. refused (c.under.ensures.accepted.1 (c.of_check_in.ensures.accepted.1 ok)))
    (c.of_check_in.ensures.refused (λ a. refused (c.under.ensures.accepted.1 a)) (λ m. memory (c.under.ensures.memory.1 m))) c.check_body_from-checked.ensures.fault
    (λ e refusal f. no_code (g.R.WasmModuleResources.context c.args.context.now.resources.now) c.args.context.now.features.now c.args.context.now.types (may_stand c.args.context.now.constant)
    (end_of c.args.reader.now) c.args.reader.now.left c.args.kind e (f refusal c.args.context.now.features.now c.in-Ok.ensures.made) refusal)

pub returns-in-Err-clause-refused : goal.returns-in-Err-clause-refused
returns-in-Err-clause-refused g c = λ refused memory.
    not_started (g.R.WasmModuleResources.context c.args.context.now.resources.now) c.args.context.now.features.now c.args.context.now.types (may_stand c.args.context.now.constant) (state c.start_body.new.self) c.args.reader.now.left c.args.kind
    (c.in-Err.ensures.refused (c.of_error.ensures.memory memory))

pub returns-in-Ok-clause-uncovered : goal.returns-in-Ok-clause-uncovered
returns-in-Ok-clause-uncovered g c = λ offset uncovered.
    let was : c.of_check_in.result ≡ NotCovered offset = sym (c.under.ensures.same (c.under.ensures.proposal offset uncovered)) ∙ uncovered in
    error_of c.check_body_from-checked.result IsVector _ (λ ok. let clash : NotCovered offset ≡ Accepted = sym was ∙ c.of_check_in.ensures.accepted.1 ok in absurd cc)
    (c.of_check_in.ensures.uncovered offset was) c.check_body_from-checked.ensures.fault
    (λ e vector f. vector_there (g.R.WasmModuleResources.context c.args.context.now.resources.now) c.args.context.now.features.now c.args.context.now.types (may_stand c.args.context.now.constant)
    (end_of c.args.reader.now) c.args.reader.now.left c.args.kind e (f (vector_is_refusal e vector) c.args.context.now.features.now c.in-Ok.ensures.made) vector)

pub returns-in-Ok-clause-malformed : goal.returns-in-Ok-clause-malformed
returns-in-Ok-clause-malformed g c = λ error malformed.
    let was : c.of_check_in.result ≡ Malformed error = c.under.ensures.malformed error malformed in
    error_of c.check_body_from-checked.result IsMalformed _ (λ ok. let clash : Malformed error ≡ Accepted = sym was ∙ c.of_check_in.ensures.accepted.1 ok in absurd cc)
    (c.of_check_in.ensures.malformed error was) c.check_body_from-checked.ensures.fault
    (λ e is f. record { error = e; is_malformed = is; has_fault = f (malformed_is_refusal e is) c.args.context.now.features.now c.in-Ok.ensures.made })

pub returns-in-Err-clause-malformed : goal.returns-in-Err-clause-malformed
returns-in-Err-clause-malformed g c = λ error malformed. absurd (c.of_error.ensures.malformed error malformed)

pub returns-in-Ok-clause-invalid : goal.returns-in-Ok-clause-invalid
returns-in-Ok-clause-invalid g c = λ error refused.
    let checked = c.check_body_from-checked in
    let accepted = λ (a : c.of_check_in.result ≡ Accepted). let clash : Refused error ≡ Accepted = sym refused ∙ c.under.ensures.accepted.1 a in absurd cc in
    let memory = λ (m : c.of_check_in.result ≡ OutOfMemory). let clash : Refused error ≡ OutOfMemory = sym refused ∙ c.under.ensures.memory.1 m in absurd cc in
    let offset : verdict_offset c.of_check_in.result ≡ error.offset = sym c.under.ensures.offset ∙ ap verdict_offset refused in
    inr (error_of checked.result IsRefusal _ (λ ok. accepted (c.of_check_in.ensures.accepted.1 ok)) (c.of_check_in.ensures.refused accepted memory)
    (both_told checked.result _ _ (c.of_check_in.ensures.offset memory) checked.ensures.fault)
    (λ e is f. record {
      error = e;
      is_refusal = is;
      is_told = f.0 ∙ offset;
      has_fault = f.1 is c.args.context.now.features.now c.in-Ok.ensures.made;
    }))

pub returns-in-Err-clause-invalid : goal.returns-in-Err-clause-invalid
returns-in-Err-clause-invalid g c = λ error refused. inl (c.in-Err.ensures.refused (c.of_error.ensures.refused error refused))
