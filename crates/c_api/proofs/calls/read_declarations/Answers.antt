-- The proposals are those that the bits stand for.
use Rattle.module_rules.specs.declared.features.ModuleFeatures.{ModuleFeatures}
use Rattle.module_check.specs.Decoded.{DeclareValid}
use Rattle.module_check.specs.EmptySections.{completed}
use Rattle.module_check.specs.Unloaded.{AreUnloaded}
use Rattle.module_check.specs.declared.load_refusal.LoadRefusal.TheVariants.{Judged}
use Rattle.module_check.specs.declared.verdict.Verdict.TheVariants.{OutOfMemory, Refused}
use Rattle.validate_types.specs.declared.error.Error.{Error}
use Rattle.std.proofs.Common.{◌≡◌, OnOk, subst}
use Rattle.c_api.proofs.Bytes.{declared_from, vector_in, under_bits}
use Rattle.c_api.proofs.calls.read_declarations.Goals as goal

pub returns-clause-declared : goal.returns-clause-declared
returns-clause-declared c =
    declared_from c.args.bytes.now c.args.features c.of_bits.result c.new.result c.new.ensures.read c.new.ensures.features c.of_bits.ensures

pub returns-clause-uncovered : goal.returns-clause-uncovered
returns-clause-uncovered c =
    vector_in c.args.bytes.now c.args.features c.of_bits.result c.new.result c.new.ensures.proposal c.new.ensures.uncovered c.of_bits.ensures

pub returns-clause-malformed : goal.returns-clause-malformed
returns-clause-malformed c = c.new.ensures.malformed

pub returns-clause-invalid : goal.returns-clause-invalid
returns-clause-invalid c =
    under_bits c.args.features c.of_bits.result c.new.result (λ f v. (e : Error) → v ≡ Judged (Refused e) → AreUnloaded f (completed c.args.bytes.now)) c.new.ensures.invalid c.of_bits.ensures

pub returns-clause-valid : goal.returns-clause-valid
returns-clause-valid c =
    subst (λ (f : ModuleFeatures). OnOk c.new.result (DeclareValid f (completed c.args.bytes.now))) c.of_bits.ensures c.new.ensures.valid

pub returns-clause-complete : goal.returns-clause-complete
returns-clause-complete c =
    under_bits c.args.features c.of_bits.result c.new.result (λ f v. DeclareValid f (completed c.args.bytes.now) → v ≡ Judged OutOfMemory) c.new.ensures.complete c.of_bits.ensures

pub returns-clause-too_large : goal.returns-clause-too_large
returns-clause-too_large c = c.new.ensures.too_large
