-- What is read behind the code makes the operator that is handed in.
use Rattle.std.proofs.Common.{◌≡◌, Option, Some, ap, sym, subst, ◌∙◌, option_map}
use Rattle.binary_operators.specs.Codes.{at, access_ops}
use Rattle.binary_operators.specs.Unplaced.{unplaced}
use Rattle.validate_visit.specs.declared.memory.MemArg.{MemArg}
use Rattle.validate_visit.specs.declared.op.Op.{Op}
use Rattle.validate_visit.specs.declared.op.Op.TheVariants.{Memory}
use Rattle.module_check.proofs.Forms.{access_told}
use Rattle.module_check.proofs.told.passes_access.Goals as goal

pub passes_memory-requires-clause-like : goal.passes_memory-requires-clause-like
passes_memory-requires-clause-like g c =
    let op = Memory c.in-Some-Memory.op in
    let made = sym c.access_op.ensures ∙ ap (λ (o : Option Op). option_map (λ (x : Op). unplaced x) o) (c.in-Some-Memory.is ∙ ap (λ (x : Op). Some x) c.in-Some-Memory.field-0-is) in
    let of_code = subst (λ n. option_map (λ (f : MemArg → Op). f c.in-Ok.place) (at n access_ops) ≡ Some (unplaced op)) c.from.ensures made in
    access_told c.requires.begins op c.in-Ok.place c.requires.form c.in-Ok.ensures.read of_code
