-- Where the list of an operator lies doesn't matter to its row, nor to whether it may stand there.
use Rattle.std.proofs.Common.{◌≡◌, Option, Some, None, refl}
use Rattle.binary_operators.specs.Unplaced.{unplaced}
use Rattle.validate_visit.specs.declared.op.Op.{Op}
use Rattle.validate_visit.specs.declared.op.Op.TheVariants.{Control, Exception, Continuation}
use Rattle.validate_visit.specs.declared.op.ControlOp.TheVariants.{BrTable, TypedSelectMulti}
use Rattle.validate_visit.specs.declared.op.ContinuationOp.TheVariants.{Resume, ResumeThrow, ResumeThrowRef}
use Rattle.validate_visit.specs.declared.op.ExceptionOp.TheVariants.{TryTable}
use Rattle.validation_rules.specs.Context.{Context}
use Rattle.validation_rules.specs.Operators.{operator}
use Rattle.module_check.specs.Constant.{may_stand}
use Rattle.module_check.specs.declared.constant.ConstantPlace.{ConstantPlace}

pub same_operator : (cx : Context) (op : Op) → operator cx (unplaced op) ≡ operator cx op
same_operator cx (Control (BrTable t)) = refl
same_operator cx (Control (TypedSelectMulti ts)) = refl
same_operator cx (Control op) = refl
same_operator cx (Exception (TryTable t)) = refl
same_operator cx (Exception op) = refl
same_operator cx (Continuation (Resume i t)) = refl
same_operator cx (Continuation (ResumeThrow i j t)) = refl
same_operator cx (Continuation (ResumeThrowRef i t)) = refl
same_operator cx (Continuation op) = refl
same_operator cx op = refl

pub same_place : (at : Option ConstantPlace) (op : Op) → may_stand at (unplaced op) ≡ may_stand at op
same_place None op = refl
same_place (Some at) (Control (BrTable t)) = refl
same_place (Some at) (Control (TypedSelectMulti ts)) = refl
same_place (Some at) (Control op) = refl
same_place (Some at) (Exception (TryTable t)) = refl
same_place (Some at) (Exception op) = refl
same_place (Some at) (Continuation (Resume i t)) = refl
same_place (Some at) (Continuation (ResumeThrow i j t)) = refl
same_place (Some at) (Continuation (ResumeThrowRef i t)) = refl
same_place (Some at) (Continuation op) = refl
same_place (Some at) op = refl
