-- What stands in the bytes is safe by the type of its place, and constant there; or it isn't accepted.
use Rattle.std.proofs.Common.{◌≡◌, ◌∙◌, sym, subst}
use Rattle.validate_types.specs.declared.types.ValType.{ValType}
use Rattle.validate_visit.specs.declared.body.BodyKind.TheVariants.{Expression}
use Rattle.module_rules.specs.Constants.{is_constant_in}
use Rattle.module_rules.specs.Features.{operator_features}
use Rattle.module_check.specs.Accepted.{IsAcceptedCode}
use Rattle.module_check.specs.Loaded.{declared, declarations}
use Rattle.module_check.proofs.Begun.{some_same}
use Rattle.module_check.proofs.loaded.LoadedModule.check_expression.Goals as goal

pub returns-clause-safe : goal.returns-clause-safe
returns-clause-safe c = λ accepted.
    let code = c.check_bytes.ensures.accepted accepted in
    record {
      value_type = c.in-Some.ty;
      types = code.0;
      has_place = record { is_of_type = sym c.expression_type.ensures ∙ c.in-Some.is; are_types = code.1 };
      is_safe = code.2;
    }

pub returns-clause-refused : goal.returns-clause-refused
returns-clause-refused c = λ refused memory a.
    let m = c.args.self.now in
    let e = c.args.expression.now in
    let same : a.value_type ≡ c.in-Some.ty = some_same a.value_type c.in-Some.ty (sym a.has_place.is_of_type ∙ (sym c.expression_type.ensures ∙ c.in-Some.is)) in
    c.check_bytes.ensures.refused refused memory a.types a.has_place.are_types
    (subst (λ (ty : ValType). IsAcceptedCode (declared m) (operator_features m.features) a.types (Expression ty) (is_constant_in m.features (declarations m) e.place) e.bytes.left) same a.is_accepted)

pub returns-clause-uncovered : goal.returns-clause-uncovered
returns-clause-uncovered c = λ offset uncovered.
    let code = c.check_bytes.ensures.uncovered offset uncovered in
    record {
      value_type = c.in-Some.ty;
      types = code.0;
      has_place = record { is_of_type = sym c.expression_type.ensures ∙ c.in-Some.is; are_types = code.1 };
      has_vector = code.2;
    }
