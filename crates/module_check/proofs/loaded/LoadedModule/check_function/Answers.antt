-- What is refused is the body that the module has for the function, by the function's type.
use Rattle.std.proofs.Common.{◌≡◌, ◌∙◌, ℕ, None, sym, subst}
use Rattle.binary_operators.specs.Unread.{Unread}
use Rattle.validate_visit.specs.declared.body.BodyKind.TheVariants.{Function}
use Rattle.module_rules.specs.Features.{operator_features}
use Rattle.module_check.specs.Accepted.{IsAcceptedCode}
use Rattle.module_check.specs.Constant.{may_stand}
use Rattle.module_check.specs.Loaded.{declared}
use Rattle.module_check.proofs.Begun.{some_same}
use Rattle.module_check.proofs.loaded.LoadedModule.check_function.Goals as goal

pub returns-in-Some-type_of-clause-refused : goal.returns-in-Some-type_of-clause-refused
returns-in-Some-type_of-clause-refused c = λ refused memory a.
    let m = c.args.self.now in
    let same_type : a.type_index ≡ c.in-Some-type_of.ty = some_same a.type_index c.in-Some-type_of.ty (sym a.is_body.is_of_type ∙ (sym c.type_of.ensures ∙ c.in-Some-type_of.is)) in
    let same_body : a.body ≡ c.in-Some.body.now = some_same a.body c.in-Some.body.now (sym a.is_body.is_body ∙ c.in-Some.ensures.is_body) in
    c.check_bytes.ensures.refused refused memory a.types a.is_body.are_types
    (subst (λ (b : Unread). IsAcceptedCode (declared m) (operator_features m.features) a.types (Function c.in-Some-type_of.ty) (may_stand None) b.left) same_body
    (subst (λ (ty : ℕ). IsAcceptedCode (declared m) (operator_features m.features) a.types (Function ty) (may_stand None) a.body.left) same_type a.is_accepted))
