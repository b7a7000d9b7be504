-- A module within the limits has few functions, and what stands in its row of items is accepted where the module is.
use Rattle.std.proofs.Common.{◌≡◌, ◌∙◌, ℕ, ◌+◌, ◌-◌, ◌^◌, ◌≤◌, ◌<◌, length, Some, ap, sym, subst, arith, get_or}
use Rattle.std.proofs.lemmas.Bool.{and_parts, leb-true}
use Rattle.std.proofs.lemmas.Option.{slice_get-get_or}
use Rattle.binary_modules.specs.declared.initializers.ConstantExpression.{ConstantExpression}
use Rattle.module_rules.specs.Declarations.{Declarations}
use Rattle.module_rules.specs.Within.{IsWithin}
use Rattle.module_check.specs.Items.{expression_count, item_count}
use Rattle.module_check.specs.Loaded.{declarations, IsAcceptedFunction, IsAcceptedExpression, IsAcceptedModule}
use Rattle.module_check.specs.declared.loaded.LoadedModule.{LoadedModule}

pub few_functions : (d : Declarations) → IsWithin d → length d.functions ≤ 1000000
few_functions d h =
    let items = (and_parts _ _ (and_parts _ _ h).0).1 in
    let functions = (and_parts _ _ (and_parts _ _ (and_parts _ _ (and_parts _ _ items).0).0).0).0 in
    leb-true _ _ functions

module _ (m : LoadedModule) where
  -- a constant expression that stands there is accepted, if the module is
  pub accepted_there : (place : ℕ) (e : ConstantExpression) → place < expression_count m → e ≡ get_or m.expressions.items place e → IsAcceptedModule m → IsAcceptedExpression m e
  accepted_there place e inside is_there a =
      a.expressions place e (slice_get-get_or m.expressions.items place e inside ∙ ap Some (sym is_there))

  -- and so is the body of this function
  pub accepted_body : (place behind function : ℕ) → expression_count m ≤ place → place < item_count m → behind ≡ place - expression_count m → (m.declared.imports.functions + behind < 2 ^ 32 → function ≡ m.declared.imports.functions + behind) → IsAcceptedModule m → IsAcceptedFunction m function
  accepted_body place behind function past within is_behind is_index a =
      let few = few_functions (declarations m) m.within in
      let counted = m.counted in
      let there : m.declared.imports.functions + behind < length m.declared.functions.items = omega (arith, counted, within, past, is_behind) in
      let small : m.declared.imports.functions + behind < 2 ^ 32 = omega (arith, few, there) in
      subst (IsAcceptedFunction m) (sym (is_index small)) (a.functions (m.declared.imports.functions + behind) (omega arith) there)
