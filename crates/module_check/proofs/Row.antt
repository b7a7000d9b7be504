-- The row of a module's constant expressions and bodies.
use Rattle.std.proofs.Common.{◌≡◌, ◌≤◌, ◌<◌, ◌+◌, ◌-◌, ◌^◌, ℕ, ap, get_or, sym, subst, ◌∙◌, arith}
use Rattle.std.proofs.lemmas.Bool.{cases_lt}
use Rattle.std.proofs.lemmas.Option.{get_or_from_slice_get, slice_get_within}
use mathlib.Core.Logic.{inl, inr}
use Rattle.binary_modules.specs.declared.initializers.ConstantExpression.{ConstantExpression}
use Rattle.module_check.specs.Items.{IsSafeAt, StandsAt, AreSafeBelow, expression_count, function_at, item_count}
use Rattle.module_check.specs.Loaded.{declarations, IsSafeExpression, IsSafeFunction, IsSafeModule, IsValid}
use Rattle.module_check.specs.declared.loaded.LoadedModule.{LoadedModule}
use Rattle.module_check.proofs.Counted.{few_functions}

module _ (m : LoadedModule) where
  -- one more
  pub one_more : (end : ℕ) → AreSafeBelow m end → IsSafeAt m end → AreSafeBelow m (end + 1)
  one_more end before this place within = elim (cases_lt place end) [ inl below ↦ before place below | inr past ↦ subst (IsSafeAt m) (omega (arith, past, within)) this ]

  -- what stands at a place among the constant expressions is as that expression is
  pub expression_stands : (of_expression : ConstantExpression → Type 0) (of_function : ℕ → Type 0) (place : ℕ) (e : ConstantExpression)
      → place < expression_count m → e ≡ get_or m.expressions.items place e → of_expression e → StandsAt m of_expression of_function place
  expression_stands of_expression of_function place e inside is_there this = record {
    expression = λ f is. subst of_expression (is_there ∙ get_or_from_slice_get m.expressions.items place f e is) this;
    body = λ past fits. absurd (omega (arith, past, inside));
  }

  -- what stands behind them is as the function is whose body stands there
  pub body_stands : (of_expression : ConstantExpression → Type 0) (of_function : ℕ → Type 0) (place behind function : ℕ)
      → expression_count m ≤ place → behind ≡ place - expression_count m
      → (m.declared.imports.functions + behind < 2 ^ 32 → function ≡ m.declared.imports.functions + behind)
      → of_function function → StandsAt m of_expression of_function place
  body_stands of_expression of_function place behind function past is_behind is_index this = record {
    expression = λ e is. absurd (omega (arith, past, slice_get_within m.expressions.items place e is));
    body = λ _ fits. subst of_function (is_index (subst (λ n. m.declared.imports.functions + n < 2 ^ 32) (sym is_behind) fits) ∙ ap (λ n. m.declared.imports.functions + n) is_behind) this;
  }

  -- it is safe where it is as what is safe
  pub safe_there : (place : ℕ) → StandsAt m (IsSafeExpression m) (IsSafeFunction m) place → IsSafeAt m place
  safe_there place this = record { expression = this.expression; body = λ past _ fits. this.body past fits }

  -- where all that stands in the row is safe, each function that isn't imported is, and each constant expression
  all_safe : (end : ℕ) → item_count m ≤ end → AreSafeBelow m end → IsSafeModule m
  all_safe end enough safe = record {
    functions = λ function own there.
        let few = few_functions (declarations m) m.within in
        let place = expression_count m + (function - m.declared.imports.functions) in
        let counted = m.counted in
        let past : expression_count m ≤ place = omega arith in
        let within : place < item_count m = omega (arith, counted, there, own) in
        let same : function_at m place ≡ function = omega (arith, own) in
        let small : function_at m place < 2 ^ 32 = omega (arith, few, there, same) in
        subst (IsSafeFunction m) same ((safe place (omega (arith, within, enough))).body past within small);
    expressions = λ place e within is. (safe place (omega (arith, within, enough))).expression e is;
  }

  pub valid : (end : ℕ) → item_count m ≤ end → AreSafeBelow m end → IsValid m
  valid end enough safe = record {
    is_module = m.read;
    declarations_valid = m.valid;
    declarations_within = m.within;
    is_lookup = m.lookup;
    code_safe = all_safe end enough safe;
  }
