-- The constant expressions and bodies of a module in one row (the crate's own).
use Rattle.std.specs.Prelude.{◌≡◌, ℕ, ◌+◌, ◌-◌, ◌^◌, ◌≤◌, ◌<◌, Some, length, slice_get}
use Rattle.binary_modules.specs.declared.initializers.ConstantExpression.{ConstantExpression}
use Rattle.module_check.specs.Loaded.{IsAcceptedExpression, IsAcceptedFunction, IsSafeFunction, IsSafeExpression}
use Rattle.module_check.specs.declared.loaded.LoadedModule.{LoadedModule}
use Rattle.module_check.specs.declared.verdict.Item.{Item}
use Rattle.module_check.specs.declared.verdict.Item.TheVariants.{Function, Expression}

-- how many constant expressions there are
abbrev pub expression_count : LoadedModule → ℕ
expression_count m = length m.expressions.items

-- how many constant expressions and bodies there are
abbrev pub item_count : LoadedModule → ℕ
item_count m = expression_count m + length m.bodies.items

-- the index of the function whose body stands at this place of the row, behind the constant expressions
abbrev pub function_at : LoadedModule → ℕ → ℕ
function_at m place = m.declared.imports.functions + (place - expression_count m)

-- this is what stands at this place of the row: a constant expression by its place in the module, or a body by
-- its function, where the index of that has 32 bits
abbrev pub IsItemAt : LoadedModule → ℕ → Item → Type 0
IsItemAt m place (Function function) =
    (expression_count m ≤ place) × (function_at m place < 2 ^ 32 → function ≡ function_at m place)
IsItemAt m place (Expression at) =
    (e : ConstantExpression) × (slice_get m.expressions.items place ≡ Some e) × (at ≡ e.place)

-- What stands at this place of the row, if something does, is type safe: first stand the constant expressions, and
-- behind them the bodies whose functions' indices have 32 bits.
pub record IsSafeAt (m : LoadedModule) (place : ℕ) : Type 0 where
  pub expression : (e : ConstantExpression) → slice_get m.expressions.items place ≡ Some e
      → IsSafeExpression m e
  pub body : expression_count m ≤ place → place < item_count m → function_at m place < 2 ^ 32
      → IsSafeFunction m (function_at m place)

-- What stands at this place of the row, if something does, is such a constant expression, or the body of such a
-- function, whose index has 32 bits.
pub record StandsAt
    (m : LoadedModule) (of_expression : ConstantExpression → Type 0) (of_function : ℕ → Type 0) (place : ℕ)
    : Type 0 where
  pub expression : (e : ConstantExpression) → slice_get m.expressions.items place ≡ Some e → of_expression e
  pub body : expression_count m ≤ place → function_at m place < 2 ^ 32 → of_function (function_at m place)

-- it isn't accepted
abbrev pub IsNotAcceptedAt : LoadedModule → ℕ → Type 0
IsNotAcceptedAt m = StandsAt m (λ e. ¬ IsAcceptedExpression m e) (λ function. ¬ IsAcceptedFunction m function)

-- each of the first so many is safe
abbrev pub AreSafeBelow : LoadedModule → ℕ → Type 0
AreSafeBelow m end = (place : ℕ) → place < end → IsSafeAt m place
