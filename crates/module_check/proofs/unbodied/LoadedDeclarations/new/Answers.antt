-- What is said of the bytes with the sections behind them.
use Rattle.std.proofs.Common.{List, ℕ, ◌∙◌, sym, subst, inl, inr}
use Rattle.binary_modules.specs.Modules.{IsNoModule}
use Rattle.module_check.specs.Decoded.{DeclareValid}
use Rattle.module_check.specs.Unloaded.{AreUnloaded}
use Rattle.module_check.proofs.unbodied.LoadedDeclarations.new.Goals as goal

pub returns-clause-malformed : goal.returns-clause-malformed
returns-clause-malformed c = λ e is.
    subst (λ (bytes : List ℕ). IsNoModule bytes) (c.deref.ensures.value ∙ c.in-Ok.ensures) (elim (c.within.ensures.malformed e is) [
      | inl same ↦ c.in-Err.ensures.malformed e same
      | inr other ↦ c.in-Err.ensures.unread other.0 other.1
    ])

pub returns-clause-invalid : goal.returns-clause-invalid
returns-clause-invalid c = λ e is.
    subst (λ (bytes : List ℕ). AreUnloaded c.args.features bytes) (c.deref.ensures.value ∙ c.in-Ok.ensures)
    (c.in-Err.ensures.invalid e (c.within.ensures.invalid e is))

pub returns-clause-complete : goal.returns-clause-complete
returns-clause-complete c = λ valid.
    c.within.ensures.memory (c.in-Err.ensures.complete (subst (λ (bytes : List ℕ). DeclareValid c.args.features bytes) (sym (c.deref.ensures.value ∙ c.in-Ok.ensures)) valid))
