-- A run of pops that pushes nothing: what it leaves, and when it is refused.
use Rattle.std.proofs.Common.{◌≡◌, ℕ, [], Some, None, Ok, Err, replicate, reverse, sym, ap, ◌∙◌}
use Rattle.validate_resources.specs.Context.{ModuleContext}
use Rattle.validate_types.specs.declared.types.ValType.{ValType}
use Rattle.validate_stacks.specs.Attempts.{Stacked}
use Rattle.validate_stacks.specs.Moves.{Exchanges, Takes}
use Rattle.validate_stacks.specs.Pops.{body_popped_each, body_pushed_each}
use Rattle.validate_stacks.proofs.AtOnce.{mapped_some}
use Rattle.validate_stacks.proofs.PopRuns.{reverse-replicate}

module _ {E : Type 0} (md : ModuleContext) (tells : E → Type 0) (n : ℕ) (t : ValType) (s w : Stacked) where
  pub run_popped : (u : Unit {0}) → Exchanges md tells (replicate n t) [] s (Ok u) w → body_popped_each md (replicate n t) s.body ≡ Some w.body
  unfolding Takes
  run_popped u x =
      let between = mapped_some (body_pushed_each []) (body_popped_each md (reverse (replicate n t)) s.body) w.body x in
      ap (λ ws. body_popped_each md ws s.body) (sym (reverse-replicate n t)) ∙ between.1 ∙ ap Some between.2

  pub run_refused : (e : E) → Exchanges md tells (replicate n t) [] s (Err e) w → (w ≡ s) × (tells e → body_popped_each md (replicate n t) s.body ≡ None)
  unfolding Takes
  run_refused e x = (x.0, λ told. ap (λ ws. body_popped_each md ws s.body) (sym (reverse-replicate n t)) ∙ x.1 told)
