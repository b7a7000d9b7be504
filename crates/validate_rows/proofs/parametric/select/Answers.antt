use Rattle.std.proofs.Common.{rules, ◌≡◌, true, ◌∷◌, [], Some, reverse, sym, ap, ◌∙◌}
use Rattle.validate_types.specs.declared.types.ValType.TheVariants.{I32}
use Rattle.validate_resources.specs.Context.{is_number_or_vector}
use Rattle.validation_rules.specs.Fits.{MaybeType}
use Rattle.validate_stacks.specs.Moves.{Moves}
use Rattle.validate_stacks.proofs.AtOnce.{found_below, exchange_parts, was_made}
use Rattle.validate_rows.proofs.SelectSteps.{number_valid, select_exchanged}
use Rattle.validate_rows.proofs.parametric.select.Goals as goal

pub returns-then-exchange_numbers_at_once : goal.returns-then-exchange_numbers_at_once
unfolding Moves
returns-then-exchange_numbers_at_once g c =
    let md = g.R.WasmModuleResources.context c.args.context.resources.now in
    let laws = g.met.R.WasmModuleResources.lawful c.args.context.resources.now in
    let v = c.args.context.stacks.now.body in
    let w = c.exchange_numbers_at_once.new.self.body in
    let t = c.in-Some-Known.ty in
    let number : is_number_or_vector t ≡ true = search rules in
    let upper = sym (found_below v) ∙ sym c.type_found.ensures ∙ c.in-Some-Known.is ∙ ap (λ (x : MaybeType). Some x) c.in-Some-Known.field-0-is in
    let e = was_made _ c.exchange_numbers_at_once.result c.if-exchange_numbers_at_once.true c.exchange_numbers_at_once.ensures.exact in
    let x = exchange_parts md (reverse (t ∷ t ∷ I32 ∷ [])) (t ∷ []) v w e in
    record { step = select_exchanged md laws v c.requires.open_frame t number upper x.between x.popped ∙ ap Some (sym x.pushed); valid = x.valid (number_valid md t number, tt) c.requires.valid; kept = x.kept }
