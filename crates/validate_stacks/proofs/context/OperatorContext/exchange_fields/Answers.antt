use Rattle.std.proofs.Common.{rules, arith, true, false}
use Rattle.std.proofs.lemmas.List.{length-map}
use Rattle.validate_types.specs.Types.{unpacked_fields}
use Rattle.validation_rules.specs.Structs.{field_value}
use Rattle.validate_stacks.specs.Pops.{body_pushed_each}
use Rattle.validate_stacks.proofs.Moves.{popped, not_taken, fits_now}
use Rattle.validate_stacks.proofs.context.OperatorContext.exchange_fields.Goals as goal

pub returns-in_err-expect_fields : goal.returns-in_err-expect_fields
returns-in_err-expect_fields g c =
    let md = g.R.WasmModuleResources.context c.args.self.resources.now in
    let unfit = fits_now md (unpacked_fields c.args.fields.now) c.args.self.stacks.now.body false c.in_err-expect_fields.ensures.unfit in
    not_taken md _ (unpacked_fields c.args.fields.now) (body_pushed_each c.args.pushed.now) c.args.self.stacks.now _ c.requires.visit.open_frame (search rules) unfit

pub returns : goal.returns
returns g c =
    let md = g.R.WasmModuleResources.context c.args.self.resources.now in
    let fit = fits_now md (unpacked_fields c.args.fields.now) c.args.self.stacks.now.body true c.in_ok-expect_fields.ensures.fit in
    popped md _ (unpacked_fields c.args.fields.now) (body_pushed_each c.args.pushed.now) c.args.self.stacks.now _ c.min.result c.exchange.result fit (omega (arith, c.min.ensures, c.own_operand_count-own.ensures, length-map c.args.fields.now field_value)) c.exchange.ensures.told c.exchange.ensures.exact
