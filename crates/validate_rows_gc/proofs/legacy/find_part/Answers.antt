use Rattle.std.proofs.Common.{rules, [], Bool, sym, ap, ◌∙◌}
use Rattle.std.specs.Option.{option_copied}
use Rattle.validation_rules.specs.Rows.{BeginsCatch, may_catch, catch_kind}
use Rattle.validate_stacks.specs.Steps.{body_with_frame, body_without_frame}
use Rattle.validate_stacks.proofs.ClosedFrames.{frame_told, some_frame}
use Rattle.validate_shapes.proofs.Parts.{part_none, part_of_another, part_passes}
use Rattle.validate_rows_gc.proofs.LegacySteps.{catch_begins}
use Rattle.validate_rows_gc.proofs.legacy.find_part.Goals as goal

pub unreachable-requires : goal.unreachable-requires
unreachable-requires g c = some_frame c.args.context.now.stacks.now.body c.requires.open_frame (sym c.get_frame.ensures ∙ ap option_copied c.in_default.is)

pub find_results-requires-clause-results : goal.find_results-requires-clause-results
find_results-requires-clause-results g c =
    frame_told c.args.context.now.stacks.now.body c.in-Some.frame.now _ (sym c.get_frame.ensures ∙ ap option_copied c.in-Some.is) c.results.ensures

pub returns-in_err-popped-clause-refused : goal.returns-in_err-popped-clause-refused
returns-in_err-popped-clause-refused g c =
    let md = g.R.WasmModuleResources.context c.args.context.now.resources.now in
    let v = c.args.context.now.stacks.now.body in
    let none = λ (all : Bool). part_none (BeginsCatch all []) may_catch (catch_kind all) (λ cx bt. []) (catch_begins all) md v c.requires.open_frame c.in_err-popped.ensures.stays in
    search (rules, none)

pub returns-then-not-may_catch-clause-refused : goal.returns-then-not-may_catch-clause-refused
returns-then-not-may_catch-clause-refused g c all =
    let md = g.R.WasmModuleResources.context c.args.context.now.resources.now in
    let there = sym c.get_frame.ensures ∙ ap option_copied c.in-Some.is in
    part_of_another (BeginsCatch all []) may_catch (catch_kind all) (λ cx bt. []) (catch_begins all) md c.args.context.now.stacks.now.body c.in-Some.frame.now there (sym c.may_catch.ensures ∙ c.if-not-may_catch.true)

pub returns-clause-block : goal.returns-clause-block
returns-clause-block g c =
    frame_told c.args.context.now.stacks.now.body c.in-Some.frame.now _ (sym c.get_frame.ensures ∙ ap option_copied c.in-Some.is) (search rules)

pub returns-clause-begins : goal.returns-clause-begins
returns-clause-begins g c all =
    let md = g.R.WasmModuleResources.context c.args.context.now.resources.now in
    let v = c.args.context.now.stacks.now.body in
    let f = c.in-Some.frame.now in
    let there = sym c.get_frame.ensures ∙ ap option_copied c.in-Some.is in
    let left = body_without_frame v in
    part_passes (BeginsCatch all []) may_catch (catch_kind all) (λ cx bt. []) (catch_begins all) md v f there left (body_with_frame (catch_kind all) f.block_type left) c.in_ok-popped.ensures.closes (sym c.may_catch.ensures ∙ c.if-not-may_catch.false) (search rules)
