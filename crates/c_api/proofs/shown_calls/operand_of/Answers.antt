use Rattle.std.specs.Prelude.{◌≡◌, None, option_map}
use Rattle.wasmparser_validate.specs.Functions.{body_state}
use Rattle.validate_stacks.specs.Steps.{type_at_depth}
use Rattle.c_api.specs.Functions.{InProgress}
use Rattle.c_api.specs.Handle.{held_in}
use Rattle.c_api.specs.Shown.{shown_operand}
use Rattle.c_api.proofs.Held.{of_no_function, shown, not_shown}
use Rattle.c_api.proofs.shown_calls.operand_of.Goals as goal

pub returns-in-Some-clause-found : goal.returns-in-Some-clause-found
returns-in-Some-clause-found c =
    shown (held_in c.args.kept.now) c.in-Some.function.now c.in-Some.ensures c.shown_operand.result (λ (f : InProgress). option_map shown_operand (type_at_depth (body_state f) c.args.depth)) c.shown_operand.ensures

pub returns-in-Some-clause-missing : goal.returns-in-Some-clause-missing
returns-in-Some-clause-missing c =
    not_shown (held_in c.args.kept.now) c.in-Some.function.now c.in-Some.ensures c.shown_operand.result shown_operand (λ (f : InProgress). type_at_depth (body_state f) c.args.depth) c.shown_operand.ensures

pub returns-in-None-clause-missing : goal.returns-in-None-clause-missing
returns-in-None-clause-missing c = λ _. of_no_function (held_in c.args.kept.now) c.in-None.ensures (λ (f : InProgress). type_at_depth (body_state f) c.args.depth ≡ None)
