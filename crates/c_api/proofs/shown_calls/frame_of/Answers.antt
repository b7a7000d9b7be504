use Rattle.std.specs.Prelude.{◌≡◌, None, option_map}
use Rattle.wasmparser_validate.specs.Functions.{body_state}
use Rattle.validate_stacks.specs.Steps.{frame_at}
use Rattle.c_api.specs.Functions.{InProgress}
use Rattle.c_api.specs.Handle.{held_in}
use Rattle.c_api.specs.Shown.{shown_frame}
use Rattle.c_api.proofs.Held.{of_no_function, shown, not_shown}
use Rattle.c_api.proofs.shown_calls.frame_of.Goals as goal

pub returns-in-Some-clause-found : goal.returns-in-Some-clause-found
returns-in-Some-clause-found c =
    shown (held_in c.args.kept.now) c.in-Some.function.now c.in-Some.ensures c.shown_frame.result (λ (f : InProgress). option_map shown_frame (frame_at (body_state f) c.args.depth)) c.shown_frame.ensures

pub returns-in-Some-clause-missing : goal.returns-in-Some-clause-missing
returns-in-Some-clause-missing c =
    not_shown (held_in c.args.kept.now) c.in-Some.function.now c.in-Some.ensures c.shown_frame.result shown_frame (λ (f : InProgress). frame_at (body_state f) c.args.depth) c.shown_frame.ensures

pub returns-in-None-clause-missing : goal.returns-in-None-clause-missing
returns-in-None-clause-missing c = λ _. of_no_function (held_in c.args.kept.now) c.in-None.ensures (λ (f : InProgress). frame_at (body_state f) c.args.depth ≡ None)
