use Rattle.std.specs.Prelude.{◌≡◌, None, slice_get, option_map}
use Rattle.c_api.specs.Functions.{InProgress}
use Rattle.c_api.specs.Handle.{held_in}
use Rattle.c_api.specs.Shown.{shown_type}
use Rattle.c_api.proofs.Held.{of_no_function, shown, not_shown}
use Rattle.c_api.proofs.shown_calls.local_of.Goals as goal

pub returns-in-Some-clause-found : goal.returns-in-Some-clause-found
returns-in-Some-clause-found c =
    shown (held_in c.args.kept.now) c.in-Some.function.now c.in-Some.ensures c.shown_local.result (λ (f : InProgress). option_map shown_type (slice_get f.starting.locals c.args.index)) c.shown_local.ensures

pub returns-in-Some-clause-missing : goal.returns-in-Some-clause-missing
returns-in-Some-clause-missing c =
    not_shown (held_in c.args.kept.now) c.in-Some.function.now c.in-Some.ensures c.shown_local.result shown_type (λ (f : InProgress). slice_get f.starting.locals c.args.index) c.shown_local.ensures

pub returns-in-None-clause-missing : goal.returns-in-None-clause-missing
returns-in-None-clause-missing c = λ _. of_no_function (held_in c.args.kept.now) c.in-None.ensures (λ (f : InProgress). slice_get f.starting.locals c.args.index ≡ None)
