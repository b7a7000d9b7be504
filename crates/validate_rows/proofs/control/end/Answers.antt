use Rattle.std.proofs.Common.{sym, ap, ◌∙◌}
use Rattle.std.specs.Option.{option_copied}
use Rattle.validate_stacks.proofs.ClosedFrames.{some_frame}
use Rattle.validate_rows.proofs.control.end.Goals as goal

pub unreachable-requires : goal.unreachable-requires
unreachable-requires g c = some_frame c.args.context.stacks.now.body c.requires.open_frame (sym c.get_frame.ensures ∙ ap option_copied c.in_default.is)
