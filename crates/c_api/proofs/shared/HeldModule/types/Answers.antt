use Rattle.c_api.proofs.shared.HeldModule.types.Goals as goal

pub returns-in-Whole : goal.returns-in-Whole
returns-in-Whole c = rw c.in-Whole.is (record { canonical = c.types.ensures.canonical; behind = c.types.ensures.behind })
