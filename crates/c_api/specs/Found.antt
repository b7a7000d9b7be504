-- What there is to check in a handle (the crate's own).
use Rattle.std.specs.Prelude.{◌≡◌}
use Rattle.c_api.specs.Calls.{OnHeld, HasNoModule, IsDeclared}
use Rattle.c_api.specs.Handle.{MaybeKept}
use Rattle.c_api.specs.declared.shared.HeldModule.TheVariants.{Whole}
use Rattle.c_api.specs.declared.found.Found.{Found}
use Rattle.c_api.specs.declared.found.Found.TheVariants.{Bodies, NoBodies, NoModule}

-- this was found in what a handle has
abbrev pub Finds : MaybeKept → Found → Type 0
Finds o (Bodies m) = OnHeld o (λ h. h ≡ Whole m.now)
Finds o NoBodies = OnHeld o IsDeclared
Finds o NoModule = HasNoModule o
