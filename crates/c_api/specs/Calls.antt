-- What the calls on a module say (the crate's own).
use Rattle.std.specs.Prelude.{◌≡◌, ℕ, ◌≤◌, List, None, Some}
use Rattle.module_check.specs.Loaded.{bytes_of, body_at, features_of}
use Rattle.module_check.specs.declared.loaded.LoadedModule.{LoadedModule}
use Rattle.module_check.specs.EmptySections.{completed}
use Rattle.module_check.specs.Unbodied.{DeclaresInModule, declared_by, features_of as features_alone}
use Rattle.module_check.specs.declared.unbodied.LoadedDeclarations.{LoadedDeclarations}
use Rattle.module_rules.specs.Features.{of_bits}
use Rattle.c_api.specs.Handle.{MaybeKept}
use Rattle.c_api.specs.Modules.{module_of}
use Rattle.c_api.specs.declared.kept.Kept.TheVariants.{Module, Function}
use Rattle.c_api.specs.declared.shared.HeldModule.{HeldModule}
use Rattle.c_api.specs.declared.shared.HeldModule.TheVariants.{Whole, Declared}

-- it is a module with its bodies, and this holds of it
abbrev pub OnWhole : HeldModule → (LoadedModule → Type 0) → Type 0
OnWhole (Whole m) p = p m
OnWhole (Declared d) p = ⊥

-- this holds of it, if it is one with its bodies
abbrev pub OfWhole : HeldModule → (LoadedModule → Type 0) → Type 0
OfWhole (Whole m) p = p m
OfWhole (Declared d) p = Unit {0}

-- there is a module, with its bodies or without, and this holds of it
abbrev pub OnHeld : MaybeKept → (HeldModule → Type 0) → Type 0
OnHeld None p = ⊥
OnHeld (Some (Module s)) p = p (module_of s)
OnHeld (Some (Function f)) p = ⊥

-- this holds of the module, if there is one
abbrev pub OfHeld : MaybeKept → (HeldModule → Type 0) → Type 0
OfHeld None p = Unit {0}
OfHeld (Some (Module s)) p = p (module_of s)
OfHeld (Some (Function f)) p = Unit {0}

-- there is a module with its bodies, and this holds of it
abbrev pub OnModule : MaybeKept → (LoadedModule → Type 0) → Type 0
OnModule o p = OnHeld o (λ h. OnWhole h p)

-- this holds of the module, if there is one with its bodies
abbrev pub OfModule : MaybeKept → (LoadedModule → Type 0) → Type 0
OfModule None p = Unit {0}
OfModule (Some (Module s)) p = OfWhole (module_of s) p
OfModule (Some (Function f)) p = Unit {0}

-- there is no module
abbrev pub HasNoModule : MaybeKept → Type 0
HasNoModule None = Unit {0}
HasNoModule (Some (Module s)) = ⊥
HasNoModule (Some (Function f)) = Unit {0}

-- there is a module, and both have it
abbrev pub HaveTheSame : MaybeKept → MaybeKept → Type 0
HaveTheSame s t = OnHeld s (λ h. OnHeld t (λ i. h ≡ i))

-- it has no body for the function at this index
abbrev pub HasNoBody : HeldModule → ℕ → Type 0
HasNoBody (Whole m) function = m.declared.imports.functions ≤ function → body_at m function ≡ None
HasNoBody (Declared d) function = Unit {0}

-- it has no bodies
abbrev pub IsDeclared : HeldModule → Type 0
IsDeclared (Whole m) = ⊥
IsDeclared (Declared d) = Unit {0}

-- the module was read of these bytes, under the proposals that these bits stand for
pub record IsLoadedFrom (bytes : List ℕ) (bits : ℕ) (m : LoadedModule) : Type 0 where
  pub has_bytes : bytes_of m ≡ bytes
  pub has_features : features_of m ≡ of_bits bits

-- what was declared was read of these bytes, with empty bodies and data segments behind them, under the proposals that
-- these bits stand for
pub record AreDeclaredFrom (bytes : List ℕ) (bits : ℕ) (d : LoadedDeclarations) : Type 0 where
  pub declare : DeclaresInModule (completed bytes) (declared_by d)
  pub have_features : features_alone d ≡ of_bits bits

-- it is what a module declares without bodies, and this holds of it
abbrev pub OnDeclared : HeldModule → (LoadedDeclarations → Type 0) → Type 0
OnDeclared (Whole m) p = ⊥
OnDeclared (Declared d) p = p d
