-- An export, as contracts see it (WebAssembly core specification, "Modules": exports).
use Rattle.std.specs.Prelude.{ℕ, List}
use Rattle.module_rules.specs.declared.items.ExternalKind.{ExternalKind}

-- its name, as bytes, and which item of which kind it is
pub record Exported : Type 0 where
  pub name : List ℕ
  pub kind : ExternalKind
  pub index : ℕ
  pub offset : ℕ
