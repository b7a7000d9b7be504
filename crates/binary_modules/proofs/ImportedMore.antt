-- An import more.
use Rattle.std.proofs.Common.{ap, sym, ◌∙◌, ◌≡◌, List, [], ◌∷◌, ◌++◌}
use Rattle.std.specs.Prelude.{flat_map}
use Rattle.std.proofs.lemmas.List.Concat.{flat_map-append}
use Rattle.binary_modules.specs.Imports.{AreImports, AddsImports}
use Rattle.binary_modules.specs.Modules.{function_in, table_in, memory_in, global_in, tag_in}
use Rattle.binary_modules.specs.declared.imports.Import.{Import}
use Rattle.binary_modules.specs.declared.imports.Imported.{Imported}

more : {A : Type 0} (in_import : Import → List A) (front : List Import) (x : Import) (before after : List A) → before ≡ flat_map in_import front → after ≡ before ++ flat_map in_import (x ∷ []) → after ≡ flat_map in_import (front ++ x ∷ [])
more in_import front x before after h k =
    k ∙ ap (λ l. l ++ flat_map in_import (x ∷ [])) h ∙ sym (flat_map-append in_import front (x ∷ []))

pub import_more : (front : List Import) (x : Import) (before after : Imported) → AreImports front before → AddsImports before (x ∷ []) after → AreImports (front ++ x ∷ []) after
import_more front x before after h k = record {
  functions = more function_in front x _ _ h.functions k.functions;
  tables = more table_in front x _ _ h.tables k.tables;
  memories = more memory_in front x _ _ h.memories k.memories;
  globals = more global_in front x _ _ h.globals k.globals;
  tags = more tag_in front x _ _ h.tags k.tags;
}
