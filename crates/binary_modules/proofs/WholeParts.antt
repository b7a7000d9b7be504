-- What a whole module's parts come to.
use Rattle.std.proofs.Common.{arith, ap, subst, sym, ◌∙◌, ◌≡◌, ℕ, ◌+◌, List, [], ◌++◌, length, map, Option}
use Rattle.std.specs.Prelude.{flat_map, IfSome}
use Rattle.std.proofs.lemmas.List.{length-map, length-append}
use Rattle.module_rules.specs.declared.module.Imports.{Imports}
use Rattle.module_rules.specs.declared.module.Place.{Place}
use Rattle.binary_modules.specs.ContentsRead.{IsList}
use Rattle.binary_modules.specs.Imports.{AreImports, AreCounted}
use Rattle.binary_modules.specs.Initializers.{Expression}
use Rattle.binary_modules.specs.Items.{Item, declared_items}
use Rattle.binary_modules.specs.Kept.{Adds, told, told_expression}
use Rattle.binary_modules.specs.ModulesRead.{AreImported}
use Rattle.binary_modules.specs.Sections.{Section}
use Rattle.binary_modules.specs.declared.imports.Import.{Import}
use Rattle.binary_modules.specs.declared.imports.Imported.{Imported}
use Rattle.binary_modules.specs.declared.initializers.Initializers.{Initializers}
use Rattle.binary_modules.proofs.Added.{functions_in}

-- as many more as the section has
pub list_length : {A : Type 0} (reading : List ℕ → Option (Item A × List ℕ)) (unplaced : A → A) (id : ℕ) (sections : List Section) (before after : List A) (read : List (Item A)) → IsList reading unplaced id sections before after read → length after ≡ length before + length read
list_length reading unplaced id sections before after read h =
    let e = ap length h.are_behind in
    let a = length-map after unplaced in
    let b = length-map before unplaced in
    let d = length-map read (λ (x : Item _). x.declared) in
    let s = length-append (map unplaced before) (declared_items read) in
    omega (arith, e, a, b, d, s)

pub bodies_each : {A : Type 0} (imported bodies functions : ℕ) (before after : List A) (own : ℕ) → imported + bodies ≡ functions → imported ≡ length before → functions ≡ length after → length after ≡ length before + own → bodies ≡ own
bodies_each imported bodies functions before after own e i f l = omega arith

pub counted_by : (count : Option ℕ) (a b : ℕ) → IfSome count (λ n. n ≡ a) → a ≡ b → IfSome count (λ n. n ≡ b)
counted_by count a b h e = let P : ℕ → Type 0 = λ m. IfSome count (λ n. n ≡ m) in subst P e h

pub are_imported : (imports : List Import) (items : Imported) (n : Imports) → AreImports imports items → AreCounted items n → AreImported imports n
are_imported imports items n h k = record {
  functions = k.functions ∙ sym (length-map items.functions.items _) ∙ ap length h.functions;
  tables = k.tables ∙ sym (length-map items.tables.items _) ∙ ap length h.tables;
  memories = k.memories ∙ sym (length-map items.memories.items _) ∙ ap length h.memories;
  globals = k.globals ∙ sym (length-map items.globals.items _) ∙ ap length h.globals;
  tags = k.tags ∙ sym (length-map items.tags.items _) ∙ ap length h.tags;
}

pub all_expressions : (v w : Initializers) (read all : List (Place × Expression)) → v.expressions.items ≡ [] → Adds v read w → read ≡ all → map told w.expressions.items ≡ map told_expression all
all_expressions v w read all none h e =
    h.expressions ∙ ap (λ l. map told l ++ map told_expression read) none ∙ ap (map told_expression) e

pub all_functions : (v w : Initializers) (read all : List (Place × Expression)) → v.functions.items ≡ [] → Adds v read w → read ≡ all → w.functions.items ≡ flat_map functions_in all
all_functions v w read all none h e =
    h.functions ∙ ap (λ l. l ++ flat_map functions_in read) none ∙ ap (flat_map functions_in) e
