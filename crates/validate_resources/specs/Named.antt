-- What a record of lists declares (the crate's own).
use Rattle.std.specs.Prelude.{List, [], None}
use Rattle.validate_types.specs.declared.types.SubType.{SubType}
use Rattle.validate_resources.specs.Lists.{Declared, declared_by}
use Rattle.validate_resources.specs.declared.declarations.ModuleDeclarations.{ModuleDeclarations}
use Rattle.validate_resources.specs.declared.valid.ModuleItems.{ModuleItems}

-- its lists
abbrev pub declared_in : ModuleDeclarations → Declared
declared_in d = declared_by d.types.items d.functions.items d.tables.items d.memories.items
    d.globals.items d.tags.items d.elements.items d.data_count

-- these types, and its lists
abbrev pub declared_with : List SubType → ModuleItems → Declared
declared_with types m = declared_by types m.functions.items m.tables.items m.memories.items
    m.globals.items m.tags.items m.elements.items m.data_count

-- nothing at all
abbrev pub nothing_declared : Declared
nothing_declared = declared_by [] [] [] [] [] [] [] None
