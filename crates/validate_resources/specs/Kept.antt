-- What a lookup over lists keeps (the crate's own).
use Rattle.validate_resources.specs.declared.lists.ModuleLists.{ModuleLists}
use Rattle.validate_resources.specs.Lists.{Declared, declared_by}

-- what is declared by the lists that it keeps
abbrev pub declared_lists : ModuleLists → Declared
declared_lists m =
    declared_by m.types.items m.functions.items m.tables.items m.memories.items
    m.globals.items m.tags.items m.elements.items m.data_count
