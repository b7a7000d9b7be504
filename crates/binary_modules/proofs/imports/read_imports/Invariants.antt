-- What is left to read of the imports makes the whole list, behind those that were read.
use Rattle.std.proofs.Common.{◌≡◌, ◌-◌, List}
use Rattle.binary_operators.specs.Values.{so_many}
use Rattle.binary_operators.proofs.Items.{with_front}
use Rattle.binary_modules.specs.Imports.{AreImports}
use Rattle.binary_modules.specs.Items.{import_item}
use Rattle.binary_modules.specs.declared.imports.Import.{Import}
use Rattle.binary_modules.proofs.imports.read_imports.Given as goal

abbrev pub invariant-loop : goal.invariant-loop
invariant-loop l =
    (front : List Import)
    × (with_front front (so_many (import_item l.fn.canonical) (l.count - l.counter) l.reader.left)
    ≡ so_many (import_item l.fn.canonical) l.count l.initial.reader.left)
    × AreImports front l.imported
