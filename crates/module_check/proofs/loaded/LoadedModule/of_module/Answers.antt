-- What is declared is what the bytes are decoded to, wherever in them it stands.
use Rattle.std.proofs.Common.{map}
use Rattle.binary_modules.specs.ContentsRead.{bytes_of as bytes_left}
use Rattle.binary_modules.specs.Kept.{told}
use Rattle.module_rules.specs.Declarations.{declarations_of}
use Rattle.module_check.proofs.Decoded.{declare_invalid, are_too_large}
use Rattle.module_check.proofs.loaded.LoadedModule.of_module.Goals as goal

pub returns-clause-invalid : goal.returns-clause-invalid
returns-clause-invalid c = λ e is.
    let m = c.args.module in
    declare_invalid c.args.bytes.now (declarations_of m.declared) (bytes_left m.bodies.items) (map told m.expressions.items) c.requires.read c.args.features
    (c.in-Err.ensures.invalid e (c.of_module.ensures.invalid e is))

pub returns-clause-too_large : goal.returns-clause-too_large
returns-clause-too_large c = λ e is.
    let m = c.args.module in
    are_too_large c.args.bytes.now (declarations_of m.declared) (bytes_left m.bodies.items) (map told m.expressions.items) c.requires.read
    (c.in-Err.ensures.too_large e (c.of_module.ensures.too_large e is))
