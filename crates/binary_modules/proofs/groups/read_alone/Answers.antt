-- The type is read where none of its group can be named.
use Rattle.std.proofs.Common.{rules, ap, ◌≡◌, ◌-◌, ◌^◌}
use Rattle.binary_operators.specs.declared.types.GroupNames.TheVariants.{Indices}
use Rattle.binary_modules.proofs.Anyhow.{reads_anyhow}
use Rattle.binary_modules.proofs.groups.read_alone.Goals as goal

pub returns-in-Ok-clause-read : goal.returns-in-Ok-clause-read
returns-in-Ok-clause-read c =
    let names = c.in_group-names.result in
    let here : names.canonical.now ≡ c.args.canonical.now = ap (λ t. t.canonical.now) c.in_group-names.ensures in
    let last : names.group ≡ Indices (2 ^ 32 - 1) = ap (λ t. t.group) c.in_group-names.ensures in
    reads_anyhow names c.args.canonical.now c.args.reader.now.left _ c.in-Ok.ty here last (search rules)
