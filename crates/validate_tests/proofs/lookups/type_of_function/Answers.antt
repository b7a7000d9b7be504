-- A lookup knows the id of each function's type, by its law.
use Rattle.std.proofs.Common.{◌≡◌, Bool, true, false, ◌&&◌, is_some, refl, sym, ◌∙◌}
use Rattle.validate_tests.proofs.lookups.type_of_function.Goals as goal

first : (a b : Bool) → (a && b) ≡ true → a ≡ true
first true b e = refl
first false b e = e

pub sub_type_at_id-requires : goal.sub_type_at_id-requires
sub_type_at_id-requires g c =
    let md = g.R.WasmModuleResources.context c.args.lists.now in
    let known = (g.met.R.WasmModuleResources.lawful c.args.lists.now).functions c.args.function c.in-Some.id (sym c.type_id_of_function.ensures ∙ c.in-Some.is) in
    first (is_some (md.type_of_id c.in-Some.id)) _ known
