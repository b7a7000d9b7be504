use Rattle.std.proofs.Common.{arith, ◌≡◌, [], ◌∷◌, length, map, ◌∙◌}
use Rattle.std.proofs.lemmas.List.{length-map}
use Rattle.std.proofs.lemmas.Slice.Zip.{AllZip-long}
use Rattle.script_reader.specs.Fields.{IsFieldName}
use Rattle.script_reader.proofs.Marks.{text_of}
use Rattle.script_reader.proofs.parts.types.read_array.Goals as goal

pub returns-in_default-2-clause-other : goal.returns-in_default-2-clause-other
returns-in_default-2-clause-other c ty fits named =
    let words = c.args.words.now in
    let one : 1 ≡ length words = AllZip-long IsFieldName (map text_of words) (ty.0 ∷ []) named ∙ length-map words text_of in
    let two = c.in_default.len_at_least in
    search (arith)
