use Rattle.std.proofs.Common.{arith, ◌≡◌, [], ◌∷◌, length, map, ◌∙◌}
use Rattle.std.proofs.lemmas.List.{length-map}
use Rattle.std.proofs.lemmas.Slice.Zip.{AllZip-long}
use Rattle.script_reader.specs.Types.{IsContName}
use Rattle.script_reader.proofs.Marks.{text_of}
use Rattle.script_reader.proofs.parts.types.read_cont.Goals as goal
use Rattle.script_reader.proofs.parts.types.read_cont.Goals.{in_default-via-then-words-lt1, in_default-via-else-words-lt1+else-words-lt2}

pub returns-in_default-clause-other : goal.returns-in_default-clause-other
returns-in_default-clause-other c ty named =
    let words = c.args.words.now in
    let one : 1 ≡ length words = AllZip-long IsContName (map text_of words) (ty ∷ []) named ∙ length-map words text_of in
    elim c.in_default.branch [ in_default-via-then-words-lt1 w ↦ search (arith) | in_default-via-else-words-lt1+else-words-lt2 w ↦ search (arith) ]
