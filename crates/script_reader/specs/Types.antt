-- Types, as a script declares them (the crate's own).
use Rattle.std.specs.Prelude.{◌≡◌, ◌++◌, ◌||◌, ◌&&◌, ◌+◌, ◌<◌, ℕ, Bool, true, List, [], ◌∷◌, Option, IfSome, codes}
use Rattle.std.specs.Prelude.{bytes_eq, drop, not, length}
use Rattle.std.specs.List.{AllZip, list_all, list_any, filter, before_first, position_or_len}
use Rattle.std.specs.Option.{option_map}
use Rattle.std.specs.Str.Parse.{digits_value}
use Rattle.validate_types.specs.Types.{Signature}
use Rattle.validate_types.specs.declared.heap.UnpackedIndex.{UnpackedIndex}
use Rattle.validate_types.specs.declared.heap.UnpackedIndex.TheVariants.{Module}
use Rattle.validate_types.specs.declared.types.CompositeInnerType.{CompositeInnerType}
use Rattle.validate_types.specs.declared.types.CompositeInnerType.TheVariants.{Func, Array, Struct, Cont}
use Rattle.validate_types.specs.declared.types.ContType.{ContType}
use Rattle.validate_types.specs.declared.heap.TheConstants.PackedIndex.{LIMIT}
use Rattle.script_reader.specs.Access.{text_after, one_if_some}
use Rattle.script_reader.specs.Numbers.{IsIndex}
use Rattle.script_reader.specs.Fields.{IsFieldName, fits_field}
use Rattle.script_reader.specs.Values.{IsValueName, fits_value}

-- the word says what kind of type it is
abbrev pub is_kind : List ℕ → Bool
is_kind word =
    bytes_eq word (codes "func") || bytes_eq word (codes "struct") || bytes_eq word (codes "array")
    || bytes_eq word (codes "cont")

-- the marks of a type: the words before its kind
abbrev pub type_marks : List (List ℕ) → List (List ℕ)
type_marks words = before_first is_kind words

-- the kind of a type, and all words after it
abbrev pub kind_onwards : List (List ℕ) → List (List ℕ)
kind_onwards words = drop (position_or_len is_kind words) words

-- one of the marks is `shared`
abbrev pub is_marked_shared : List (List ℕ) → Bool
is_marked_shared marks = list_any (λ mark. bytes_eq mark (codes "shared")) marks

-- the index that a mark gives after this prefix, if one does
abbrev pub index_in_mark : List ℕ → List (List ℕ) → Option UnpackedIndex
index_in_mark prefix marks = option_map (λ digits. Module (digits_value 10 digits)) (text_after prefix marks)

-- the supertype, the type of the descriptors, and the one whose values are described
abbrev pub supertype_in : List (List ℕ) → Option UnpackedIndex
supertype_in marks = index_in_mark (codes "sub=") marks

abbrev pub descriptor_in : List (List ℕ) → Option UnpackedIndex
descriptor_in marks = index_in_mark (codes "desc=") marks

abbrev pub described_in : List (List ℕ) → Option UnpackedIndex
described_in marks = index_in_mark (codes "describes=") marks

-- the marks that aren't `shared`
abbrev pub other_marks : List (List ℕ) → List (List ℕ)
other_marks marks = filter (λ mark. not (bytes_eq mark (codes "shared"))) marks

-- digits that write an index which a reference or a supertype can pack
abbrev pub IsPackedIndex : List ℕ → Type 0
IsPackedIndex digits = IsIndex digits × (digits_value 10 digits < LIMIT)

-- Words that are the marks of a type: each is `shared`, but for one at most of each of three, which give a
-- supertype, the type of the descriptors and the type that is described by indices that are packed.
pub record AreMarks (marks : List (List ℕ)) : Type 0 where
  pub known :
      length (other_marks marks)
      ≡ one_if_some (text_after (codes "sub=") marks) + one_if_some (text_after (codes "desc=") marks)
      + one_if_some (text_after (codes "describes=") marks)
  pub supertype : IfSome (text_after (codes "sub=") marks) IsPackedIndex
  pub descriptor : IfSome (text_after (codes "desc=") marks) IsPackedIndex
  pub described : IfSome (text_after (codes "describes=") marks) IsPackedIndex

-- the words name the parameters, and behind an arrow the results
abbrev pub IsSignature : List (List ℕ) → Signature → Type 0
IsSignature words signature =
    (params results : List (List ℕ))
    × (words ≡ params ++ codes "->" ∷ results)
    × AllZip IsValueName params signature.params
    × AllZip IsValueName results signature.results

-- the word writes the index of a continuation's function type
abbrev pub IsContName : List ℕ → ContType → Type 0
IsContName word cont = IsPackedIndex word × (cont.0 ≡ Module (digits_value 10 word))

-- the words say the kind, and write what the type is made of
abbrev pub IsComposite : List (List ℕ) → CompositeInnerType → Type 0
IsComposite (kind ∷ words) (Func signature) = (kind ≡ codes "func") × IsSignature words signature
IsComposite (kind ∷ words) (Struct fields) = (kind ≡ codes "struct") × AllZip IsFieldName words fields
IsComposite (kind ∷ words) (Array array) = (kind ≡ codes "array") × AllZip IsFieldName words (array.0 ∷ [])
IsComposite (kind ∷ words) (Cont cont) = (kind ≡ codes "cont") × AllZip IsContName words (cont ∷ [])
IsComposite [] inner = ⊥

-- each type index in it is packed
abbrev pub fits_signature : Signature → Bool
fits_signature signature = list_all fits_value signature.params && list_all fits_value signature.results

abbrev pub fits_composite : CompositeInnerType → Bool
fits_composite (Func signature) = fits_signature signature
fits_composite (Struct fields) = list_all fits_field fields
fits_composite (Array array) = fits_field array.0
fits_composite (Cont cont) = true
