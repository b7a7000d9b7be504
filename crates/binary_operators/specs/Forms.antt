-- What follows the code of an operator (WebAssembly core specification, "Binary Format: Instructions", and
-- the proposals).
use Rattle.std.specs.Prelude.{ℕ, ◌-◌, List, [], ◌∷◌, ◌++◌, Option, None, slice_get, replicate}
use Rattle.std.specs.Prelude.{nat_lt, nat_eq, if◌then◌else◌}
use Rattle.binary_operators.specs.declared.forms.Form.{Form}
use Rattle.binary_operators.specs.declared.forms.Form.TheVariants.{Illegal, Plain, Block, Index, TwoIndices}
use Rattle.binary_operators.specs.declared.forms.Form.TheVariants.{TypeIndex, TypedIndex, TwoTypes, Heap}
use Rattle.binary_operators.specs.declared.forms.Form.TheVariants.{Cast}
use Rattle.binary_operators.specs.declared.forms.Form.TheVariants.{Access, Atomic, I32, I64, F32, F64}
use Rattle.binary_operators.specs.declared.forms.Form.TheVariants.{Numeric}
use Rattle.binary_operators.specs.declared.forms.Form.TheVariants.{Conversion, Labels, Types, Clauses}
use Rattle.binary_operators.specs.declared.forms.Form.TheVariants.{Handlers}
use Rattle.binary_operators.specs.declared.forms.Form.TheVariants.{Thrown, Fence, Global, Table, Field, Array}
use Rattle.binary_operators.specs.declared.forms.Form.TheVariants.{Prefix, Vector}

-- the item of this code, where the first item of a list has that one
abbrev pub from : {A : Type 0} → ℕ → List A → ℕ → Option A
from first items code = if nat_lt code first then None else slice_get items (code - first)

-- The forms of all codes below an end. A row has the form of the codes from its own on, up to that of the
-- next row.
abbrev pub row_end : ℕ → List (ℕ × Form) → ℕ
row_end end [] = end
row_end end (row ∷ rows) = row.0

abbrev pub forms_below : ℕ → List (ℕ × Form) → List Form
forms_below end [] = []
forms_below end (row ∷ rows) = replicate (row_end end rows - row.0) row.1 ++ forms_below end rows

-- codes of one byte
unfoldable pub forms : List Form
forms = forms_below 0x100
    ((0x00, Plain) ∷ (0x02, Block) ∷ (0x05, Plain) ∷ (0x06, Block) ∷ (0x07, Index) ∷ (0x0a, Plain)
    ∷ (0x0c, Index) ∷ (0x0e, Labels) ∷ (0x0f, Plain) ∷ (0x10, Index) ∷ (0x11, TypedIndex)
    ∷ (0x12, Index) ∷ (0x13, TypedIndex) ∷ (0x14, TypeIndex) ∷ (0x16, Illegal) ∷ (0x18, Index)
    ∷ (0x19, Plain) ∷ (0x1c, Types) ∷ (0x1d, Illegal) ∷ (0x1f, Clauses) ∷ (0x20, Index)
    ∷ (0x27, Illegal) ∷ (0x28, Access) ∷ (0x3f, Index) ∷ (0x41, I32) ∷ (0x42, I64) ∷ (0x43, F32)
    ∷ (0x44, F64) ∷ (0x45, Numeric) ∷ (0xa7, Conversion) ∷ (0xc5, Illegal) ∷ (0xd0, Heap)
    ∷ (0xd1, Plain) ∷ (0xd2, Index) ∷ (0xd3, Plain) ∷ (0xd5, Index) ∷ (0xd7, Illegal)
    ∷ (0xe0, TypeIndex) ∷ (0xe1, TwoTypes) ∷ (0xe2, Index) ∷ (0xe3, Handlers) ∷ (0xe4, Thrown)
    ∷ (0xe5, Handlers) ∷ (0xe6, TypedIndex) ∷ (0xe7, Illegal) ∷ (0xfb, Prefix) ∷ (0xfd, Vector)
    ∷ (0xfe, Prefix) ∷ (0xff, Illegal) ∷ [])

-- codes behind the prefix 0xfb
unfoldable pub forms_fb : List Form
forms_fb = forms_below 0x27
    ((0x00, TypeIndex) ∷ (0x02, TypedIndex) ∷ (0x06, TypeIndex) ∷ (0x08, TypedIndex)
    ∷ (0x0b, TypeIndex) ∷ (0x0f, Plain) ∷ (0x10, TypeIndex) ∷ (0x11, TwoTypes) ∷ (0x12, TypedIndex)
    ∷ (0x14, Heap) ∷ (0x18, Cast) ∷ (0x1a, Plain) ∷ (0x1f, Illegal) ∷ (0x20, TypeIndex)
    ∷ (0x23, Heap) ∷ (0x25, Cast) ∷ [])

-- codes behind the prefix 0xfc
unfoldable pub forms_fc : List Form
forms_fc = forms_below 0x17
    ((0x00, Plain) ∷ (0x08, TwoIndices) ∷ (0x09, Index) ∷ (0x0a, TwoIndices) ∷ (0x0b, Index)
    ∷ (0x0c, TwoIndices) ∷ (0x0d, Index) ∷ (0x0e, TwoIndices) ∷ (0x0f, Index) ∷ (0x13, Plain) ∷ [])

-- codes behind the prefix 0xfe
unfoldable pub forms_fe : List Form
forms_fe = forms_below 0x73
    ((0x00, Access) ∷ (0x03, Fence) ∷ (0x04, Plain) ∷ (0x05, Illegal) ∷ (0x10, Atomic)
    ∷ (0x4f, Global) ∷ (0x58, Table) ∷ (0x5c, Field) ∷ (0x67, Array) ∷ (0x72, Plain) ∷ [])

abbrev pub forms_behind : ℕ → List Form
forms_behind prefix =
    if nat_eq prefix 0xfb then forms_fb
    else (if nat_eq prefix 0xfc then forms_fc else (if nat_eq prefix 0xfe then forms_fe else []))
