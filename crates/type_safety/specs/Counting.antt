-- Counting finds each delimiter, which the standard's grammar nests (WebAssembly core specification,
-- "Structure: Control Instructions"; the law is the crate's own).
use Rattle.std.specs.Prelude.{◌≡◌, ◌<◌, ℕ, suc, IsFalse, List, length, Some, slice_get}
use Rattle.validation_rules.specs.Context.{BlockType, Context}
use Rattle.validation_rules.specs.Rows.{Head, Form, Opens, Operator, is_instruction}
use Rattle.validation_rules.specs.Static.{start, IsAccepted}
use Rattle.type_safety.specs.Machine.{IsDelimiter}

-- at place c stands a delimiter of a block of the list, found from the block's opener on
pub record DelimitsBlock (code : List Operator) (c : ℕ) (form : Form) : Type 0 where
  pub place : ℕ
  pub opener : Operator
  pub is_opener : slice_get code place ≡ Some opener
  pub head : Head
  pub opens : opener.form ≡ Opens head
  pub is_found : IsDelimiter code place c form

-- Where all rows hold up to the outermost `end`, each `else`, `catch`, `catch_all`, `end` and `delegate` is
-- one, but for that `end`, which is the last operator.
abbrev pub DelimitersAreFound : Context → Type 0
DelimitersAreFound cx =
    (code : List Operator) (ty : BlockType) (c : ℕ) (op : Operator) →
    IsAccepted cx code (start ty) → slice_get code c ≡ Some op → IsFalse (is_instruction op.form) →
    suc c < length code → DelimitsBlock code c op.form
