-- Block types, and operators that open a frame (WebAssembly core specification, "Block Types" and
-- "Control Instructions").
use Rattle.std.specs.Prelude.{Bool, true, false, ◌&&◌, List, [], ◌++◌, Option, Some, None, is_some}
use Rattle.std.specs.Option.{option_map}
use Rattle.validate_resources.specs.Context.{signature_of}
use Rattle.validate_types.specs.Features.{has, multi_value}
use Rattle.validation_rules.specs.Calls.{may_access}
use Rattle.validation_rules.specs.Context.{SubType, ValType, BlockType, Empty, Val, FuncType, Context}
use Rattle.validation_rules.specs.Context.{block_signature}
use Rattle.validation_rules.specs.Rows.{FrameKind, Opens, guard, Operator}
use Rattle.validation_rules.specs.Shapes.{plain_row_if}

-- the type is declared, it is one of functions, and the function may access it
abbrev pub is_accessible_func_type : Context → Option SubType → Bool
is_accessible_func_type cx (Some s) = is_some (signature_of s) && may_access cx s.composite_type.shared
is_accessible_func_type cx None = false

-- A block type as a frame keeps it, if it passes: a value type in its canonical form, a function type
-- where `multi_value` is on.
abbrev pub checked_block : Context → BlockType → Option BlockType
checked_block cx Empty = Some Empty
checked_block cx (Val t) = option_map (λ u. Val u) (cx.of_module.canonical_type cx.features t)
checked_block cx (FuncType i) =
    guard (has cx.features multi_value && is_accessible_func_type cx (cx.of_module.type_at i))
    (Some (FuncType i))

-- an operator that takes the parameters, with these operands above them, and opens a frame over them
abbrev pub opening_operator_if : Bool → Context → FrameKind → List ValType → BlockType → Operator
opening_operator_if premise cx kind above bt =
    record {
      form = Opens (record { kind = kind; block_type = bt });
      row = λ hs. plain_row_if premise ((block_signature cx.of_module bt).params ++ above) [];
    }

-- one without a premise
abbrev pub opening_operator : Context → FrameKind → List ValType → BlockType → Operator
opening_operator cx kind above bt = opening_operator_if true cx kind above bt

-- with the block type that its check answered
abbrev pub opener : Context → FrameKind → List ValType → BlockType → Option BlockType → Operator
opener cx kind above declared (Some bt) = opening_operator cx kind above bt
opener cx kind above declared None = opening_operator_if false cx kind above declared
