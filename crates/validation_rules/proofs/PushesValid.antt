-- What the proof that steps keep a state valid asks of an operator. It needs no belief: the law is that of
-- every operator of the table.
use Rattle.std.specs.Prelude.{◌≡◌, Bool, true, List, Some}
use Rattle.std.specs.List.{AllByRecursion}
use Rattle.validate_resources.specs.Context.{Valid}
use Rattle.validation_rules.specs.Context.{ValType, Context}
use Rattle.validation_rules.specs.Fits.{MaybeType}
use Rattle.validation_rules.specs.Rows.{Head, Opens, BeginsCatch, Operator, pushed_for}
use Rattle.validation_rules.specs.Static.{State, step}
use Rattle.validation_rules.specs.Valid.{IsValidOperand, IsValidBlock, IsValidStateIn}

abbrev pub HeadIsValid : Context → Head → Type 0
HeadIsValid cx h = IsValidBlock cx.of_module cx.shared h.block_type

-- What is asked of an operator for that: where its premise holds, in valid frames and over valid
-- operands, what it pushes is valid, a block type that it opens resolves, and a part that it begins
-- starts with valid types.
pub record PushesValid (cx : Context) (op : Operator) : Type 0 where
  pub pushed :
      (hs : List Head) (found pushed : List MaybeType) → (op.row hs).premise ≡ true →
      AllByRecursion (HeadIsValid cx) hs → AllByRecursion (IsValidOperand cx.of_module) found →
      pushed_for cx (op.row hs).type found ≡ Some pushed →
      AllByRecursion (IsValidOperand cx.of_module) pushed
  pub opened : (hs : List Head) (h : Head) → (op.row hs).premise ≡ true → op.form ≡ Opens h → HeadIsValid cx h
  pub begun :
      (hs : List Head) (all : Bool) (types : List ValType) → (op.row hs).premise ≡ true →
      op.form ≡ BeginsCatch all types → AllByRecursion (Valid cx.of_module) types

-- every step by such an operator keeps a valid state
abbrev pub StepsKeepValid : Context → Type 0
StepsKeepValid cx =
    (op : Operator) (s u : State) → PushesValid cx op → IsValidStateIn cx s → step cx op s ≡ Some u →
    IsValidStateIn cx u
