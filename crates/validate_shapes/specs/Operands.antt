-- What an operator takes and gives, as a value (the crate's own).
use Rattle.std.specs.Prelude.{◌≡◌, false, List, [], ◌∷◌, ◌++◌, replicate, Result, IfOk, IfErr}
use Rattle.std.specs.List.{AllByRecursion}
use Rattle.validate_resources.specs.Context.{ModuleContext, Valid}
use Rattle.validate_types.specs.Types.{unpacked_fields}
use Rattle.validation_rules.specs.Context.{Context, ValType}
use Rattle.validation_rules.specs.Rows.{Row}
use Rattle.validation_rules.specs.Operators.{plain_row}
use Rattle.validate_stacks.specs.State.{BodyState, body_context}
use Rattle.validate_shapes.specs.declared.operands.Few.{Few as FewTypes}
use Rattle.validate_shapes.specs.declared.operands.Few.TheVariants.{Zero, One, Two, Three, Four, Five}
use Rattle.validate_shapes.specs.declared.operands.Operands.{Operands}
use Rattle.validate_shapes.specs.declared.operands.Pushed.{Pushed}
use Rattle.validate_shapes.specs.declared.operands.Pushed.TheVariants.{Nothing, One as OnePushed, Listed as ListPushed}
use Rattle.validate_shapes.specs.declared.operands.Expected.{Expected}
use Rattle.validate_shapes.specs.declared.operands.Expected.TheVariants.{Few, Fields, Run, Listed, WithTop}

abbrev pub few_types : FewTypes → List ValType
few_types Zero = []
few_types (One a) = a ∷ []
few_types (Two a b) = a ∷ b ∷ []
few_types (Three a b c) = a ∷ b ∷ c ∷ []
few_types (Four a b c d) = a ∷ b ∷ c ∷ d ∷ []
few_types (Five a b c d e) = a ∷ b ∷ c ∷ d ∷ e ∷ []

abbrev pub expected_types : Expected → List ValType
expected_types (Few types) = few_types types
expected_types (Fields fields) = unpacked_fields fields.now
expected_types (Run t count) = replicate count t
expected_types (Listed types) = types.now
expected_types (WithTop types above) = types.now ++ above ∷ []

abbrev pub pushed_types : Pushed → List ValType
pushed_types Nothing = []
pushed_types (OnePushed t) = t ∷ []
pushed_types (ListPushed types) = types.now

-- the row that takes and gives them
abbrev pub operands_row : Operands → Row
operands_row t = plain_row (expected_types t.expected) (pushed_types t.pushed)

-- each type in it is valid
abbrev pub AreValidExpected : ModuleContext → Expected → Type 0
AreValidExpected md (Few types) = AllByRecursion (Valid md) (few_types types)
AreValidExpected md (Fields fields) = AllByRecursion (Valid md) (unpacked_fields fields.now)
AreValidExpected md (Run t count) = Valid md t
AreValidExpected md (Listed types) = AllByRecursion (Valid md) types.now
AreValidExpected md (WithTop types above) = AllByRecursion (Valid md) types.now × Valid md above

abbrev pub AreValidOperands : ModuleContext → Operands → Type 0
AreValidOperands md t = AreValidExpected md t.expected × AllByRecursion (Valid md) (pushed_types t.pushed)

-- The answer of a look-up for an operator, in the state v: what its row takes and gives, of valid types; or a
-- refusal, which tells that the row's premise doesn't hold.
pub record Finds
    {E : Type 0} (md : ModuleContext) (tells : E → Type 0) (row : Context → Row) (v : BodyState)
    (answer : Result Operands E) : Type 0 where
  pub found : IfOk answer (λ t. row (body_context md v) ≡ operands_row t)
  pub valid : IfOk answer (AreValidOperands md)
  pub refused : IfErr answer (λ e. tells e → (row (body_context md v)).premise ≡ false)
