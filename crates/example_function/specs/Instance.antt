-- What a validator knows of an instance: what its module declares, and of each variable the type of what it
-- holds. The laws cost what stands below the line: a variable's type is no reference.
use Rattle.std.specs.Prelude.{◌≡◌, List, Option, Some, None, false, slice_get, option_map, refl}
use Rattle.std.proofs.Common.{subst}
use Rattle.wasmparser_validate.specs.Context.{ModuleContext, IsLawful, Valid}
use Rattle.wasmparser_validate.specs.Items.{Items, items_of, with_items, lawful_with_items, GlobalType, ValType, I32, I64}
use Rattle.example_function.specs.declared.instance.Value.{Value}
use Rattle.example_function.specs.declared.instance.Value.TheVariants.{I32 as Value32, I64 as Value64}
use Rattle.example_function.specs.declared.instance.Variable.{Variable}

abbrev pub value_type : Value → ValType
value_type (Value32 n) = I32
value_type (Value64 n) = I64

abbrev pub variable_type : Variable → GlobalType
variable_type v = record { content_type = value_type v.value; mutable = v.mutable; shared = false }

-- the variables in the place of the globals
abbrev pub instance_items : ModuleContext → List Variable → Items
instance_items md variables =
    record (items_of md) { global_at = λ i. option_map variable_type (slice_get variables i) }

abbrev pub instance_context : ModuleContext → List Variable → ModuleContext
instance_context md variables = with_items md (instance_items md variables)

-- ---- the laws

value_valid : (md : ModuleContext) (v : Value) → Valid md (value_type v)
value_valid md (Value32 n) = refl
value_valid md (Value64 n) = refl

variable_valid : (md : ModuleContext) (o : Option Variable) (g : GlobalType) → option_map variable_type o ≡ Some g → Valid md g.content_type
variable_valid md None g e = cc
variable_valid md (Some v) g e =
    let d : variable_type v ≡ g = cc in
    subst (λ (h : GlobalType). Valid md h.content_type) d (value_valid md v.value)

pub lawful_instance : (md : ModuleContext) (variables : List Variable) → IsLawful md → IsLawful (instance_context md variables)
lawful_instance md variables laws = lawful_with_items md (instance_items md variables) laws (record {
  functions = laws.functions;
  tables = laws.tables;
  globals = λ i g e. variable_valid md (slice_get variables i) g e;
  tags = laws.tags;
  elements = laws.elements;
})
