-- What examples of runs are written in: labels, demands of one operator, and lists of one element.
use borrow.Author.Tests.{clash}
use Rattle.std.proofs.Common.{◌≡◌, ℕ, zero, suc, Bool, false, true, List, [], ◌∷◌, map, None, Some, sym, ap, ◌∙◌, subst, slice_get}
use Rattle.validation_rules.specs.Context.{ValType, BlockType, Context}
use Rattle.validation_rules.specs.Fits.{Known}
use Rattle.validation_rules.specs.Rows.{FrameKind, Block, Head, is_if, Form, Stays, Opens, BeginsElse, BeginsCatch, Ends, Delegates, Operator}
use Rattle.validation_rules.proofs.Steps.{some_injective}
use Rattle.type_safety.specs.Machine.{Label, Configuration, At, Demand, configuration, row_at, pushed_types_at, IsNotStuck}

abbrev pub label : ℕ → FrameKind → BlockType → List ValType → Label
label began kind ty own = record { began = began; head = record { kind = kind; block_type = ty }; operands = own }

abbrev pub block_label : ℕ → BlockType → List ValType → Label
block_label began ty own = label began Block ty own

-- the label of the body
abbrev pub outermost : BlockType → List ValType → Label
outermost ty own = block_label 0 ty own

-- what holds of the only one of a list
pub only : {A : Type 0} (P : A → Type 0) (x : A) → P x → (j : ℕ) (y : A) → slice_get (x ∷ []) j ≡ Some y → P y
only P x p zero y e = subst P (some_injective x y e) p
only P x p (suc j) y e = absurd cc

-- nothing is in an empty list, and what isn't there is no value
pub none_there : {A : Type 0} (j : ℕ) {x : A} → slice_get [] j ≡ Some x → ⊥
none_there j e = absurd cc

pub is_no_value : {A : Type 0} {x : A} → None ≡ Some x → ⊥
is_no_value e = absurd cc

abbrev pub is_opener : Form → Bool
is_opener (Opens h) = true
is_opener Stays = false
is_opener BeginsElse = false
is_opener (BeginsCatch all types) = false
is_opener Ends = false
is_opener Delegates = false

pub opens_nothing : {f : Form} (h : Head) → f ≡ Opens h → is_opener f ≡ false → ⊥
opens_nothing h e n = clash (sym n ∙ ap is_opener e)

-- an operator that branches to no label, has no clauses and opens nothing demands its operands alone
pub demands_operands : {cx : Context} {code : List Operator} {here : Configuration} → (pushed : List ValType) × (pushed_types_at cx here ≡ Some (map Known pushed)) → (row_at here).targets ≡ [] → (row_at here).clauses ≡ [] → is_opener here.op.form ≡ false → Demand cx code here
demands_operands {here = here} row targets clauses opens = record {
  row = row;
  targets = λ j t e. absurd (none_there j (sym (ap (λ ts. slice_get ts j) targets) ∙ e));
  clauses = λ j c e. absurd (none_there j (sym (ap (λ cs. slice_get cs j) clauses) ∙ e));
  no_else = λ h e. absurd (opens_nothing h e opens);
}

-- an opener of another kind isn't an `if`
pub opens_no_if : (k h : Head) → Opens k ≡ Opens h → is_if k.kind ≡ false → is_if h.kind ≡ true → ⊥
opens_no_if k h e n i =
    let d : k ≡ h = cc in
    let f : is_if k.kind ≡ is_if h.kind = ap (λ (x : Head). is_if x.kind) d in
    let g : false ≡ true = sym n ∙ f ∙ i in
    absurd cc

-- the demand of the operator at place k, where the run isn't stuck
pub the_demand : (cx : Context) (code : List Operator) (k : ℕ) (l : Label) (ls : List Label) (set : List ℕ) (op : Operator) → slice_get code k ≡ Some op → IsNotStuck cx code (At k (l ∷ ls) set) → Demand cx code (configuration k l ls set op)
the_demand cx code k l ls set op is d =
    subst (λ o. Demand cx code (configuration k l ls set o)) (some_injective d.0 op (sym d.1 ∙ is)) d.2
