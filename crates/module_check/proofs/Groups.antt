-- The groups of locals that are left to read: before a group they can be defined exactly if those behind it can.
use Rattle.std.proofs.Common.{◌≡◌, ◌↔◌, ℕ, suc, ◌-◌, ◌+◌, ◌<◌, List, ◌∷◌, Option, Some, None, refl, sym, ap, ◌∙◌, subst, arith}
use Rattle.std.specs.Option.{option_and_then}
use Rattle.binary_operators.specs.Functions.{locals}
use Rattle.binary_operators.specs.Integers.{unsigned}
use Rattle.binary_operators.specs.Values.{so_many, list_of}
use Rattle.binary_operators.specs.declared.types.CanonicalTypes.{CanonicalTypes}
use Rattle.validate_types.specs.declared.types.ValType.{ValType}
use Rattle.validate_resources.specs.Context.{ModuleContext}
use Rattle.validation_rules.proofs.Steps.{and_then_given}
use Rattle.validate_stacks.specs.State.{BodyState}
use Rattle.validate_operators.specs.Begin.{DefinesEach}
use Rattle.validate_operators.specs.Start.{DefinesLocals}
use Rattle.module_check.specs.Begin.{DefinesGroup, DefinesRead}
use Rattle.module_check.proofs.Begun.{same_locals, both_same, none_or_some}

-- so many groups are read of the bytes, behind which these are left, and define locals from v on
abbrev pub DefinesMore : ModuleContext → CanonicalTypes → ℕ → List ℕ → List ℕ → BodyState → BodyState → Type 0
DefinesMore md types count bytes rest v w =
    (groups : List (ℕ × ValType)) × (so_many (locals types) count bytes ≡ Some (groups, rest)) × DefinesEach md groups v w

abbrev others_of : CanonicalTypes → ℕ → (ℕ × ValType) × List ℕ → Option (List (ℕ × ValType) × List ℕ)
others_of types count first =
    option_and_then (λ (others : List (ℕ × ValType) × List ℕ). Some (first.0 ∷ others.0, others.1)) (so_many (locals types) count first.1)

module _ (md : ModuleContext) (types : CanonicalTypes) (count : ℕ) (bytes rest : List ℕ) (v w : BodyState) where
  -- the first group, and the others
  pub first_group : DefinesMore md types (suc count) bytes rest v w → (left : List ℕ) × (u : BodyState) × DefinesGroup md types bytes left v u × DefinesMore md types count left rest u w
  first_group more =
      let m = and_then_given (locals types bytes) (others_of types count) (more.0, rest) more.1 in
      let n = and_then_given (so_many (locals types) count m.0.1) (λ (others : List (ℕ × ValType) × List ℕ). Some (m.0.0 ∷ others.0, others.1)) (more.0, rest) m.2 in
      let same = both_same (Some (m.0.0 ∷ n.0.0, n.0.1)) (m.0.0 ∷ n.0.0) more.0 n.0.1 rest refl n.2 in
      let each : DefinesEach md (m.0.0 ∷ n.0.0) v w = subst (λ g. DefinesEach md g v w) (sym same.0) more.2 in (
        m.0.1,
        each.0,
        record { group = m.0.0; is_read = m.1; defines = each.1 },
        (n.0.0, n.1 ∙ ap (λ r. Some (n.0.0, r)) same.1, each.2),
      )

  -- a group that is defined, in front of the others
  group_in_front : (left : List ℕ) (u : BodyState) → DefinesGroup md types bytes left v u → DefinesMore md types count left rest u w → DefinesMore md types (suc count) bytes rest v w
  group_in_front left u g more = (
    g.group ∷ more.0,
    ap (option_and_then (others_of types count)) g.is_read ∙ ap (option_and_then (λ (others : List (ℕ × ValType) × List ℕ). Some (g.group ∷ others.0, others.1))) more.1,
    (u, g.defines, more.2),
  )

  behind_group : (left : List ℕ) (u : BodyState) → DefinesGroup md types bytes left v u → DefinesMore md types (suc count) bytes rest v w → DefinesMore md types count left rest u w
  behind_group left u g more =
      let f = first_group more in
      let same = both_same _ f.2.group g.group f.0 left f.2.is_read g.is_read in
      let defined : DefinesLocals md g.group.0 g.group.1 v f.1 = subst (λ (l : ℕ × ValType). DefinesLocals md l.0 l.1 v f.1) same.0 f.2.defines in
      let same_state : f.1 ≡ u = same_locals md g.group.0 g.group.1 v f.1 u defined g.defines in
      subst (λ x. DefinesMore md types count left rest x w) same_state (subst (λ l. DefinesMore md types count l rest f.1 w) same.1 f.3)

  pub next_group : (left : List ℕ) (u : BodyState) → DefinesGroup md types bytes left v u → DefinesMore md types (suc count) bytes rest v w ↔ DefinesMore md types count left rest u w
  next_group left u g = (behind_group left u g, group_in_front left u g)

-- one more of the groups is read and defined, of so many
pub one_group_on : (md : ModuleContext) (types : CanonicalTypes) (groups i : ℕ) (bytes left behind : List ℕ) (v u x : BodyState) → i < groups → DefinesGroup md types left behind u x
    → ((rest : List ℕ) (w : BodyState) → DefinesMore md types groups bytes rest v w ↔ DefinesMore md types (groups - i) left rest u w)
    → (rest : List ℕ) (w : BodyState) → DefinesMore md types groups bytes rest v w ↔ DefinesMore md types (groups - (i + 1)) behind rest x w
one_group_on md types groups i bytes left behind v u x h g so_far rest w =
    let k : groups - i ≡ suc (groups - (i + 1)) = omega arith in
    let here = subst (λ n. DefinesMore md types groups bytes rest v w ↔ DefinesMore md types n left rest u w) k (so_far rest w) in
    let next = next_group md types (groups - (i + 1)) left rest u w behind x g in
    ((λ a. next.0 (here.0 a)), (λ a. here.1 (next.1 a)))

module _ (md : ModuleContext) (types : CanonicalTypes) (bytes behind rest : List ℕ) (groups : ℕ) (v w : BodyState) (counted : unsigned 32 bytes ≡ Some (groups, behind)) where
  list_is : list_of (locals types) bytes ≡ so_many (locals types) groups behind
  unfolding list_of
  list_is = ap (λ o. option_and_then (λ (n : ℕ × List ℕ). so_many (locals types) n.0 n.1) o) counted

  pub read_whole : DefinesMore md types groups behind rest v w → DefinesRead md types bytes rest v w
  read_whole more = record { groups = more.0; are_read = list_is ∙ more.1; define = more.2 }

  pub in_parts : DefinesRead md types bytes rest v w → DefinesMore md types groups behind rest v w
  in_parts d = (d.groups, sym list_is ∙ d.are_read, d.define)

-- a group that isn't there, or can't be defined
pub stops : (md : ModuleContext) (types : CanonicalTypes) (groups i : ℕ) (bytes left rest : List ℕ) (v u w : BodyState) → i < groups
    → ((left' : List ℕ) (x : BodyState) → ¬ DefinesGroup md types left left' u x)
    → (DefinesMore md types groups bytes rest v w ↔ DefinesMore md types (groups - i) left rest u w)
    → ¬ DefinesMore md types groups bytes rest v w
stops md types groups i bytes left rest v u w h none so_far = λ a.
    let k : groups - i ≡ suc (groups - (i + 1)) = omega arith in
    let f = first_group md types (groups - (i + 1)) left rest u w (subst (λ n. DefinesMore md types n left rest u w) k (so_far.0 a)) in
    none f.0 f.1 f.2

pub uncounted : (md : ModuleContext) (types : CanonicalTypes) (bytes rest : List ℕ) (v w : BodyState) → unsigned 32 bytes ≡ None → ¬ DefinesRead md types bytes rest v w
unfolding list_of
uncounted md types bytes rest v w none = λ d.
    none_or_some (d.groups, rest) (sym (ap (λ o. option_and_then (λ (n : ℕ × List ℕ). so_many (locals types) n.0 n.1) o) none) ∙ d.are_read)
