-- Plain rows keep what the law asks of operators, all at once.
use Rattle.std.proofs.Common.{◌≡◌, ℕ, Bool, true, false, List, [], ◌∷◌, ◌++◌, length, map, take, Option, Some, None, refl, sym, ap, ◌∙◌, slice_get}
use Rattle.validate_resources.specs.Context.{IsLawful}
use Rattle.validate_types.specs.Gates.{is_open}
use Rattle.validate_types.specs.declared.gate.Gate.{Gate}
use Rattle.validation_rules.specs.Context.{ValType, Context, AllBelow}
use Rattle.validation_rules.specs.Fits.{MaybeType, Known, all_fit}
use Rattle.validation_rules.specs.Rows.{Head, Form, Plain, Looks, Target, Row, Operator, guard, all_fit_each, pushed_for, is_instruction}
use Rattle.validation_rules.specs.Operators.{plain_row_if, lookup_row, looking_row_if, staying_operator, row_operator, delimiter_operator, gated_operator}
use Rattle.validation_rules.proofs.Below.{and_true, true_and, below-trans, below_of_fit, fit_of_below}
use Rattle.validation_rules.proofs.Steps.{some_injective, guard_some}
use Rattle.type_safety.proofs.Laws.{IsMonotoneAt, IsLawfulRow, IsLawfulOperator}

module _ (cx : Context) (laws : IsLawful cx.of_module) where
  each_below : (xs ys : List ValType) (lists : List (List ValType)) → AllBelow cx ys xs → all_fit_each cx (map Known xs) lists ≡ true → all_fit_each cx (map Known ys) lists ≡ true
  each_below xs ys [] below h = refl
  each_below xs ys (ws ∷ lists) below h =
      let a = and_true (all_fit cx (map Known xs) ws) _ h in
      true_and _ _ (fit_of_below cx ys ws (below-trans cx laws ys xs ws below (below_of_fit cx xs ws a.0))) (each_below xs ys lists below a.1)

  -- ---- plain operands, all at once
  pub plain_monotone : (expected : List ValType) (also : List (List ValType)) (push : List ValType) (xs ys : List ValType) (pushed : List MaybeType) → AllBelow cx ys xs → pushed_for cx (Plain expected also push) (map Known xs) ≡ Some pushed → IsMonotoneAt cx (Plain expected also push) xs ys pushed
  plain_monotone expected also push xs ys pushed below h =
      let g = guard_some _ _ _ h in
      record {
        upper = push;
        lower = push;
        known = some_injective _ _ (sym g.1);
        passes = ap (λ b. guard b (Some (map Known push))) (each_below xs ys (expected ∷ also) below g.0);
        below = λ us b. b;
      }

  -- what plain operands passed: they are below the expected types
  pub plain_below : (expected : List ValType) (also : List (List ValType)) (push ys : List ValType) (pushed : List MaybeType) → pushed_for cx (Plain expected also push) (map Known ys) ≡ Some pushed → AllBelow cx ys expected
  plain_below expected also push ys pushed h =
      below_of_fit cx ys expected (and_true (all_fit cx (map Known ys) expected) _ (guard_some _ _ _ h).0).0

  pub below_front : (ps more ys : List ValType) → AllBelow cx ys (ps ++ more) → AllBelow cx (take (length ps) ys) ps
  below_front [] more ys h = tt
  below_front (p ∷ ps) more (y ∷ ys) h = (h.0, below_front ps more ys h.1)
  below_front (p ∷ ps) more [] h = elim h [ ]

  -- ---- rows that reach no label
  pub no_target : (hs : List Head) (row : Row) → row.targets ≡ [] → ((xs ys : List ValType) (pushed : List MaybeType) → AllBelow cx ys xs → pushed_for cx row.type (map Known xs) ≡ Some pushed → IsMonotoneAt cx row.type xs ys pushed) → IsLawfulRow cx hs row
  no_target hs row none monotone =
      record {
        monotone = monotone;
        reaches = λ ys pushed p g j t e.
            let d : slice_get {X = Target} [] j ≡ Some t = ap (λ ts. slice_get ts j) (sym none) ∙ e in
            absurd cc;
      }

  -- a row for what a look-up finds, where it finds something and where it doesn't
  pub found_lawful : {A : Type 0} (hs : List Head) (o : Option A) (row : A → Row) → ((x : A) → IsLawfulRow cx hs (row x)) → IsLawfulRow cx hs (lookup_row o row)
  found_lawful hs None row h = no_target hs _ refl (plain_monotone [] [] [])
  found_lawful hs (Some x) row h = h x

  -- an operator that neither opens nor closes a frame
  pub flat_lawful : (row : List Head → Row) → ((hs : List Head) → IsLawfulRow cx hs (row hs)) → IsLawfulOperator cx (staying_operator row)
  flat_lawful row h =
      record {
        row = h;
        closing = λ hs i. absurd cc;
        opening = λ hs k e. absurd cc;
        takes_params = λ hs k ys pushed e. absurd cc;
      }

  -- every operator with a plain row, whatever its types, gate and locals
  pub plain_lawful : (premise : Bool) (reads sets : Option ℕ) (expected push : List ValType) (dead : Bool) → IsLawfulOperator cx (row_operator (record { premise = premise; reads = reads; type = Plain expected [] push; sets = sets; targets = []; clauses = []; ends_live = dead }))
  plain_lawful premise reads sets expected push dead = flat_lawful _ (λ hs. no_target hs _ refl (plain_monotone expected [] push))

  pub looking_lawful : (premise : Bool) (n : ℕ) (f : List MaybeType → Option (List MaybeType)) → ((xs ys : List ValType) (pushed : List MaybeType) → AllBelow cx ys xs → f (map Known xs) ≡ Some pushed → IsMonotoneAt cx (Looks n f) xs ys pushed) → IsLawfulOperator cx (row_operator (looking_row_if premise n f))
  looking_lawful premise n f h = flat_lawful _ (λ hs. no_target hs _ refl h)

  -- a delimiter, whose row holds at the frames of the premise
  pub delimiting_lawful : (form : Form) (premise : List Head → Bool) → is_instruction form ≡ false → IsLawfulOperator cx (record { form = form; row = λ hs. plain_row_if (premise hs) [] [] })
  delimiting_lawful form premise i =
      record {
        row = λ hs. no_target hs _ refl (plain_monotone [] [] []);
        closing = λ hs k. (refl, refl);
        opening = λ hs h e. refl;
        takes_params = λ hs h ys pushed e. let d : true ≡ false = ap is_instruction (sym e) ∙ i in absurd cc;
      }

  pub closing_lawful : (form : Form) → is_instruction form ≡ false → IsLawfulOperator cx (delimiter_operator form)
  closing_lawful form i = delimiting_lawful form (λ hs. true) i

  -- a gate takes nothing away from that
  pub behind_lawful : (gate : Gate) (op : Operator) → IsLawfulOperator cx op → IsLawfulOperator cx (gated_operator cx gate op)
  behind_lawful gate op h =
      record {
        row = λ hs. record { monotone = (h.row hs).monotone; reaches = λ ys pushed p g j t e. (h.row hs).reaches ys pushed (and_true (is_open cx.features gate) _ p).1 g j t e };
        closing = λ hs i. h.closing hs i;
        opening = λ hs k e. h.opening hs k e;
        takes_params = λ hs k ys pushed e i g. h.takes_params hs k ys pushed e i g;
      }
