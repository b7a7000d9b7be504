-- Demands and outcomes from their parts in order, for the runs of the examples.
use Rattle.std.specs.Prelude.{◌≡◌, ℕ, suc, Bool, List, [], ◌∷◌, Option, Some, IsTrue, IsFalse, map, drop, slice_get}
use Rattle.std.proofs.Common.{sym, ap, ◌∙◌}
use Rattle.validation_rules.specs.Context.{ValType, Context, AllBelow}
use Rattle.validation_rules.specs.Fits.{MaybeType, Known}
use Rattle.validation_rules.specs.Rows.{Head, params, results, is_if, is_try, is_try_table, Else, Stays, Opens, BeginsElse, BeginsCatch, Target, Clause, Operator, catch_kind}
use Rattle.validation_rules.specs.Static.{head_with_kind}
use Rattle.type_safety.specs.Machine.{Label, opened_label, label_with, Machine, At, Configuration, labels_at, row_in, row_at, operands_taken, label_under, pushed_types_at, is_closing_form, is_separator, IsDelimiter, IsCloser, HasNoElse, set_after, machine_after_exit, Branches, Outcome}
use Rattle.type_safety.specs.Machine.Outcome.{goes_on, enters, enters_else, skips_if, jumps, closes, ends_part, catches, catches_legacy}

abbrev pub known_in : List MaybeType → List ValType
known_in (Known t ∷ pushed) = t ∷ known_in pushed
known_in _ = []

-- a row that holds, and pushes known types
pub holding : {o : Option (List MaybeType)} (pushed : List MaybeType) → o ≡ Some pushed → map Known (known_in pushed) ≡ pushed → (types : List ValType) × (o ≡ Some (map Known types))
holding pushed e known = (known_in pushed, e ∙ ap Some (sym known))

pub by_going_on : {cx : Context} {code : List Operator} {here : Configuration} {next : Machine} (pushed types : List ValType) → here.op.form ≡ Stays → IsFalse (row_at here).ends_live → pushed_types_at cx here ≡ Some (map Known pushed) → AllBelow cx types pushed → next ≡ At (suc here.place) (label_with types (label_under here) ∷ here.outer) (set_after (row_at here).sets here.set) → Outcome cx code here next
by_going_on pushed types stays live p below is =
    goes_on (record { stays = stays; live = live; pushed = pushed; pushes = p; types = types; below = below; is = is })

pub by_entering : {cx : Context} {code : List Operator} {here : Configuration} {next : Machine} (head : Head) (types : List ValType) → here.op.form ≡ Opens head → AllBelow cx types (params cx head) → next ≡ At (suc here.place) (opened_label here.place head types ∷ label_under here ∷ here.outer) here.set → Outcome cx code here next
by_entering head types opens below is = enters (record { head = head; opens = opens; types = types; below = below; is = is })

pub by_entering_else : {cx : Context} {code : List Operator} {here : Configuration} {next : Machine} (head : Head) (c : ℕ) (types : List ValType) → here.op.form ≡ Opens head → IsTrue (is_if head.kind) → IsDelimiter code here.place c BeginsElse → AllBelow cx types (params cx head) → next ≡ At (suc c) (opened_label c (head_with_kind Else head) types ∷ label_under here ∷ here.outer) here.set → Outcome cx code here next
by_entering_else head c types opens kind d below is =
    enters_else (record { head = head; opens = opens; kind_is_if = kind; place = c; is_its_else = d; types = types; below = below; is = is })

pub by_skipping : {cx : Context} {code : List Operator} {here : Configuration} {next : Machine} (head : Head) (c : ℕ) (types : List ValType) → here.op.form ≡ Opens head → IsTrue (is_if head.kind) → HasNoElse code here.place → IsCloser code here.place c → AllBelow cx types (results cx head) → next ≡ At (suc c) (label_with types (label_under here) ∷ here.outer) here.set → Outcome cx code here next
by_skipping head c types opens kind none d below is =
    skips_if (record { head = head; opens = opens; kind_is_if = kind; no_else = none; closer = c; is_its_closer = d; types = types; below = below; is = is })

pub by_jumping : {cx : Context} {code : List Operator} {here : Configuration} {next : Machine} (j : ℕ) (t : Target) → here.op.form ≡ Stays → slice_get (row_at here).targets j ≡ Some t → Branches cx code (drop t.depth (labels_at here)) here.set (t.carried (operands_taken here)) next → Outcome cx code here next
by_jumping j t stays is b = jumps (record { stays = stays; index = j; target = t; is_its_target = is; branches = b })

pub by_closing : {cx : Context} {code : List Operator} {here : Configuration} {next : Machine} (types : List ValType) → IsTrue (is_closing_form here.op.form) → AllBelow cx types (results cx here.label.head) → next ≡ machine_after_exit (suc here.place) types here.outer here.set → Outcome cx code here next
by_closing types c below is = closes (record { closes = c; types = types; below = below; is = is })

pub by_ending_part : {cx : Context} {code : List Operator} {here : Configuration} {next : Machine} (c : ℕ) (types : List ValType) → IsTrue (is_separator here.op.form) → IsCloser code here.label.began c → AllBelow cx types (results cx here.label.head) → next ≡ machine_after_exit (suc c) types here.outer here.set → Outcome cx code here next
by_ending_part c types s d below is = ends_part (record { separates = s; types = types; below = below; exits = (c, d, is) })

pub by_catching : {cx : Context} {code : List Operator} {here : Configuration} {next : Machine} (i : ℕ) (label : Label) (outer : List Label) (opener : Operator) (j : ℕ) (c : Clause) → drop i (labels_at here) ≡ label ∷ outer → IsTrue (is_try_table label.head.kind) → slice_get code label.began ≡ Some opener → slice_get (row_in outer opener).clauses j ≡ Some c → Branches cx code (drop c.depth outer) here.set c.types next → Outcome cx code here next
by_catching i label outer opener j c is_open kind o e b =
    catches (record { depth = i; label = label; outer = outer; is_open = is_open; kind_is_try_table = kind; opener = opener; is_its_opener = o; index = j; clause = c; is_its_clause = e; branches = b })

pub by_catching_legacy : {cx : Context} {code : List Operator} {here : Configuration} {next : Machine} (i : ℕ) (label : Label) (outer : List Label) (c : ℕ) (all : Bool) (caught types : List ValType) → drop i (labels_at here) ≡ label ∷ outer → IsTrue (is_try label.head.kind) → IsDelimiter code label.began c (BeginsCatch all caught) → AllBelow cx types caught → next ≡ At (suc c) (opened_label c (head_with_kind (catch_kind all) label.head) types ∷ outer) here.set → Outcome cx code here next
by_catching_legacy i label outer c all caught types is_open kind d below is =
    catches_legacy (record { depth = i; label = label; outer = outer; is_open = is_open; kind_is_try = kind; place = c; all = all; caught = caught; is_its_catch = d; types = types; below = below; is = is })
