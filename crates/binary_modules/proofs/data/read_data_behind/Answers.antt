-- The segment, and where it goes. Without its bytes there is none.
use Rattle.std.proofs.Common.{ap, subst, sym, ◌∙◌, List, ℕ, Some, append-nil}
use Rattle.std.proofs.lemmas.Result.{err_from_is_err_and}
use Rattle.std.specs.Option.{option_and_then}
use Rattle.module_rules.specs.declared.module.Place.{Place}
use Rattle.module_rules.specs.declared.segments.Data.{Data}
use Rattle.module_rules.specs.declared.segments.DataKind.{DataKind}
use Rattle.binary_modules.specs.Initializers.{Expression}
use Rattle.binary_modules.specs.Items.{Item, placed_at}
use Rattle.binary_modules.specs.Kept.{Adds}
use Rattle.binary_modules.specs.Parts.{sized}
use Rattle.binary_modules.specs.Segments.{Target, data_behind}
use Rattle.binary_modules.proofs.Unreadable.{no_bytes}
use Rattle.binary_modules.proofs.data.read_data_behind.Goals as goal

pub returns-clause-read : goal.returns-clause-read
unfolding data_behind
returns-clause-read c =
    let t = c.in_ok-kind.ensures.read in
    let Q : List (Place × Expression) → Type 0 = λ x. Adds c.args.initializers.now x c.read_data_target.new.initializers in
    let segment = λ (target : Target DataKind) (written : List ℕ × List ℕ). (
    let read : Item Data × List ℕ = (
      record { declared = record { kind = target.kind; offset = 0 }; initializers = target.initializers },
      written.1,
    ) in read) in (
      record { declared = record { kind = t.0.kind; offset = 0 }; initializers = t.0.initializers },
      ap (λ o. option_and_then {U = Item Data × List ℕ} (λ (target : Target DataKind × List ℕ). option_and_then {U = Item Data × List ℕ} (λ (written : List ℕ × List ℕ). Some (segment target.0 written)) (sized target.1)) o) t.1
          ∙ ap (λ o. option_and_then {U = Item Data × List ℕ} (λ (written : List ℕ × List ℕ). Some (segment t.0 written)) o) c.in_ok-_bytes.ensures.read,
      ap (λ k. record { kind = k; offset = 0 }) t.2,
      subst Q (sym (append-nil (placed_at c.args.head.index t.0.initializers))) t.3,
    )

pub returns-in_err-_bytes-clause-refused : goal.returns-in_err-_bytes-clause-refused
returns-in_err-_bytes-clause-refused c =
    let p = err_from_is_err_and c.from_residual-in_err-_bytes.result c.from_residual-in_err-_bytes.ensures.1 in
    let t = c.in_ok-kind.ensures.read in
    rw (p.1, p.2) (λ short. no_bytes c.args.head.flags c.args.canonical c.args.reader.now.left c.read_data_target.new.reader.left t.0 t.1 c.in_err-_bytes.ensures.refused)
