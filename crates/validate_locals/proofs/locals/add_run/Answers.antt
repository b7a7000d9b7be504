use Rattle.std.proofs.Common.{◌∙◌, ap, [], ◌∷◌, ◌++◌, refl, Vec, Global}
use Rattle.validate_locals.proofs.Runs.{Run, longer_pushed, longer_again}
use Rattle.validate_locals.proofs.locals.add_run.Goals.{then-has_last_type, else-has_last_type}
use Rattle.validate_locals.proofs.locals.add_run.Goals as goal

pub returns-clause-added : goal.returns-clause-added
returns-clause-added c = λ begin count rising within_limit e.
    let runs = c.args.runs.now.items in
    let run : Run = (c.args.last, c.args.ty.now) in
    let added = c.push_reserved.ensures.items in
    elim c.if-has_last_type.branch [
      | then-has_last_type w ↦
          let items = added ∙ ap (λ (v : Vec Run Global). v.items ++ run ∷ []) w.runs-is in
          rw items (longer_again begin count c.args.last runs w.pop.new.self.items w.pop.result c.args.ty.now w.pop.ensures.items ((rw c.deref.ensures.value at w.if-has_last_type.ensures).0 refl) rising within_limit e)
      | else-has_last_type w ↦
          let items = added ∙ ap (λ (v : Vec Run Global). v.items ++ run ∷ []) w.runs-is in
          rw items (longer_pushed begin count c.args.last runs c.args.ty.now rising within_limit e)
    ]
