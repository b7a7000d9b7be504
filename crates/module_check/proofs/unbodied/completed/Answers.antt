-- As many stand behind the bytes as they count.
use Rattle.std.proofs.Common.{◌≡◌, ◌++◌, List, ℕ, refl, subst}
use Rattle.std.specs.Prelude.{IfOk}
use Rattle.module_check.specs.EmptySections.{completed, sections_behind}
use Rattle.module_check.proofs.Sections.{completes}
use Rattle.module_check.proofs.unbodied.completed.Goals as goal

pub returns : goal.returns
returns c =
    let bytes = c.args.bytes.now in
    let functions = c.function_count.result in
    let segments = c.segment_count.result in
    let same : bytes ++ sections_behind functions segments ≡ completed bytes =
    completes bytes (bytes ++ sections_behind functions segments) functions segments refl c.function_count.ensures.count c.segment_count.ensures.count in
    subst (λ (whole : List ℕ). IfOk c.with_sections.result (λ v. v.items ≡ whole)) same c.with_sections.ensures
