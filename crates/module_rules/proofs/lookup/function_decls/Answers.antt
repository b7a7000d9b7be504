use Rattle.std.proofs.Common.{◌≡◌, ◌∙◌, ◌+◌, ap, arith}
use Rattle.module_rules.specs.Declarations.{declarations_of}
use Rattle.module_rules.specs.References.{is_referenced}
use Rattle.module_rules.proofs.Marked.{decls-marked}
use Rattle.module_rules.proofs.lookup.function_decls.Goals as goal

pub returns : goal.returns
returns c =
    let d = declarations_of c.args.declared.now in
    let e = c.in_ok-decls.ensures in
    (rw (c.deref.ensures.value, c.deref-2.ensures.value) at e)
    ∙ decls-marked (is_referenced d) d.functions c.in_ok-marks.marks.items 0 c.in_ok-marks.ensures.count
    (λ k b. let at : k ≡ 0 + k = omega arith in c.in_ok-marks.ensures.marks k b ∙ ap (is_referenced d) at)
