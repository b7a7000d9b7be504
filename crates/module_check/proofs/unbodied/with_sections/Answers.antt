-- The sections stand behind the bytes, one behind the other.
use Rattle.std.proofs.Common.{◌++◌, ◌∙◌, ap, List, ℕ, rules}
use Rattle.module_check.proofs.Sections.{segments_fit, sections_stand}
use Rattle.module_check.proofs.unbodied.with_sections.Goals as goal

pub list_section-requires-2-clause-size : goal.list_section-requires-2-clause-size
list_section-requires-2-clause-size c =
    segments_fit c.args.data_segments c.deref-2.result.now (c.deref-2.ensures.value ∙ c.in_ok-segments.ensures) c.requires.data_segments

pub returns : goal.returns
returns c =
    sections_stand c.args.bytes.now c.deref.result.now c.deref-3.result.now c.deref-2.result.now c.deref-4.result.now c.extend_from_slice.new.self.items c.extend_from_slice-2.new.self.items c.args.functions c.args.data_segments
    (c.deref.ensures.value ∙ c.in_ok-bodies.ensures.items_if_clones_equal (search rules)) (c.deref-3.ensures.value ∙ c.in_ok-code.ensures)
    (c.deref-2.ensures.value ∙ c.in_ok-segments.ensures) (c.deref-4.ensures.value ∙ c.in_ok-data.ensures)
    (c.in_ok-extend_from_slice.ensures.items ∙ ap (λ (l : List ℕ). l ++ c.deref-3.result.now) c.in_ok-whole.ensures.items) c.in_ok-extend_from_slice-2.ensures.items
