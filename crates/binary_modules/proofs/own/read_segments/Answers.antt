-- Element segments, and data segments behind them; there are none before either.
use Rattle.std.proofs.Common.{ap, subst, ◌∙◌, ◌++◌, map, ℕ, length}
use Rattle.std.proofs.lemmas.Result.{err_from_is_err_and}
use Rattle.module_rules.specs.declared.segments.Data.{Data}
use Rattle.module_rules.specs.declared.segments.Element.{Element}
use Rattle.binary_modules.specs.Items.{placed, declared_items}
use Rattle.binary_modules.specs.Kept.{Adds}
use Rattle.binary_modules.proofs.Added.{adds_both}
use Rattle.binary_modules.proofs.own.read_segments.Goals as goal

pub returns-clause-read : goal.returns-clause-read
returns-clause-read c =
    let elements = c.in_ok-read_section_of.ensures.read in
    let segments = c.in_ok-read_section_of-2.ensures.read in
    let no_elements = c.new-elements.ensures.items in
    let no_segments = c.new-data_segments.ensures.items in
    let P : ℕ → Type 0 = λ n. Adds c.args.initializers.now (placed n elements.0) c.read_section_of.new.initializers in
    let Q : ℕ → Type 0 = λ n. Adds c.read_section_of.new.initializers (placed n segments.0) c.read_section_of-2.new.initializers in
    record {
      elements = elements.0;
      are_elements = record {
        are_read = elements.1.are_read;
        are_behind =
            elements.1.are_behind
            ∙ ap (λ l. map (λ (e : Element). record e { offset = 0 }) l ++ declared_items elements.0) no_elements;
      };
      data_items = segments.0;
      are_data = record {
        are_read = segments.1.are_read;
        are_behind =
            segments.1.are_behind
            ∙ ap (λ l. map (λ (d : Data). record d { offset = 0 }) l ++ declared_items segments.0) no_segments;
      };
      have_initializers =
          adds_both c.args.initializers.now c.read_section_of.new.initializers c.read_section_of-2.new.initializers
          (placed 0 elements.0) (placed 0 segments.0) (subst P (ap length no_elements) elements.2)
          (subst Q (ap length no_segments) segments.2);
    }

pub returns-in_err-read_section_of-clause-refused : goal.returns-in_err-read_section_of-clause-refused
returns-in_err-read_section_of-clause-refused c =
    let p = err_from_is_err_and c.from_residual.result c.from_residual.ensures.1 in
    rw (p.1, p.2) (λ short contents h. c.in_err-read_section_of.ensures.refused short contents.elements h.elements)

pub returns-in_err-read_section_of-2-clause-refused : goal.returns-in_err-read_section_of-2-clause-refused
returns-in_err-read_section_of-2-clause-refused c =
    let p = err_from_is_err_and c.from_residual-in_err-read_section_of-2.result c.from_residual-in_err-read_section_of-2.ensures.1 in
    rw (p.1, p.2) (λ short contents h. c.in_err-read_section_of-2.ensures.refused short contents.data_segments h.data_segments)
