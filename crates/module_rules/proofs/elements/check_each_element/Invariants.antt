-- The segments behind those that were looked at decide.
use Rattle.std.proofs.Common.{◌≡◌, drop}
use Rattle.std.specs.List.{list_all}
use Rattle.module_rules.specs.Segments.{is_valid_element}
use Rattle.module_rules.specs.Within.{is_element_within}
use Rattle.module_rules.proofs.elements.check_each_element.Given as goal

abbrev pub invariant-loop-element : goal.invariant-loop-element
invariant-loop-element l =
    let passes = is_valid_element l.features l.types l.functions l.tables in
    record {
      valid : list_all passes (drop l.element-index l.elements) ≡ list_all passes l.elements;
      within : list_all is_element_within (drop l.element-index l.elements) ≡ list_all is_element_within l.elements;
    }
