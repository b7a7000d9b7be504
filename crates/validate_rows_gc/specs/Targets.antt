-- A row without the labels that it may reach (the crate's own): they say nothing of its step.
use Rattle.std.specs.Prelude.{[]}
use Rattle.validation_rules.specs.Rows.{Row}

abbrev pub without_targets : Row → Row
without_targets r = record r { targets = [] }
