-- The group that was read is the one that is defined.
use Rattle.module_check.proofs.operators.define_group.Goals as goal

pub returns-clause-defined : goal.returns-clause-defined
returns-clause-defined g c = record {
  group = c.in_ok-group.group;
  is_read = c.in_ok-group.ensures.read;
  defines = c.in_ok-define_locals.ensures.defined;
}
