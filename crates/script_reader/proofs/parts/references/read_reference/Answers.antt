use Rattle.std.proofs.Common.{true, false}
use Rattle.script_reader.proofs.ReferenceNames.{long_name}
use Rattle.script_reader.proofs.parts.references.read_reference.Goals as goal

pub returns-in_ok-read_heap_type-in-Some-strip_prefix-clause-named : goal.returns-in_ok-read_heap_type-in-Some-strip_prefix-clause-named
returns-in_ok-read_heap_type-in-Some-strip_prefix-clause-named c = long_name true c.args.word.now c.in-Some-strip_prefix.name.now c.in_ok-read_heap_type-in-Some-strip_prefix.field-0 _ c.in-Some-strip_prefix.ensures.cases c.in_ok-read_heap_type-in-Some-strip_prefix.ensures.named c.new-in-Some-strip_prefix.ensures

pub returns-in_ok-read_heap_type-in-None-clause-named : goal.returns-in_ok-read_heap_type-in-None-clause-named
returns-in_ok-read_heap_type-in-None-clause-named c = long_name false c.args.word.now c.in_ok-strip_prefix-in-None.field-0.now c.in_ok-read_heap_type-in-None.field-0 _ c.in_ok-strip_prefix-in-None.ensures.cases c.in_ok-read_heap_type-in-None.ensures.named c.new-in-None.ensures
