-- Each section behind the other; of these tables and globals have constant expressions.
use Rattle.std.proofs.Common.{length}
use Rattle.std.proofs.lemmas.Result.{err_from_is_err_and}
use Rattle.binary_modules.specs.Items.{placed}
use Rattle.binary_modules.proofs.Added.{adds_both}
use Rattle.binary_modules.proofs.own.read_own_items.Goals as goal

pub returns-clause-read : goal.returns-clause-read
returns-clause-read c =
    let functions = c.in_ok-read_plain_section.ensures.read in
    let tables = c.in_ok-read_section_of.ensures.read in
    let memories = c.in_ok-read_plain_section-2.ensures.read in
    let tags = c.in_ok-read_plain_section-3.ensures.read in
    let globals = c.in_ok-read_section_of-2.ensures.read in
    record {
      functions = functions.0;
      are_functions = functions.1;
      tables = tables.0;
      are_tables = tables.1;
      memories = memories.0;
      are_memories = memories.1;
      tags = tags.0;
      are_tags = tags.1;
      globals = globals.0;
      are_globals = globals.1;
      have_initializers =
          adds_both c.args.initializers.now c.read_section_of.new.initializers c.read_section_of-2.new.initializers
          (placed (length c.args.items.now.tables.items) tables.0)
          (placed (length c.args.items.now.globals.items) globals.0) tables.2 globals.2;
    }

pub returns-in_err-read_plain_section-clause-refused : goal.returns-in_err-read_plain_section-clause-refused
returns-in_err-read_plain_section-clause-refused c =
    let p = err_from_is_err_and c.from_residual.result c.from_residual.ensures.1 in
    rw (p.1, p.2) (λ short contents h. c.in_err-read_plain_section.ensures.refused short contents.functions h.functions)

pub returns-in_err-read_section_of-clause-refused : goal.returns-in_err-read_section_of-clause-refused
returns-in_err-read_section_of-clause-refused c =
    let p = err_from_is_err_and c.from_residual-in_err-read_section_of.result c.from_residual-in_err-read_section_of.ensures.1 in
    rw (p.1, p.2) (λ short contents h. c.in_err-read_section_of.ensures.refused short contents.tables h.tables)

pub returns-in_err-read_plain_section-2-clause-refused : goal.returns-in_err-read_plain_section-2-clause-refused
returns-in_err-read_plain_section-2-clause-refused c =
    let p = err_from_is_err_and c.from_residual-in_err-read_plain_section-2.result c.from_residual-in_err-read_plain_section-2.ensures.1 in
    rw (p.1, p.2) (λ short contents h. c.in_err-read_plain_section-2.ensures.refused short contents.memories h.memories)

pub returns-in_err-read_plain_section-3-clause-refused : goal.returns-in_err-read_plain_section-3-clause-refused
returns-in_err-read_plain_section-3-clause-refused c =
    let p = err_from_is_err_and c.from_residual-in_err-read_plain_section-3.result c.from_residual-in_err-read_plain_section-3.ensures.1 in
    rw (p.1, p.2) (λ short contents h. c.in_err-read_plain_section-3.ensures.refused short contents.tags h.tags)

pub returns-in_err-read_section_of-2-clause-refused : goal.returns-in_err-read_section_of-2-clause-refused
returns-in_err-read_section_of-2-clause-refused c =
    let p = err_from_is_err_and c.from_residual-in_err-read_section_of-2.result c.from_residual-in_err-read_section_of-2.ensures.1 in
    rw (p.1, p.2) (λ short contents h. c.in_err-read_section_of-2.ensures.refused short contents.globals h.globals)
