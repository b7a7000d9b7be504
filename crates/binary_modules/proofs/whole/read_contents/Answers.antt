-- The parts of a module make it.
use Rattle.std.proofs.Common.{zero-add, ap, sym, refl, ◌∙◌, ◌≡◌, ◌++◌, length, append_assoc}
use Rattle.std.specs.Prelude.{flat_map, map, option_map, min, ◌^◌, ◌-◌}
use Rattle.std.proofs.lemmas.List.{length-map}
use Rattle.std.proofs.lemmas.Result.{err_from_is_err_and}
use Rattle.binary_operators.specs.declared.types.GroupNames.TheVariants.{Indices}
use Rattle.binary_modules.specs.ContentsRead.{bytes_of}
use Rattle.binary_modules.specs.Groups.{types_of, canonical_of}
use Rattle.binary_modules.specs.Items.{placed, declared_items}
use Rattle.binary_modules.specs.Modules.{Contents, expressions_of, group_of, table_in, global_in}
use Rattle.binary_modules.specs.SectionList.{told_sections}
use Rattle.binary_modules.specs.declared.contents.SectionNumber.{SectionNumber}
use Rattle.binary_modules.proofs.Added.{adds_both}
use Rattle.binary_modules.proofs.Decoded.{by_parts, module_is, no_module}
use Rattle.binary_modules.proofs.NoModule.{functions_counted}
use Rattle.binary_modules.proofs.WholeParts.{list_length, bodies_each, counted_by, are_imported, all_expressions, all_functions}
use Rattle.binary_modules.proofs.whole.read_contents.Goals as goal

pub returns-clause-read : goal.returns-clause-read
returns-clause-read c =
    let items = c.in_ok-found.ensures.read in
    let before = items.0 in
    let imp = items.1 in
    let counts = items.2 in
    let own = items.3 in
    let after = c.in_ok-found.found.items in
    let uses = c.in_ok-uses.uses in
    let exp = c.in_ok-uses.ensures.exports in
    let seg = c.in_ok-uses.ensures.segments in
    let v0 = c.new-initializers.result in
    let v1 = c.read_items.new.initializers in
    let v2 = c.read_uses.new.initializers in
    let tables = own.tables in
    let globals = own.globals in
    let segments = placed 0 seg.elements ++ placed 0 seg.data_items in
    let contents : Contents = record {
      imports = imp.imports;
      functions = own.functions;
      tables = tables;
      memories = own.memories;
      tags = own.tags;
      globals = globals;
      exports = exp.0;
      start = option_map (λ (n : SectionNumber). n.number) uses.start;
      elements = seg.elements;
      data_count = option_map (λ (n : SectionNumber). n.number) uses.data_count;
      bodies = bytes_of uses.bodies.items;
      data_segments = seg.data_items;
    } in
    let first_table : length before.tables.items ≡ length (flat_map table_in imp.imports) =
    sym (length-map before.tables.items _) ∙ ap length imp.are_imports.tables in
    let first_global : length before.globals.items ≡ length (flat_map global_in imp.imports) =
    sym (length-map before.globals.items _) ∙ ap length imp.are_imports.globals in
    let of_tables = placed (length before.tables.items) tables in
    let of_globals = placed (length before.globals.items) globals in
    let added = adds_both v0 v1 v2 (of_tables ++ of_globals) segments own.have_initializers seg.have_initializers in
    let same : (of_tables ++ of_globals) ++ segments ≡ expressions_of contents =
    append_assoc of_tables of_globals segments
    ∙ ap (λ n. placed n tables ++ (of_globals ++ segments)) first_table
    ∙ ap (λ n. placed (length (flat_map table_in imp.imports)) tables ++ (placed n globals ++ segments)) first_global in
    let a_body_each : length uses.bodies.items ≡ length own.functions =
    bodies_each c.in_ok-found.found.imports.functions (length uses.bodies.items) (length after.functions.items) before.functions.items after.functions.items (length own.functions)
    c.in_ok-uses.ensures.counted counts.functions refl
    (list_length _ _ 3 (told_sections c.args.sections.now) before.functions.items after.functions.items own.functions own.are_functions) in
    module_is (told_sections c.args.sections.now) _ _ _ (record {
      are_types = c.in_ok-types.ensures.read;
      types = c.new-canonical.result;
      are_all_types = record {
        are_named = ap (λ t. t.canonical.now) c.new-canonical.ensures ∙ c.deref.ensures.value;
        are_behind =
            ap (λ t. t.group) c.new-canonical.ensures
            ∙ ap (λ l. Indices (min (length l) (2 ^ 32 - 1))) c.deref.ensures.value;
      };
      contents = contents;
      are_contents = record {
        imports = imp.are_read;
        functions = own.are_functions.are_read;
        tables = own.are_tables.are_read;
        memories = own.are_memories.are_read;
        tags = own.are_tags.are_read;
        globals = own.are_globals.are_read;
        exports = exp.1.are_read;
        start = c.in_ok-uses.ensures.start;
        elements = seg.are_elements.are_read;
        data_count = c.in_ok-uses.ensures.data_count;
        bodies = c.in_ok-uses.ensures.bodies;
        data_segments = seg.are_data.are_read;
        a_body_each = length-map uses.bodies.items _ ∙ a_body_each;
        are_counted =
            counted_by _ (length uses.segments.data_segments.items) (length seg.data_items) c.in_ok-uses.ensures.data_counted
            (list_length _ _ 11 (told_sections c.args.sections.now) _ _ seg.data_items seg.are_data ∙ zero-add (length seg.data_items));
      };
      are_declared = record {
        imports = are_imported imp.imports before c.in_ok-found.found.imports imp.are_imports counts;
        functions = own.are_functions.are_behind ∙ ap (λ l. l ++ declared_items own.functions) imp.are_imports.functions;
        tables = own.are_tables.are_behind ∙ ap (λ l. l ++ declared_items tables) imp.are_imports.tables;
        memories = own.are_memories.are_behind ∙ ap (λ l. l ++ declared_items own.memories) imp.are_imports.memories;
        globals = own.are_globals.are_behind ∙ ap (λ l. l ++ declared_items globals) imp.are_imports.globals;
        tags = own.are_tags.are_behind ∙ ap (λ l. l ++ declared_items own.tags) imp.are_imports.tags;
        exports = exp.1.are_behind;
        start = c.start_of.ensures;
        elements = seg.are_elements.are_behind;
        data_count = c.data_count_of.ensures;
        data_segments = seg.are_data.are_behind;
        expression_functions = all_functions v0 v2 _ (expressions_of contents) c.new-initializers.ensures.functions added same;
      };
      are_bodies = refl;
      are_expressions = all_expressions v0 v2 _ (expressions_of contents) c.new-initializers.ensures.expressions added same;
    })

pub returns-in_err-types-clause-refused : goal.returns-in_err-types-clause-refused
returns-in_err-types-clause-refused c =
    let p = err_from_is_err_and c.from_residual.result c.from_residual.ensures.1 in
    rw (p.1, p.2) (λ short.
    no_module (told_sections c.args.sections.now)
    (λ h. c.in_err-types.ensures.refused short (types_of h.groups) (canonical_of h.groups) (map group_of h.groups) h.are_types))

pub returns-in_err-found-clause-refused : goal.returns-in_err-found-clause-refused
returns-in_err-found-clause-refused c =
    let p = err_from_is_err_and c.from_residual-in_err-found.result c.from_residual-in_err-found.ensures.1 in
    rw (p.1, p.2) (λ short.
    no_module (told_sections c.args.sections.now)
    (λ h. c.in_err-found.ensures.refused short h.contents
    (by_parts (told_sections c.args.sections.now) c.in_ok-types.types.types.items c.in_ok-types.types.canonical.items c.in_ok-types.types.groups.items c.new-canonical.result c.in_ok-types.ensures.read
    (record {
      are_named = ap (λ t. t.canonical.now) c.new-canonical.ensures ∙ c.deref.ensures.value;
      are_behind =
          ap (λ t. t.group) c.new-canonical.ensures
          ∙ ap (λ l. Indices (min (length l) (2 ^ 32 - 1))) c.deref.ensures.value;
    }) h)))

pub returns-in_err-uses-clause-refused : goal.returns-in_err-uses-clause-refused
returns-in_err-uses-clause-refused c =
    let p = err_from_is_err_and c.from_residual-in_err-uses.result c.from_residual-in_err-uses.ensures.1 in
    rw (p.1, p.2) (λ short.
    no_module (told_sections c.args.sections.now)
    (λ h.
    let read = c.in_ok-found.ensures.read in
    let same =
    by_parts (told_sections c.args.sections.now) c.in_ok-types.types.types.items c.in_ok-types.types.canonical.items c.in_ok-types.types.groups.items c.new-canonical.result c.in_ok-types.ensures.read
    (record {
      are_named = ap (λ t. t.canonical.now) c.new-canonical.ensures ∙ c.deref.ensures.value;
      are_behind =
          ap (λ t. t.group) c.new-canonical.ensures
          ∙ ap (λ l. Indices (min (length l) (2 ^ 32 - 1))) c.deref.ensures.value;
    }) h in
    c.in_err-uses.ensures.refused short h.contents
    (functions_counted c.new-canonical.result (told_sections c.args.sections.now) read.0.functions.items c.in_ok-found.found.items.functions.items
    read.3.functions c.in_ok-found.found.imports.functions h.contents read.3.are_functions read.2.functions same) same))
