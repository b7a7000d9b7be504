-- What is read of a module is what it is decoded to, and so the other way round.
use Rattle.std.proofs.Common.{ap, subst, sym, refl, ◌∙◌, ◌≡◌, inl, inr, ℕ, zero, suc, ◌-◌, ◌^◌, min, Bool, true, false, nat_eq, if◌then◌else◌, List, [], ◌∷◌, ◌++◌, length, map, Option, Some, None, unwrap_or}
use Rattle.std.specs.Prelude.{IfSome, ◌&&◌}
use Rattle.std.specs.Option.{option_and_then, option_map}
use Rattle.std.specs.Cmp.Lexicographic.{lists_ties}
use Rattle.std.proofs.lemmas.Bool.{and_parts, and_from}
use Rattle.std.proofs.lemmas.Bool.Decides.{Decides-eqb}
use Rattle.std.proofs.lemmas.Option.{option_and_then_some}
use Rattle.binary_operators.specs.Integers.{unsigned}
use Rattle.binary_operators.specs.declared.types.CanonicalTypes.{CanonicalTypes}
use Rattle.binary_operators.specs.declared.types.GroupNames.{GroupNames}
use Rattle.binary_operators.specs.declared.types.GroupNames.TheVariants.{Places, Indices}
use Rattle.validate_types.specs.contracts.types.SubTypeOrd.TheImpl as sub_ord
use Rattle.validate_types.specs.contracts.types.SubTypeOrd.TheImpl.Laws.{matches_eq-law as sub_ties}
use Rattle.validate_types.specs.declared.types.SubType.{SubType}
use Rattle.validate_types.proofs.Equal.{types_exact, types_tied}
use Rattle.module_rules.specs.Declarations.{Declarations}
use Rattle.module_rules.specs.declared.items.RecGroup.{RecGroup}
use Rattle.module_rules.specs.declared.items.Start.{Start}
use Rattle.module_rules.specs.declared.module.Place.{Place}
use Rattle.module_rules.specs.declared.segments.DataCount.{DataCount}
use Rattle.binary_modules.specs.Groups.{Group, rec_group, group, groups, so_many_groups, types_of, canonical_of, naming, are_equal, first_equal, first_of}
use Rattle.binary_modules.specs.GroupsRead.{HasGroup, IsGroup, AreGroups, AreTypes, StandsFor, shape, written_shape}
use Rattle.binary_modules.specs.Items.{import_item, own_function, table, memory, tag, global, exported}
use Rattle.binary_modules.specs.Modules.{Contents, DecodedModule, are_counted, contents, declarations, group_of, module_in, naming_all, unplaced, unplaced_module}
use Rattle.binary_modules.specs.ModulesRead.{AreContents, AreDeclared, AreAllTypes, HasContents}
use Rattle.binary_modules.specs.Parts.{if_no_more, sized, whole}
use Rattle.binary_modules.specs.Sections.{Section, contents_of, items_of, number_in, number_of, section_contents}
use Rattle.binary_modules.specs.SectionsRead.{IsNumber}
use Rattle.binary_modules.specs.Segments.{element, data_segment}
use Rattle.binary_modules.proofs.Lying.{contents_wherever}
use Rattle.binary_modules.proofs.Once.{none_or_some}
use Rattle.binary_modules.proofs.TypesUnique.{group_as, listed_once, stands_once, types_unique}
use borrow.Author.Tests.{clash}

-- ---- readings, one behind another

pub and_then : {A B : Type 0} (f : A → Option B) (o : Option A) (a : A) → o ≡ Some a → option_and_then f o ≡ f a
and_then f o a e = ap (option_and_then f) e

pub none_if : {A : Type 0} (o : Option A) → ((a : A) → o ≡ Some a → ⊥) → o ≡ None
none_if None h = refl
none_if (Some a) h = absurd (h a refl)

pub some_of : {A : Type 0} (a b : A) → Some a ≡ Some b → a ≡ b
some_of a b e = ap (λ o. unwrap_or o a) e

pub if_some : {A : Type 0} (b : Bool) (x y : A) → (if b then Some x else None) ≡ Some y → (b ≡ true) × (x ≡ y)
if_some true x y e = (refl, some_of x y e)
if_some false x y e = absurd (none_or_some None y refl e)

-- ---- all bytes

whole_is : {A : Type 0} (o : Option (A × List ℕ)) (a : A) → o ≡ Some (a, []) → whole o ≡ Some a
whole_is o a e = ap whole e

no_more : {A : Type 0} (x : A) (rest : List ℕ) (a : A) → if_no_more x rest ≡ Some a → ◌≡◌ {A = Option (A × List ℕ)} (Some (x, rest)) (Some (a, []))
no_more x [] a e = ap (option_map (λ y. (y, []))) e
no_more x (b ∷ rest) a e = absurd (none_or_some None a refl e)

whole_read : {A : Type 0} (o : Option (A × List ℕ)) (a : A) → whole o ≡ Some a → o ≡ Some (a, [])
whole_read None a e = absurd (none_or_some None a refl e)
whole_read (Some x) a e = no_more x.0 x.1 a e

number_is : (contents : Option (List ℕ)) (n : Option ℕ) → IsNumber contents n → number_in contents ≡ Some n
number_is None n h = ap (λ o. Some o) (sym h)
number_is (Some contents) n h =
    and_then _ (whole (unsigned 32 contents)) h.0 (whole_is (unsigned 32 contents) h.0 h.1) ∙ ap (λ o. Some o) (sym h.2)

number_read : (contents : Option (List ℕ)) (n : Option ℕ) → number_in contents ≡ Some n → IsNumber contents n
number_read None n e = sym (some_of None n e)
number_read (Some contents) n e =
    option_and_then_some _ (whole (unsigned 32 contents)) n e
    (λ m read is. (m, whole_read (unsigned 32 contents) m read, sym (some_of (Some m) n is)))

-- ---- groups

equal_types : (a b : List SubType) → are_equal a b ≡ true → a ≡ b
equal_types a b e = types_exact a b (sym (lists_ties (sub_ord.ghosts).cmp sub_ties a b) ∙ e)

unlike_types : (a b : List SubType) → are_equal a b ≡ false → a ≡ b → ⊥
unlike_types a b e same =
    clash (sym e ∙ lists_ties (sub_ord.ghosts).cmp sub_ties a b ∙ types_tied a b same)

first_by : (g : Group) (before : List Group) (rolled : List SubType) (own : ℕ) (b : Bool) → are_equal g.rolled rolled ≡ b → StandsFor before rolled own (first_equal before rolled own) → StandsFor (g ∷ before) rolled own (if b then g.first else first_equal before rolled own)
first_by g before rolled own true e h = inl (equal_types g.rolled rolled e, refl)
first_by g before rolled own false e h = inr (unlike_types g.rolled rolled e, h)

first_stands : (before : List Group) (rolled : List SubType) (own : ℕ) → StandsFor before rolled own (first_equal before rolled own)
first_stands [] rolled own = refl
first_stands (g ∷ before) rolled own =
    first_by g before rolled own (are_equal g.rolled rolled) refl (first_stands before rolled own)

group_named : (canonical : List ℕ) (names : GroupNames) (bytes : List ℕ) (explicit : Bool) (read : List SubType) (rest : List ℕ) → HasGroup canonical names bytes explicit read rest → rec_group (naming canonical names) bytes ≡ Some ((explicit, read), rest)
group_named canonical names bytes explicit read rest h =
    group_as (naming canonical names) h.types (sym h.are_before) (sym h.are_own) bytes ∙ h.is_read

has_group_named : (canonical : List ℕ) (names : GroupNames) (bytes : List ℕ) (explicit : Bool) (read : List SubType) (rest : List ℕ) → rec_group (naming canonical names) bytes ≡ Some ((explicit, read), rest) → HasGroup canonical names bytes explicit read rest
has_group_named canonical names bytes explicit read rest e = record {
  types = naming canonical names;
  are_before = refl;
  are_own = refl;
  is_read = e;
}

group_is : (before : List Group) (bytes : List ℕ) (g : Group) (rest : List ℕ) → IsGroup before bytes g rest → group before bytes ≡ Some (g, rest)
unfolding group
group_is before bytes g rest h =
    let canonical = canonical_of before in
    let first : g.first ≡ first_of before g.rolled =
    stands_once before g.rolled (length canonical) g.first (first_of before g.rolled) h.is_canonical (first_stands before g.rolled (length canonical)) in
    let declared = subst (λ n. rec_group (naming canonical (Indices n)) bytes ≡ Some ((g.explicit, g.types), h.end)) first (group_named canonical (Indices g.first) bytes g.explicit g.types h.end h.is_declared) in
    and_then _ (rec_group (naming canonical Places) bytes) ((g.explicit, g.rolled), rest) (group_named canonical Places bytes g.explicit g.rolled rest h.is_rolled)
    ∙ and_then _ (rec_group (naming canonical (Indices (first_of before g.rolled))) bytes) ((g.explicit, g.types), h.end) declared
    ∙ ap (λ n. Some (record { rolled = g.rolled; types = g.types; first = n; explicit = g.explicit }, rest)) (sym first)

group_read : (before : List Group) (bytes : List ℕ) (g : Group) (rest : List ℕ) → group before bytes ≡ Some (g, rest) → IsGroup before bytes g rest
unfolding group
group_read before bytes g rest e =
    let canonical = canonical_of before in
    option_and_then_some _ (rec_group (naming canonical Places) bytes) (g, rest) e
    (λ rolled here more.
    option_and_then_some _ (rec_group (naming canonical (Indices (first_of before rolled.0.1))) bytes) (g, rest) more
    (λ declared there is.
    let listed = listed_once (naming canonical (Indices (first_of before rolled.0.1))) (naming canonical Places) bytes declared.0.0 rolled.0.0 declared.0.1 rolled.0.1 declared.1 rolled.1 there here in
    let made : Group = record { rolled = rolled.0.1; types = declared.0.1; first = first_of before rolled.0.1; explicit = rolled.0.0 } in
    let same = some_of (made, rolled.1) (g, rest) is in
    subst (λ (x : Group × List ℕ). IsGroup before bytes x.0 x.1) same (record {
      is_rolled = has_group_named canonical Places bytes rolled.0.0 rolled.0.1 rolled.1 here;
      end = declared.1;
      is_declared =
          has_group_named canonical (Indices made.first) bytes rolled.0.0 declared.0.1 declared.1
          (there ∙ ap (λ (x : Bool). Some ((x, declared.0.1), declared.1)) listed);
      is_canonical = first_stands before rolled.0.1 (length canonical);
    })))

groups_are : (before : List Group) (bytes : List ℕ) (all : List Group) (rest : List ℕ) → AreGroups before bytes all rest → so_many_groups before (length all) bytes ≡ Some (all, rest)
groups_are before bytes [] rest h = ap (λ l. Some ([], l)) h
groups_are before bytes (g ∷ all) rest h =
    and_then _ (group before bytes) (g, h.0) (group_is before bytes g h.0 h.1)
    ∙ and_then _ (so_many_groups (before ++ g ∷ []) (length all) h.0) (all, rest) (groups_are (before ++ g ∷ []) h.0 all rest h.2)

groups_read : (before : List Group) (n : ℕ) (bytes : List ℕ) (all : List Group) (rest : List ℕ) → so_many_groups before n bytes ≡ Some (all, rest) → (n ≡ length all) × AreGroups before bytes all rest
groups_read before zero bytes all rest e =
    let same = some_of ([], bytes) (all, rest) e in
    (ap (λ (x : List Group × List ℕ). length x.0) same, subst (λ (x : List Group × List ℕ). AreGroups before bytes x.0 x.1) same refl)
groups_read before (suc n) bytes all rest e =
    option_and_then_some _ (group before bytes) (all, rest) e
    (λ first here more.
    option_and_then_some _ (so_many_groups (before ++ first.0 ∷ []) n first.1) (all, rest) more
    (λ others there is.
    let same = some_of (first.0 ∷ others.0, others.1) (all, rest) is in
    let read = groups_read (before ++ first.0 ∷ []) n first.1 others.0 others.1 there in (
      ap (λ m. suc m) read.0 ∙ ap (λ (x : List Group × List ℕ). length x.0) same,
      subst (λ (x : List Group × List ℕ). AreGroups before bytes x.0 x.1) same
          (first.1, group_read before bytes first.0 first.1 here, read.1),
    )))

types_are : (bytes : List ℕ) (t : List SubType) (c : List ℕ) (w : List RecGroup) (rest : List ℕ) → (h : AreTypes bytes t c w rest) → groups bytes ≡ Some (h.groups, rest)
unfolding groups
types_are bytes t c w rest h =
    and_then _ (unsigned 32 bytes) (length h.groups, h.behind) h.has_count ∙ groups_are [] h.behind h.groups rest h.are_groups

written_groups : (all : List Group) → map written_shape (map group_of all) ≡ map shape all
written_groups [] = refl
written_groups (g ∷ all) = ap (λ l. shape g ∷ l) (written_groups all)

pub types_read : (bytes : List ℕ) (all : List Group) (rest : List ℕ) → groups bytes ≡ Some (all, rest) → AreTypes bytes (types_of all) (canonical_of all) (map group_of all) rest
unfolding groups
types_read bytes all rest e =
    option_and_then_some _ (unsigned 32 bytes) (all, rest) e
    (λ count here more.
    let read = groups_read [] count.0 count.1 all rest more in
    record {
      groups = all;
      behind = count.1;
      has_count = here ∙ ap (λ n. Some (n, count.1)) read.0;
      are_groups = read.1;
      are_types = refl;
      are_canonical = refl;
      are_written = written_groups all;
    })

-- ---- contents

counted_is : (count : Option ℕ) (n : ℕ) → IfSome count (λ m. m ≡ n) → are_counted count n ≡ true
counted_is None n h = refl
counted_is (Some m) n h = (Decides-eqb m n).1 h

counted_read : (count : Option ℕ) (n : ℕ) → are_counted count n ≡ true → IfSome count (λ m. m ≡ n)
counted_read None n e = tt
counted_read (Some m) n e = (Decides-eqb m n).0 e

module _ (types : CanonicalTypes) (all : List Section) (c : Contents) where
  contents_are : AreContents types all c → contents types all ≡ Some c
  unfolding contents
  contents_are h =
      and_then _ (items_of (import_item types) 2 all) c.imports (ap whole h.imports)
      ∙ and_then _ (items_of (own_function types) 3 all) c.functions (ap whole h.functions)
      ∙ and_then _ (items_of (table types) 4 all) c.tables (ap whole h.tables)
      ∙ and_then _ (items_of memory 5 all) c.memories (ap whole h.memories)
      ∙ and_then _ (items_of (tag types) 13 all) c.tags (ap whole h.tags)
      ∙ and_then _ (items_of (global types) 6 all) c.globals (ap whole h.globals)
      ∙ and_then _ (items_of exported 7 all) c.exports (ap whole h.exports)
      ∙ and_then _ (number_of 8 all) c.start (number_is (section_contents 8 all) c.start h.start)
      ∙ and_then _ (items_of (element types) 9 all) c.elements (ap whole h.elements)
      ∙ and_then _ (number_of 12 all) c.data_count (number_is (section_contents 12 all) c.data_count h.data_count)
      ∙ and_then _ (items_of sized 10 all) c.bodies (ap whole h.bodies)
      ∙ and_then _ (items_of (data_segment types) 11 all) c.data_segments (ap whole h.data_segments)
      ∙ ap (λ (b : Bool). if b then Some c else None)
      (and_from _ _ ((Decides-eqb (length c.bodies) (length c.functions)).1 h.a_body_each) (counted_is c.data_count (length c.data_segments) h.are_counted))

  pub contents_read : contents types all ≡ Some c → AreContents types all c
  unfolding contents
  contents_read e =
      option_and_then_some _ (items_of (import_item types) 2 all) c e (λ imports read_imports e.
      option_and_then_some _ (items_of (own_function types) 3 all) c e (λ functions read_functions e.
      option_and_then_some _ (items_of (table types) 4 all) c e (λ tables read_tables e.
      option_and_then_some _ (items_of memory 5 all) c e (λ memories read_memories e.
      option_and_then_some _ (items_of (tag types) 13 all) c e (λ tags read_tags e.
      option_and_then_some _ (items_of (global types) 6 all) c e (λ globals read_globals e.
      option_and_then_some _ (items_of exported 7 all) c e (λ exports read_exports e.
      option_and_then_some _ (number_of 8 all) c e (λ start read_start e.
      option_and_then_some _ (items_of (element types) 9 all) c e (λ elements read_elements e.
      option_and_then_some _ (number_of 12 all) c e (λ data_count read_data_count e.
      option_and_then_some _ (items_of sized 10 all) c e (λ bodies read_bodies e.
      option_and_then_some _ (items_of (data_segment types) 11 all) c e (λ data_segments read_data_segments e.
      let made : Contents = record {
        imports = imports;
        functions = functions;
        tables = tables;
        memories = memories;
        tags = tags;
        globals = globals;
        exports = exports;
        start = start;
        elements = elements;
        data_count = data_count;
        bodies = bodies;
        data_segments = data_segments;
      } in
      let is = if_some (nat_eq (length bodies) (length functions) && are_counted data_count (length data_segments)) made c e in
      let counts = and_parts (nat_eq (length bodies) (length functions)) (are_counted data_count (length data_segments)) is.0 in
      subst (AreContents types all) is.1 (record {
        imports = whole_read _ imports read_imports;
        functions = whole_read _ functions read_functions;
        tables = whole_read _ tables read_tables;
        memories = whole_read _ memories read_memories;
        tags = whole_read _ tags read_tags;
        globals = whole_read _ globals read_globals;
        exports = whole_read _ exports read_exports;
        start = number_read (section_contents 8 all) start read_start;
        elements = whole_read _ elements read_elements;
        data_count = number_read (section_contents 12 all) data_count read_data_count;
        bodies = whole_read _ bodies read_bodies;
        data_segments = whole_read _ data_segments read_data_segments;
        a_body_each = (Decides-eqb (length bodies) (length functions)).0 counts.0;
        are_counted = counted_read data_count (length data_segments) counts.1;
      })))))))))))))

-- ---- what is declared

abbrev of_shape : ℕ × Bool → RecGroup
of_shape s = record { count = s.0; explicit = s.1; offset = 0 }

written_unplaced : (written : List RecGroup) → map (λ (g : RecGroup). record g { offset = 0 }) written ≡ map of_shape (map written_shape written)
written_unplaced [] = refl
written_unplaced (g ∷ written) = ap (λ l. of_shape (written_shape g) ∷ l) (written_unplaced written)

groups_unplaced : (all : List Group) → map of_shape (map shape all) ≡ map group_of all
groups_unplaced [] = refl
groups_unplaced (g ∷ all) = ap (λ l. group_of g ∷ l) (groups_unplaced all)

abbrev start_at : ℕ → Start
start_at function = record { function = function; offset = 0 }

start_unplaced : (s : Option Start) → option_map (λ (s : Start). record s { offset = 0 }) s ≡ option_map start_at (option_map (λ (s : Start). s.function) s)
start_unplaced None = refl
start_unplaced (Some s) = refl

abbrev counted_at : ℕ → DataCount
counted_at count = record { count = count; offset = 0 }

count_unplaced : (c : Option DataCount) → option_map (λ (c : DataCount). record c { offset = 0 }) c ≡ option_map counted_at (option_map (λ (c : DataCount). c.count) c)
count_unplaced None = refl
count_unplaced (Some c) = refl

declared_is : (all : List Group) (c : Contents) (d : Declarations) → d.types ≡ types_of all → d.canonical ≡ canonical_of all → map written_shape d.groups ≡ map shape all → AreDeclared c d → unplaced d ≡ declarations all c
declared_is all c d t n w h =
    let written = written_unplaced d.groups ∙ ap (map of_shape) w ∙ groups_unplaced all in
    let start = start_unplaced d.start ∙ ap (option_map start_at) h.start in
    let count = count_unplaced d.data_count ∙ ap (option_map counted_at) h.data_count in
    λ i. record {
      types = t i;
      groups = written i;
      canonical = n i;
      imports = record {
        functions = h.imports.functions i;
        tables = h.imports.tables i;
        memories = h.imports.memories i;
        globals = h.imports.globals i;
        tags = h.imports.tags i;
        offset = 0;
      };
      functions = h.functions i;
      tables = h.tables i;
      memories = h.memories i;
      globals = h.globals i;
      tags = h.tags i;
      exports = h.exports i;
      start = start i;
      elements = h.elements i;
      data_count = count i;
      data_segments = h.data_segments i;
      expression_functions = h.expression_functions i;
    }

-- ---- a module

-- by the types of the sections, wherever their list lies
by_types : (all : List Section) (t : List SubType) (canonical : List ℕ) (w : List RecGroup) (types other : CanonicalTypes) (t' : List SubType) (canonical' : List ℕ) (w' : List RecGroup) (c : Contents) → AreTypes (contents_of 1 all) t canonical w [] → AreAllTypes canonical types → AreTypes (contents_of 1 all) t' canonical' w' [] → AreAllTypes canonical' other → AreContents other all c → AreContents types all c
by_types all t canonical w types other t' canonical' w' c read named read' named' h =
    let same : canonical' ≡ canonical =
    (types_unique (contents_of 1 all) t' t canonical' canonical w' w [] [] read' read).1 in
    contents_wherever other types all c (named'.are_named ∙ same ∙ sym named.are_named)
    (named'.are_behind ∙ ap (λ l. Indices (min (length l) (2 ^ 32 - 1))) same ∙ sym named.are_behind) h

pub module_is : (all : List Section) (d : Declarations) (bodies : List (List ℕ)) (expressions : List (Place × List ℕ)) → HasContents all d bodies expressions → module_in all ≡ Some (unplaced_module d bodies expressions)
unfolding module_in
module_is all d bodies expressions h =
    let g = h.are_types.groups in
    let canonical = canonical_of g in
    let named : AreAllTypes (canonical_of g) (naming_all canonical) = record { are_named = refl; are_behind = refl } in
    let types = types_read (contents_of 1 all) g [] (types_are (contents_of 1 all) d.types d.canonical d.groups [] h.are_types) in
    let there = by_types all (types_of g) canonical (map group_of g) (naming_all canonical) h.types d.types d.canonical d.groups h.contents types named h.are_types h.are_all_types h.are_contents in
    let declared = declared_is g h.contents d h.are_types.are_types h.are_types.are_canonical h.are_types.are_written h.are_declared in
    and_then _ (whole (groups (contents_of 1 all))) g (ap whole (types_are (contents_of 1 all) d.types d.canonical d.groups [] h.are_types))
    ∙ and_then _ (contents (naming_all canonical) all) h.contents (contents_are (naming_all canonical) all h.contents there)
    ∙ (λ i. Some (record { declared = sym declared i; bodies = sym h.are_bodies i; expressions = sym h.are_expressions i }))

-- what a module is read of
pub record Parts (all : List Section) : Type 0 where
  pub groups : List Group
  pub are_types : AreTypes (contents_of 1 all) (types_of groups) (canonical_of groups) (map group_of groups) []
  pub contents : Contents
  pub are_contents : AreContents (naming_all (canonical_of groups)) all contents

parts_of : (all : List Section) (m : DecodedModule) → module_in all ≡ Some m → Parts all
unfolding module_in
parts_of all m e =
    option_and_then_some _ (whole (groups (contents_of 1 all))) m e
    (λ g here more.
    option_and_then_some _ (contents (naming_all (canonical_of g)) all) m more
    (λ c there is. record {
      groups = g;
      are_types = types_read (contents_of 1 all) g [] (whole_read (groups (contents_of 1 all)) g here);
      contents = c;
      are_contents = contents_read (naming_all (canonical_of g)) all c there;
    }))

-- where none has these parts
pub no_module : (all : List Section) → (Parts all → ⊥) → module_in all ≡ None
no_module all none = none_if (module_in all) (λ m e. none (parts_of all m e))

-- by the same types, wherever their list lies
pub by_parts : (all : List Section) (t : List SubType) (canonical : List ℕ) (w : List RecGroup) (types : CanonicalTypes) → AreTypes (contents_of 1 all) t canonical w [] → AreAllTypes canonical types → (h : Parts all) → AreContents types all h.contents
by_parts all t canonical w types read named h =
    by_types all t canonical w types (naming_all (canonical_of h.groups)) (types_of h.groups) (canonical_of h.groups) (map group_of h.groups) h.contents
    read named h.are_types (record { are_named = refl; are_behind = refl }) h.are_contents
