use Rattle.std.proofs.Common.{◌≡◌, ◌≢◌, ◌<◌, ℕ, get_or}
use Rattle.validate_types.specs.Abstract.{heap_name}
use Rattle.validate_types.specs.declared.heap.AbstractHeapType.TheVariants.{Func}
use Rattle.script_reader.proofs.ReferenceNames.{abstract_types}
use Rattle.script_reader.proofs.parts.references.abstract_named.Given as goal

-- None of the types so far has the name.
abbrev pub invariant-loop-ty : goal.invariant-loop-ty
invariant-loop-ty l =
    record {
      all : l.ty-items ≡ abstract_types;
      none : (k : ℕ) → k < l.ty-index → l.name ≢ heap_name l.nullable (get_or l.ty-items k Func);
    }
