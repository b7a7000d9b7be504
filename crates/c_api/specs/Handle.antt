-- What a handle of C owns.
use Rattle.std.specs.Prelude.{◌^◌, Option, None, Some}
use base.Fml.{Fml, fsep, feq, flt, fex}
use base.Stored.{Coded}
use denote.RawPtr.{Ptr, null_ptr, count_of}
use Rattle.core.specs.contracts.option.Option as option
use Rattle.std_heap.specs.contracts.GlobalAllocator.TheImpl.{ghosts}
use Rattle.std_heap.specs.declared.Global.{Global}
use Rattle.std_alloc.specs.Box.Ownership.{box_owns}
use Rattle.std_alloc.specs.declared.boxed.Box.{Box}
use Rattle.c_api.specs.contracts.kept.Kept.{the_row}
use Rattle.c_api.specs.declared.kept.Kept.{Kept}

-- the module or the function, or none
abbrev pub MaybeKept : Type 0
MaybeKept = Option the_row.Denot

-- what was taken out of a handle, if it had something
abbrev pub held_in : Option (Box Kept Global) → MaybeKept
held_in None = None
held_in (Some b) = Some b.value

abbrev pub maybe_kept_coded : Coded MaybeKept
maybe_kept_coded = (option.the_row the_row).coded

-- the pointer may be compared with null
abbrev pub is_testable : Ptr → Fml
is_testable p = flt (count_of p) (2 ^ 63)

-- the box of it at the pointer, which goes back to the heap, or null
abbrev pub handle_owns : Ptr → MaybeKept → Fml
handle_owns p None = feq Ptr p null_ptr
handle_owns p (Some x) =
    fsep (is_testable p) (fex Global (λ heap. box_owns (ghosts.dealloc_token heap) the_row p x))
