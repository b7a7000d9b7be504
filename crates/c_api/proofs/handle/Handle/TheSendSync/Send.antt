-- A handle may go to another thread, as what it has may.
use mir.Raw.{raw}
use base.Shift.{Keyless}
use denote.Memory.{lone}
use denote.RawPtr.{Ptr}
use denote.Struct.Struct.{exits_of}
use denote.Struct.Owning.{shape, fields, to}
use denote.Param.Send.{IsSend, AllSend, owning_send, struct_send, sendable}
use Rattle.core.specs.declared.option.Option.TheVariants.{None, Some}
use Rattle.std.proofs.Crossing as heap
use Rattle.std_alloc.proofs.SendSync.{quiet, lies}
use Rattle.c_api.specs.Handle.{MaybeKept, handle_owns}
use Rattle.c_api.specs.contracts.kept.Kept as kept
use Rattle.c_api.proofs.kept.Kept.TheSendSync.{the_send as kept_send}
use Rattle.c_api.specs.contracts.handle.Handle.{the_row, the_type}

keyless : (p : Ptr) (x : MaybeKept) → Keyless (handle_owns p x)
keyless p None = tt
keyless p (Some s) = (tt, λ a. (lies kept.the_row kept_send p s, heap.frees.frees a (raw (lone kept.the_row.mir)) p))

pub send : IsSend the_row
send =
    let all : AllSend (fields the_type) = (search sendable, tt) in
    owning_send the_type all (λ d. keyless d.at d.held)
    (λ k. quiet (to the_type) (exits_of k (fields the_type)) ((struct_send (shape the_type) all).leaving k))
