-- A place may go to another thread: what it owns may, and any thread may give a block back to the heap.
use mathlib.Core.Bool.{Bool, true, false}
use base.Shift.{Keyless}
use mir.Raw.{raw}
use denote.Memory.{lone}
use denote.RawPtr.{Ptr}
use denote.Struct.Struct.{exits_of}
use denote.Struct.Owning.{shape, fields, to}
use denote.Param.Send.{IsSend, AllSend, owning_send, struct_send, sendable}
use Rattle.std.proofs.Crossing as heap
use Rattle.std_alloc.proofs.SendSync.{quiet, lies}
use Rattle.pw_handles.specs.Handles.{held}
use Rattle.pw_handles.specs.contracts.kept.Kept as Kept
use Rattle.pw_handles.proofs.kept.Kept.TheSendSync.{the_send as kept}
use Rattle.pw_handles.specs.contracts.place.Place.{the_row, the_type}

held_keyless : (full : Bool) (p : Ptr) (x : (Kept.the_row).Denot) → Keyless (held full p x)
held_keyless true p x = (lies Kept.the_row kept p x, heap.frees.frees (record { memory = record { seal = tt } }) (raw (lone Kept.the_row.mir)) p)
held_keyless false p x = tt

pub send : IsSend the_row
send =
    let all : AllSend (fields the_type) = (search sendable, tt) in
    owning_send the_type all (λ d. held_keyless d.full d.at d.value)
    (λ k. quiet (to the_type) (exits_of k (fields the_type)) ((struct_send (shape the_type) all).leaving k))
