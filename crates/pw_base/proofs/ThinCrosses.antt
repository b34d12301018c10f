-- A block with its elements may cross threads as they may, where any thread may free it.
use lib.ListN.{length}
use mir.Syntax.{Ty}
use base.Shift.{Keyless}
use denote.RattleType.{RattleType}
use denote.RawPtr.{Ptr, block_ptr, null_ptr, room_for, ◌+ₚ◌}
use denote.Builtin.{usize}
use denote.Array.{Array}
use denote.Struct.Struct.{exits_of}
use denote.Struct.Owning.{shape, fields, to}
use denote.Param.Send.{IsSend, IsSync, AllSend, AllSync, owning_send, struct_send, struct_sync, array_send, array_sync, sendable}
use Rattle.core.specs.declared.alloc.Allocator.{Ghosts}
use Rattle.std_alloc.proofs.SendSync.{FreesAnywhere, quiet, lies, seen}
use Rattle.pw_base.specs.contracts.thin.Thin as Thin

room : (τ : Ty) (p : Ptr) → Keyless (room_for τ p)
room τ (block_ptr b o) = tt
room τ null_ptr = tt

module _ (T A : RattleType) (g : Ghosts A.Denot) where
  pub Thin-send : IsSend T → FreesAnywhere A.Denot g → IsSend (Thin.the_row T A g)
  Thin-send s f = let O = Thin.the_type T A g in let all : AllSend (fields O) = (search sendable, (search sendable, tt)) in owning_send O all
      (λ d. let n = length d.items in let p = d.ptr in (
        tt,
        (((lies usize (search sendable) p n, lies (Array T n) (array_send T n s) (p +ₚ 8) d.items), (((room _ p, room _ (p +ₚ 8)), room _ p), f.frees d.heap _ p)), tt),
      ))
      (λ k. quiet (to O) (exits_of k (fields O)) ((struct_send (shape O) all).leaving k))

  pub Thin-sync : IsSync T → IsSync (Thin.the_row T A g)
  Thin-sync y = let O = Thin.the_type T A g in let all : AllSync (fields O) = (search sendable, (search sendable, tt)) in record {
    shared = λ d b o κ. let n = length d.items in (
      (struct_sync (shape O) all).shared (to O d) b o κ,
      (tt, (seen usize (search sendable) d.ptr n κ, seen (Array T n) (array_sync T n y) (d.ptr +ₚ 8) d.items κ)),
    );
  }
