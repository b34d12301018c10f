use Rattle.std.proofs.Common.{refl}
use Rattle.std.proofs.lemmas.Option.{slice_get_past, slice_get_read}
use Rattle.pw_embed.specs.Seats.{TellsEntry, ToldEntry}
use Rattle.pw_embed.proofs.seat.Seat.entry.Goals as goal

pub returns-in-Some : goal.returns-in-Some
unfolding TellsEntry ToldEntry
returns-in-Some c =
    let all = rw c.sealed.ensures at c.entries.ensures in
    let at = c.in-Some.ensures.lookup in
    rw (c.in-Ended.is, ← all) (c.in-Some.found.now, slice_get_read _ _ _ _ refl at.3.0 at.1, c.of.ensures)

pub returns-in-None : goal.returns-in-None
unfolding TellsEntry ToldEntry
returns-in-None c =
    let all = rw c.sealed.ensures at c.entries.ensures in
    rw (c.in-Ended.is, ← all) (slice_get_past _ _ c.in-None.ensures.lookup.3, refl)
