use Rattle.std.proofs.Common.{refl, sym, ◌∙◌}
use Rattle.pw_handles.specs.Seated.{AtSeat}
use Rattle.pw_handles.proofs.Handling.{handled}
use Rattle.pw_handles.proofs.handle.Handle.seat_entries.Goals as goal

pub returns-in-Seat : goal.returns-in-Seat
unfolding AtSeat
returns-in-Seat c =
    let full = sym c.is_open.ensures ∙ c.if-not-is_open.false in
    handled _ _ _ _ _ _ _ _ _ full (sym c.kept.ensures.value) full refl (rw c.in-Seat.is (c.in-Seat.seat, refl, (refl, c.entries.ensures)))
