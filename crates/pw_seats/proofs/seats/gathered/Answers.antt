use Rattle.std.proofs.Common.{◌≡◌, ◌+◌, sum_by, arith}
use Rattle.pw_seats.specs.Seats.{parts_of}
use Rattle.pw_seats.proofs.Popped.{popped}
use Rattle.pw_seats.proofs.seats.gathered.Goals as goal

pub loop-other-init : goal.loop-other-init
loop-other-init g c =
    let id = c.args.shared.now.table.shared.table_id in
    let p = popped id c.args.seats.items c.pop.new.self.items c.in-Some.seat c.in-Some.ensures.items c.requires.0 in
    let whole : sum_by parts_of c.args.seats.items ≡ 65536 = c.requires.1 in
    record { owns = p.owns; all = p.all; parts = omega (arith, p.parts, whole) }

pub join-seat-requires-clause-second : goal.join-seat-requires-clause-second
join-seat-requires-clause-second g c =
    let id = c.args.shared.now.table.shared.table_id in
    (popped id c.loop-other.seats.items c.pop-in-loop-other.new.self.items c.in-Some-pop.other c.in-Some-pop.ensures.items c.loop-other.invariant.all).owns

pub loop-other-preserved : goal.loop-other-preserved
loop-other-preserved g c =
    let id = c.args.shared.now.table.shared.table_id in
    let p = popped id c.loop-other.seats.items c.pop-in-loop-other.new.self.items c.in-Some-pop.other c.in-Some-pop.ensures.items c.loop-other.invariant.all in
    let both : parts_of c.join-seat.result ≡ parts_of c.loop-other.seat + parts_of c.in-Some-pop.other = c.join-seat.ensures.joined.parts in
    record { owns = c.join-seat.ensures.owns; all = p.all; parts = omega (arith, p.parts, both, c.loop-other.invariant.parts) }
