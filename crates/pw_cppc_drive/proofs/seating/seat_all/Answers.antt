use Rattle.std.proofs.Common.{◌≡◌, ◌∙◌, arith, length, rules}
use Rattle.pw_books.proofs.Places.{left_fewer, passed_above, passed_served, size, taken_above, taken_seated, taken_served, taken_size}
use Rattle.pw_cppc_drive.specs.inner.Seated.{HasSeat}
use Rattle.pw_cppc_drive.specs.inner.Workers.{holding}
use Rattle.pw_cppc_drive.proofs.seating.seat_all.Goals as goal

pub loop-requests-preserved-then-not-is_empty : goal.loop-requests-preserved-then-not-is_empty
loop-requests-preserved-then-not-is_empty g c =
    let id = c.args.desk.now.table.shared.table_id in
    let l = c.loop-requests in
    let i = l.invariant in
    let all = c.args.lists.items in
    let left = l.lists.items in
    let rest = c.pop.new.self.items in
    let x = c.in-Some.requests in
    let is = c.in-Some.ensures.items in
    let w = c.in-Some-seat_worker.worker in
    let s = c.in-Some-seat_worker.ensures.seated in
    let more = c.push_reserved.new.self.items in
    let are = c.push_reserved.ensures.items in
    let fewer = size left rest all x is i.begins in
    let cpu : w.cpu ≡ length rest = s.1 ∙ (search rules) in
    let grew = taken_size holding (HasSeat id) all left rest x is i.begins l.workers.items i.above i.served w more are cpu in
    record {
      owns = c.in-Some-seat_worker.ensures.owns;
      book = c.in-Some-seat_worker.ensures.book ∙ i.book;
      parts = let before = i.parts in let part = s.3 in omega (arith, before, part, grew);
      seated = taken_seated holding (HasSeat id) all left rest x is i.begins l.workers.items i.above i.served w more are cpu s.0 s.2 i.seated;
      above = taken_above holding (HasSeat id) all left rest x is i.begins l.workers.items i.above i.served w more are cpu;
      served = taken_served holding (HasSeat id) all left rest x is i.begins l.workers.items i.above i.served w more are cpu;
      begins = left_fewer left rest all x is i.begins;
      few = let before = i.few in omega (arith, before, grew, fewer);
      room = c.push_reserved.ensures.capacity ∙ i.room;
    }

pub loop-requests-preserved : goal.loop-requests-preserved
loop-requests-preserved g c =
    let id = c.args.desk.now.table.shared.table_id in
    let l = c.loop-requests in
    let i = l.invariant in
    let all = c.args.lists.items in
    let left = l.lists.items in
    let rest = c.pop.new.self.items in
    let x = c.in-Some.requests in
    let is = c.in-Some.ensures.items in
    let fewer = size left rest all x is i.begins in
    let none : length x.items ≡ 0 = search rules in
    record {
      owns = i.owns;
      book = i.book;
      parts = i.parts;
      seated = i.seated;
      above = passed_above holding (HasSeat id) all left rest x is i.begins l.workers.items i.above i.served;
      served = passed_served holding (HasSeat id) all left rest x is i.begins l.workers.items i.above i.served none;
      begins = left_fewer left rest all x is i.begins;
      few = let before = i.few in omega (arith, before, fewer);
      room = i.room;
    }
