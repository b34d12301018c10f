use Rattle.std.proofs.Common.{◌≡◌, ◌≤◌, ◌∙◌, ℕ, Vec, ap, arith, get_or, length, rules, subst, sym}
use Rattle.std.specs.Prelude.{vec_capacity}
use Rattle.pw_plan.specs.declared.request.Request.{Request}
use Rattle.std.specs.declared.alloc.Global.{Global}
use Rattle.pw_model.specs.declared.reply.Reply.{Reply}
use Rattle.pw_books.proofs.Places.{left_fewer, left_inside, left_last, passed_above, passed_served, size, taken_above, taken_seated, taken_served, taken_size}
use Rattle.pw_drive.specs.inner.Seated.{HasSeat}
use Rattle.pw_drive.specs.inner.Workers.{holding}
use Rattle.pw_drive.proofs.Handing.{fewer_room, taken_empty, taken_room}
use Rattle.pw_drive.proofs.seating.seat_all.Goals as goal

pub loop-requests-preserved-then-not-is_empty : goal.loop-requests-preserved-then-not-is_empty
loop-requests-preserved-then-not-is_empty g c =
    let id = c.args.coordinator.now.table.shared.table_id in
    let l = c.loop-requests in
    let i = l.invariant in
    let all = c.args.lists.items in
    let left = l.lists.items in
    let rest = c.pop.new.self.items in
    let x = c.in-Some.requests in
    let is = c.in-Some.ensures.items in
    let w = c.in_ok-worker.worker in
    let s = c.in_ok-worker.ensures.seated in
    let more = c.push_reserved.new.self.items in
    let are = c.push_reserved.ensures.items in
    let fewer = size left rest all x is i.begins in
    let here : c.len-cpu.result ≡ length rest = search rules in
    let cpu : w.cpu ≡ length rest = s.1 ∙ here in
    let grew = taken_size holding (HasSeat id) all left rest x is i.begins l.workers.items i.above i.served w more are cpu in
    record {
      owns = c.in_ok-worker.ensures.owns;
      book = c.in_ok-worker.ensures.book ∙ i.book;
      parts = let before = i.parts in let part = s.3 in omega (arith, before, part, grew);
      seated = taken_seated holding (HasSeat id) all left rest x is i.begins l.workers.items i.above i.served w more are cpu s.0 s.2 i.seated;
      above = taken_above holding (HasSeat id) all left rest x is i.begins l.workers.items i.above i.served w more are cpu;
      served = taken_served holding (HasSeat id) all left rest x is i.begins l.workers.items i.above i.served w more are cpu;
      begins = left_fewer left rest all x is i.begins;
      few = let before = i.few in omega (arith, before, grew, fewer);
      room = c.push_reserved.ensures.capacity ∙ i.room;
      unseen = c.in_ok-worker.ensures.unseen;
      empty = taken_empty l.each.items c.take_room-replies.new.each.items c.len-cpu.result c.take_room-replies.ensures.size c.take_room-replies.ensures.left c.take_room-replies.ensures.others
          (length all) i.empty;
      spare = taken_room l.each.items c.take_room-replies.new.each.items (length rest) c.take_room-replies.ensures.size
          (rw here at c.take_room-replies.ensures.left) (rw here at c.take_room-replies.ensures.others) all (length left) fewer i.spare;
    }

pub loop-requests-preserved : goal.loop-requests-preserved
loop-requests-preserved g c =
    let id = c.args.coordinator.now.table.shared.table_id in
    let l = c.loop-requests in
    let i = l.invariant in
    let all = c.args.lists.items in
    let left = l.lists.items in
    let rest = c.pop.new.self.items in
    let x = c.in-Some.requests in
    let is = c.in-Some.ensures.items in
    let fewer = size left rest all x is i.begins in
    let none : length x.items ≡ 0 = search rules in
    record {
      owns = i.owns;
      book = i.book;
      parts = i.parts;
      seated = i.seated;
      above = passed_above holding (HasSeat id) all left rest x is i.begins l.workers.items i.above i.served;
      served = passed_served holding (HasSeat id) all left rest x is i.begins l.workers.items i.above i.served none;
      begins = left_fewer left rest all x is i.begins;
      few = let before = i.few in omega (arith, before, fewer);
      room = i.room;
      unseen = i.unseen;
      empty = i.empty;
      spare = fewer_room all l.each.items (length left) (length rest) (omega (arith, size left rest all x is i.begins)) i.spare;
    }

pub take_room-replies-requires : goal.take_room-replies-requires
take_room-replies-requires g c =
    let l = c.loop-requests in
    let i = l.invariant in
    let lt = left_inside l.lists.items c.pop.new.self.items c.args.lists.items c.in-Some.requests c.in-Some.ensures.items i.begins in
    let same = i.empty.size in
    let here : c.len-cpu.result ≡ length c.pop.new.self.items = search rules in
    record { inside = omega (arith, here, lt, same) }

pub seat_worker-requires-clause-unseen : goal.seat_worker-requires-clause-unseen
seat_worker-requires-clause-unseen g c = c.loop-requests.invariant.unseen

pub seat_worker-requires-clause-none : goal.seat_worker-requires-clause-none
seat_worker-requires-clause-none g c =
    let i = c.loop-requests.invariant in
    let lt = left_inside c.loop-requests.lists.items c.pop.new.self.items c.args.lists.items c.in-Some.requests c.in-Some.ensures.items i.begins in
    let here : c.len-cpu.result ≡ length c.pop.new.self.items = search rules in
    ap (λ (v : Vec Reply Global). v.items) (c.take_room-replies.ensures.room c.take_room-replies.result)
    ∙ i.empty.empty c.len-cpu.result c.take_room-replies.result (omega (arith, here, lt))

pub seat_worker-requires-clause-room : goal.seat_worker-requires-clause-room
seat_worker-requires-clause-room g c =
    let i = c.loop-requests.invariant in
    let left = c.loop-requests.lists.items in
    let rest = c.pop.new.self.items in
    let all = c.args.lists.items in
    let x = c.in-Some.requests in
    let is = c.in-Some.ensures.items in
    let last = size left rest all x is i.begins in
    let here : c.len-cpu.result ≡ length rest = search rules in
    let r = c.take_room-replies.result in
    let room : r ≡ get_or c.loop-requests.each.items (length rest) r = c.take_room-replies.ensures.room r ∙ ap (λ (k : ℕ). get_or c.loop-requests.each.items k r) here in
    subst (λ (v : Vec Reply Global). length x.items ≤ vec_capacity v) (sym room)
    (subst (λ (v : Vec Request Global). length v.items ≤ vec_capacity (get_or c.loop-requests.each.items (length rest) r)) (sym (left_last left rest all x is i.begins x))
    (i.spare (length rest) x r (omega (arith, last))))

pub returns-in_err-worker-clause-empty : goal.returns-in_err-worker-clause-empty
returns-in_err-worker-clause-empty g c =
    let e = c.take_room-replies.ensures in
    taken_empty c.loop-requests.each.items c.take_room-replies.new.each.items c.len-cpu.result e.size e.left e.others (length c.args.lists.items) c.loop-requests.invariant.empty

pub returns-clause-empty : goal.returns-clause-empty
returns-clause-empty g c = c.loop-requests.invariant.empty
