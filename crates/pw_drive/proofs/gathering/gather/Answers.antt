use Rattle.std.proofs.Common.{List, ◌≡◌, ◌<◌, ◌∙◌, ap, arith, length, rules, subst, sym}
use Rattle.std.specs.Vec.{vec_len}
use Rattle.std.proofs.lemmas.List.{length-set}
use Rattle.std.specs.List.{AllByRecursion}
use Rattle.pw_turns.specs.Views.{view_in}
use Rattle.pw_drive.specs.declared.working.Worker.{Worker}
use Rattle.pw_drive.specs.inner.Gathered.{IsGathered, IsMember}
use Rattle.pw_books.proofs.Gathering.{each_last}
use Rattle.pw_books.proofs.Seats.{each_first}
use Rattle.pw_drive.specs.inner.Replying.{handed_down}
use Rattle.pw_drive.proofs.Handing.{handed_last, handed_none}
use Rattle.pw_drive.proofs.Joining.{gathered_end, gathered_last}
use Rattle.pw_drive.proofs.gathering.gather.Goals as goal

pub join-seat-requires-clause-second : goal.join-seat-requires-clause-second
join-seat-requires-clause-second g c =
    let M = IsMember c.args.coordinator.now.table.shared.table_id in
    (each_last M c.pop.new.self.items c.in-Some.worker (subst (AllByRecursion M) c.in-Some.ensures.items c.loop-worker.invariant.members)).owns

pub loop-worker-preserved : goal.loop-worker-preserved
loop-worker-preserved g c =
    let M = IsMember c.args.coordinator.now.table.shared.table_id in
    let l = c.loop-worker in
    let members = subst (AllByRecursion M) c.in-Some.ensures.items l.invariant.members in
    let rest = c.pop.new.self.items in
    let w = c.in-Some.worker in
    record {
      owns = c.join-seat.ensures.owns;
      members = each_first M rest _ members;
      inside = subst (λ n. AllByRecursion (λ (w : Worker). w.cpu < n) rest) (sym (length-set l.each.items w.cpu w.replies))
          (each_first (λ (w : Worker). w.cpu < length l.each.items) rest _ (subst (AllByRecursion (λ (w : Worker). w.cpu < length l.each.items)) c.in-Some.ensures.items l.invariant.inside));
      handed = sym (handed_last l.each.items rest w) ∙ ap (handed_down l.each.items) (sym {A = List Worker} c.in-Some.ensures.items) ∙ l.invariant.handed;
      goes_on = λ r is. l.invariant.goes_on r (subst (λ ws. IsGathered (view_in l.seat.badge.views) ws r) (sym {A = List Worker} c.in-Some.ensures.items)
          (gathered_last (view_in l.seat.badge.views) (view_in c.join-seat.result.badge.views) r rest w c.join-seat.ensures.joined (each_last M rest w members).part is));
    }

pub returns-clause-gathered : goal.returns-clause-gathered
returns-clause-gathered g c =
    let l = c.loop-worker in
    let none : length l.workers.items ≡ 0 = search rules in
    l.invariant.goes_on (view_in l.seat.badge.views) (gathered_end (view_in l.seat.badge.views) l.workers.items none)

pub index_mut-requires : goal.index_mut-requires
index_mut-requires g c =
    let l = c.loop-worker in
    let inside = each_last (λ (w : Worker). w.cpu < length l.each.items) c.pop.new.self.items c.in-Some.worker
    (subst (AllByRecursion (λ (w : Worker). w.cpu < length l.each.items)) c.in-Some.ensures.items l.invariant.inside) in
    let size : vec_len l.each ≡ length l.each.items = search rules in
    omega (arith, inside, size)

pub returns-clause-handed : goal.returns-clause-handed
returns-clause-handed g c =
    let l = c.loop-worker in
    let none : length l.workers.items ≡ 0 = search rules in
    sym (handed_none l.each.items l.workers.items none) ∙ l.invariant.handed
