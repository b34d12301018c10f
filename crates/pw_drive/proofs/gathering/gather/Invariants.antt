use Rattle.std.proofs.Common.{◌≡◌, ◌<◌, length}
use Rattle.std.specs.List.{AllByRecursion}
use Rattle.pw_machine.specs.declared.view.View.{View}
use Rattle.pw_turns.specs.Owning.{Owns}
use Rattle.pw_turns.specs.Views.{view_in}
use Rattle.pw_drive.specs.declared.working.Worker.{Worker}
use Rattle.pw_drive.specs.inner.Gathered.{IsGathered, IsMember}
use Rattle.pw_drive.specs.inner.Replying.{handed_down}
use Rattle.pw_drive.proofs.gathering.gather.Given as goal

abbrev pub invariant-loop-worker : goal.invariant-loop-worker
invariant-loop-worker g l = record {
  owns : Owns l.coordinator.table.shared.table_id l.seat;
  members : AllByRecursion (IsMember l.coordinator.table.shared.table_id) l.workers.items;
  inside : AllByRecursion (λ (w : Worker). w.cpu < length l.each.items) l.workers.items;
  goes_on : (r : View) → IsGathered (view_in l.seat.badge.views) l.workers.items r → IsGathered (view_in l.fn.first.badge.views) l.fn.workers.items r;
  handed : handed_down l.each.items l.workers.items ≡ handed_down l.initial.each.items l.fn.workers.items;
}

abbrev pub decreases-loop-worker : goal.decreases-loop-worker
decreases-loop-worker g l = length l.workers.items
