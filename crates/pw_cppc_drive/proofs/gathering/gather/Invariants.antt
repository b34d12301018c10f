use Rattle.std.proofs.Common.{length}
use Rattle.std.specs.List.{AllByRecursion}
use Rattle.pw_books.specs.declared.view.View.{View}
use Rattle.pw_cppc.specs.declared.entry.CppcEntry.{CppcEntry}
use Rattle.pw_cppc_desk.specs.Owning.{Owns}
use Rattle.pw_cppc_desk.specs.Views.{view_in}
use Rattle.pw_cppc_drive.specs.inner.Gathered.{IsGathered, IsMember}
use Rattle.pw_cppc_drive.proofs.gathering.gather.Given as goal

abbrev pub invariant-loop-worker : goal.invariant-loop-worker
invariant-loop-worker g l = record {
  owns : Owns l.desk.table.shared.table_id l.seat;
  members : AllByRecursion (IsMember l.desk.table.shared.table_id) l.workers.items;
  goes_on : (r : View CppcEntry) → IsGathered (view_in l.seat.badge.views) l.workers.items r → IsGathered (view_in l.fn.first.badge.views) l.fn.workers.items r;
}

abbrev pub decreases-loop-worker : goal.decreases-loop-worker
decreases-loop-worker g l = length l.workers.items
