use Rattle.std.proofs.Common.{◌≤◌, ◌+◌, ◌++◌, List}
use Rattle.std.specs.Prelude.{vec_capacity, length}
use Rattle.std.specs.List.{AllByRecursion}
use Rattle.std.specs.Vec.Iter.{into_iter_items}
use Rattle.pw_rule.specs.Rule.{given_of}
use Rattle.pw_drive.specs.declared.working.Begun.{Begun}
use Rattle.pw_drive.specs.inner.Begun.{AllWillEnd}
use Rattle.pw_drive.specs.inner.Workers.{IsReady}
use Rattle.pw_drive.proofs.working.begin_all.Given as goal

abbrev pub invariant-loop-worker : goal.invariant-loop-worker
invariant-loop-worker g l =
    let id = l.coordinator.table.shared.table_id in
    let given = given_of g.R.Registers l.coordinator.table.shared.key in
    let left = into_iter_items l.worker-iterator in
    record {
      ready : AllByRecursion (IsReady id l.coordinator.plan) left;
      room : length l.begun.items + length left ≤ vec_capacity l.begun;
      goes_on : (bs : List (Begun _)) → AllWillEnd g.R.Registers id given left bs → AllWillEnd g.R.Registers id given l.fn.workers.items (l.begun.items ++ bs);
    }
