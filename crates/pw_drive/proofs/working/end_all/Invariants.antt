use Rattle.std.proofs.Common.{◌≤◌, ◌+◌, ◌++◌, List}
use Rattle.std.specs.Prelude.{vec_capacity, length}
use Rattle.std.specs.Vec.Iter.{into_iter_items}
use Rattle.pw_drive.specs.declared.working.Worker.{Worker}
use Rattle.pw_drive.proofs.Beginning.{AreEnds}
use Rattle.pw_drive.proofs.working.end_all.Given as goal

abbrev pub invariant-loop-one : goal.invariant-loop-one
invariant-loop-one g l =
    let left = into_iter_items l.one-iterator in
    record {
      room : length l.done.items + length left ≤ vec_capacity l.done;
      goes_on : (ws : List Worker) → AreEnds g.R.Registers left ws → AreEnds g.R.Registers l.fn.begun.items (l.done.items ++ ws);
    }
