use Rattle.std.proofs.Common.{◌≡◌, ◌<◌, ℕ, length}
use Rattle.pw_drive.specs.Keeping.{OpensGroup, group_in}
use Rattle.pw_drive.proofs.records.open_groups.Given as goal

abbrev pub invariant-loop-group : goal.invariant-loop-group
invariant-loop-group l = record {
  count : length l.groups.items ≡ l.group;
  each : (k : ℕ) → k < l.group → OpensGroup l.plan k (group_in l.groups.items k);
}
