use Rattle.std.proofs.Common.{◌≡◌, ◌++◌, ◌-◌, map, length}
use Rattle.std.specs.Prelude.{filter}
use Rattle.std.specs.List.{range_with_len}
use Rattle.pw_plan.specs.Groups.{group_with, groups_by, leads_group}
use Rattle.pw_plan.proofs.groups.groups_with.Given as goal

abbrev pub invariant-loop-cpu : goal.invariant-loop-cpu
invariant-loop-cpu l =
    l.groups.items ++ map (group_with l.labels) (filter (leads_group l.domains l.labels) (range_with_len l.cpu (length l.labels - l.cpu)))
    ≡ groups_by l.domains l.labels (length l.labels)
