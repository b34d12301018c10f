use Rattle.std.proofs.Common.{◌≡◌, ◌++◌, ◌-◌, drop, length}
use Rattle.std.specs.List.{range_with_len}
use Rattle.pw_plan.specs.Groups.{labels_after, labels_of}
use Rattle.pw_plan.proofs.groups.labels_of.Given as goal

abbrev pub invariant-loop-cpu : goal.invariant-loop-cpu
invariant-loop-cpu l = l.labels.items ++ range_with_len l.cpu (l.count - l.cpu) ≡ range_with_len 0 l.count

abbrev pub invariant-loop-domain : goal.invariant-loop-domain
invariant-loop-domain l = record {
  size : length l.labels.items ≡ l.count;
  rest : labels_after (drop l.domain-index l.domains) l.labels.items ≡ labels_of l.domains l.count;
}
