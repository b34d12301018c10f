use Rattle.std.proofs.Common.{◌≡◌, ◌++◌, ◌-◌, length}
use Rattle.std.specs.Prelude.{filter}
use Rattle.std.specs.List.{range_with_len}
use Rattle.pw_cppc.specs.Domains.{members_of, together}
use Rattle.pw_cppc.proofs.domains.members_of.Given as goal

abbrev pub invariant-loop-other : goal.invariant-loop-other
invariant-loop-other l = l.members.items ++ filter (together l.cpus l.cpu) (range_with_len l.other (length l.cpus - l.other)) ≡ members_of l.cpus l.cpu
