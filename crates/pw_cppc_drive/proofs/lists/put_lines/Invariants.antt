use Rattle.std.proofs.Common.{length, take}
use Rattle.pw_cppc_drive.specs.Reading.{requests_of}
use Rattle.pw_cppc_drive.specs.inner.Lists.{AreLists}
use Rattle.pw_cppc_drive.proofs.lists.put_lines.Given as goal

abbrev pub invariant-loop-line : goal.invariant-loop-line
invariant-loop-line l = AreLists (requests_of (take l.line-index l.lines)) (length l.plan.cpus) l.lists.items
