use Rattle.std.proofs.Common.{◌≡◌, ◌++◌, take, drop}
use Rattle.pw_plan.specs.Groups.{relabel}
use Rattle.pw_plan.proofs.groups.relabel.Given as goal

abbrev pub invariant-loop-label : goal.invariant-loop-label
invariant-loop-label l = l.labels ≡ relabel l.old l.new (take l.label-index l.initial.labels) ++ drop l.label-index l.initial.labels
