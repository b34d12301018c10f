use Rattle.std.proofs.Common.{length}
use Rattle.std.specs.List.{AllByRecursion}
use Rattle.pw_plan.specs.Requests.{Has}
use Rattle.pw_script.specs.declared.script.Line.{Line}
use Rattle.pw_cases.proofs.played.running.are_of.Given as goal

abbrev pub invariant-loop-left : goal.invariant-loop-left
invariant-loop-left l = AllByRecursion (λ (a : Line). Has l.plan a.request) l.left → AllByRecursion (λ (a : Line). Has l.plan a.request) l.lines

abbrev pub decreases-loop-left : goal.decreases-loop-left
decreases-loop-left l = length l.left
