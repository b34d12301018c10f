use Rattle.std.proofs.Common.{◌≡◌}
use Rattle.pw_domain.specs.Groups.{IsGroupOf}
use Rattle.pw_worked.proofs.steps.records.group_record.Given as goal

abbrev pub invariant-loop-note : goal.invariant-loop-note
invariant-loop-note l = IsGroupOf l.plan l.held × (l.held.group ≡ l.group)
