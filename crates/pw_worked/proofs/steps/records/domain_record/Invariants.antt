use Rattle.std.proofs.Common.{◌≡◌}
use Rattle.pw_domain.specs.Domains.{IsDomainOf}
use Rattle.pw_worked.proofs.steps.records.domain_record.Given as goal

abbrev pub invariant-loop-note : goal.invariant-loop-note
invariant-loop-note l = IsDomainOf l.plan l.held × (l.held.domain ≡ l.domain)
