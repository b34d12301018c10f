use Rattle.pw_lint.proofs.Refused.{one_findings, plan_findings, refusal_found}
use Rattle.pw_lint.proofs.laws.findings_of_refusals.Goals as goal

pub returns-clause-refused : goal.returns-clause-refused
returns-clause-refused c = refusal_found

pub returns-clause-planned : goal.returns-clause-planned
returns-clause-planned c = plan_findings

pub returns-clause-one : goal.returns-clause-one
returns-clause-one c = one_findings
