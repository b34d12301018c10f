use Rattle.pw_cppc_desk.proofs.Meetings.{has_invariant, met_was_found}
use Rattle.pw_cppc_desk.proofs.Quiet.{quiet_are_not_met, steps_are_kept}
use Rattle.pw_cppc_desk.proofs.rule_laws.runs_tell.Goals as goal

pub returns-clause-invariant : goal.returns-clause-invariant
returns-clause-invariant g c = has_invariant g.R.Registers

pub returns-clause-kept : goal.returns-clause-kept
returns-clause-kept g c = steps_are_kept g.R.Registers

pub returns-clause-met : goal.returns-clause-met
returns-clause-met g c = met_was_found g.R.Registers

pub returns-clause-quiet : goal.returns-clause-quiet
returns-clause-quiet g c = quiet_are_not_met g.R.Registers
