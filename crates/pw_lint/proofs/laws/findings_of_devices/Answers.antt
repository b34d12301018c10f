use Rattle.pw_lint.proofs.FoundDevices.{found_of_status, found_twins}
use Rattle.pw_lint.proofs.laws.findings_of_devices.Goals as goal

pub returns-clause-status : goal.returns-clause-status
returns-clause-status c = found_of_status

pub returns-clause-names : goal.returns-clause-names
returns-clause-names c = found_twins
