use Rattle.pw_cppc_drive.proofs.Serial.{serial-lawful}
use Rattle.pw_cppc_drive.proofs.laws.serial_is_lawful.Goals as goal

pub returns : goal.returns
returns c = λ P asked opening es serial. serial-lawful P asked opening es serial
