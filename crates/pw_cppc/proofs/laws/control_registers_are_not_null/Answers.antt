use Rattle.pw_cppc.specs.Parts.{entry_of, place_of}
use Rattle.pw_cppc.proofs.Registers.{register_from, register_to}
use Rattle.pw_cppc.proofs.laws.control_registers_are_not_null.Goals as goal

pub returns : goal.returns
returns c = λ control parts r. (register_to (entry_of parts.cpc (place_of control)) r, register_from (entry_of parts.cpc (place_of control)) r)
