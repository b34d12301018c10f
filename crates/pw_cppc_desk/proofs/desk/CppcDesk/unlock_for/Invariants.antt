use Rattle.std.proofs.Common.{None}
use Rattle.pw_cppc_desk.specs.Asked.{no_entry}
use Rattle.pw_cppc_desk.proofs.desk.CppcDesk.unlock_for.Given as goal

abbrev pub ghosts-unlock : goal.ghosts-unlock
ghosts-unlock g a = record { given = None; entry = no_entry; count = g.R.Registers.faults a.ledger.regs }
