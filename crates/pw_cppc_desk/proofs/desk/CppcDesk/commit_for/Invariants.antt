use Rattle.std.proofs.Common.{None}
use Rattle.pw_cppc_desk.specs.Entries.{entry_as}
use Rattle.pw_cppc_desk.proofs.desk.CppcDesk.commit_for.Given as goal

abbrev pub ghosts-commit : goal.ghosts-commit
ghosts-commit g a = record { given = None; entry = entry_as a.raw.now.me.0.view.number a._request a._fault; count = g.R.Registers.faults a.ledger.regs }
