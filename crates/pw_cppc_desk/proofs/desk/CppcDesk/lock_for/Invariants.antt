use Rattle.std.proofs.Common.{Some}
use Rattle.pw_cppc_desk.specs.Rule.{given_of}
use Rattle.pw_cppc_desk.specs.Asked.{no_entry}
use Rattle.pw_cppc_desk.proofs.desk.CppcDesk.lock_for.Given as goal

abbrev pub ghosts-lock : goal.ghosts-lock
ghosts-lock g a = record { given = Some (given_of g.R.Registers a.self.now.table.shared.key); entry = no_entry; count = 0 }
