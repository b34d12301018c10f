use Rattle.std.proofs.Common.{Some}
use Rattle.pw_cppc_desk.specs.Rule.{given_of}
use Rattle.pw_cppc_desk.specs.Asked.{no_entry}
use Rattle.pw_cppc_desk.proofs.desk.CppcDesk.join.Given as goal

abbrev pub ghosts-look : goal.ghosts-look
ghosts-look g a = record { given = Some (given_of g.R.Registers a.self.now.table.shared.key); entry = no_entry; count = 0 }
