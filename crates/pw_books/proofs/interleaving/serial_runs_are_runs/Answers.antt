use Rattle.pw_books.proofs.Runs.{serial-run}
use Rattle.pw_books.proofs.interleaving.serial_runs_are_runs.Goals as goal

pub returns : goal.returns
returns g c = λ asked rest es is whole. serial-run g.H.Tells.telling asked rest es is whole
