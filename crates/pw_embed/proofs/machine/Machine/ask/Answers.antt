use Rattle.std.proofs.Common.{refl}
use Rattle.pw_embed.specs.Machines.{Asks}
use Rattle.pw_embed.proofs.machine.Machine.ask.Goals as goal

pub returns-in-Started : goal.returns-in-Started
unfolding Asks
returns-in-Started c = rw c.in-Started.is (c.ask.new.self, refl, c.ask.ensures)
