use Rattle.std.proofs.Common.{arith}
use Rattle.std.proofs.lemmas.Grind.{common_steps}
use Rattle.pw_cppc.proofs.standings.together.Goals as goal

pub loop-member-preserved : goal.loop-member-preserved
loop-member-preserved c = record { ask = grind (arith, common_steps); minimum = grind (arith, common_steps); maximum = grind (arith, common_steps) }
