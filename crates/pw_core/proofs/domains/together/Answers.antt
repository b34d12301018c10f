use Rattle.std.proofs.Common.{arith}
use Rattle.std.proofs.lemmas.Grind.{common_steps}
use Rattle.pw_core.proofs.domains.together.Goals as goal

pub loop-member-preserved : goal.loop-member-preserved
loop-member-preserved c = record { limit = grind (arith, common_steps); ask = grind (arith, common_steps) }
