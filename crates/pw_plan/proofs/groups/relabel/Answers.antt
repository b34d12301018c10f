use Rattle.std.proofs.Common.{arith}
use Rattle.std.proofs.lemmas.Grind.{common_steps}
use Rattle.std.proofs.lemmas.List.Edits.{map_over_more}
use Rattle.pw_plan.specs.Groups.{rename}
use Rattle.pw_plan.proofs.groups.relabel.Goals as goal

pub loop-label-preserved : goal.loop-label-preserved
loop-label-preserved c = grind (arith, common_steps, map_over_more (rename c.args.old c.args.new))
