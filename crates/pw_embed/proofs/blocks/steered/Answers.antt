use Rattle.std.proofs.Common.{[], refl}
use Rattle.pw_embed.specs.Blocks.{RefusedBy}
use Rattle.pw_embed.specs.Faults.{no_fault}
use Rattle.pw_embed.proofs.blocks.steered.Goals as goal

pub returns-in-Err-steered_on-clause-refused : goal.returns-in-Err-steered_on-clause-refused
unfolding RefusedBy
returns-in-Err-steered_on-clause-refused c = λ blocks is. (no_fault, no_fault, [], [], (refl, refl))
