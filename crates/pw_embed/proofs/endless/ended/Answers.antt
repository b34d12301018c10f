use Rattle.pw_embed.specs.Endless.{EndsAt}
use Rattle.pw_embed.proofs.endless.ended.Goals as goal

pub returns-in-Ongoing : goal.returns-in-Ongoing
unfolding EndsAt
returns-in-Ongoing c = rw c.in-Ongoing.is c.finish.ensures
