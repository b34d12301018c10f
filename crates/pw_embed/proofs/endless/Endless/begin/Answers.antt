use Rattle.pw_embed.specs.Endless.{BeginsAt}
use Rattle.pw_embed.specs.inner.Starting.{StartsAt}
use Rattle.pw_embed.proofs.Starting.{begins}
use Rattle.pw_embed.proofs.endless.Endless.begin.Goals as goal

pub returns : goal.returns
unfolding BeginsAt StartsAt
returns c =
    rw c.in-Resting.is
    (begins _ _ _ _ _ _ _ _ c.in-Some.ensures.0 c.replace_with-told.ensures c.put_reply.ensures c.status_of.ensures)
