use Rattle.std.proofs.Common.{refl, ap}
use Rattle.pw_turns.specs.declared.requests.Try.TheVariants.{Answer}
use Rattle.pw_embed.specs.inner.Starting.{Starts, StartsAt}
use Rattle.pw_embed.proofs.endless.started.Goals as goal

pub returns-in-Ok : goal.returns-in-Ok
unfolding StartsAt
returns-in-Ok c =
    rw c.in-Resting.is (Starts.begun _ (record {
      has = rw c.in-Resting.is at c.requires;
      same = refl;
      request = c.in-Ok.ensures.request;
      begun = rw c.deref.ensures at c.in-Ok.ensures.begun;
      tells = rw c.deref.ensures at c.in-Ok.ensures.asked;
      steps = c.in-Ok.ensures.began;
    }) refl (ap Answer c.reply.ensures))

pub returns-in-Err : goal.returns-in-Err
unfolding StartsAt
returns-in-Err c =
    rw c.in-Resting.is (Starts.not_begun _ (record {
      has = rw c.in-Resting.is at c.requires;
      same = refl;
      none = c.in-Err.ensures.none;
      told = rw c.deref.ensures at c.in-Err.ensures.told;
      steps = rw c.deref.ensures at c.in-Err.ensures.steps;
      opening = refl;
    }) refl)
