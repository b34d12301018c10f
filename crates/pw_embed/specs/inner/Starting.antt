-- A request that a seat of a coordinator without end is to begin.
use Rattle.std.specs.Prelude.{◌≡◌}
use Rattle.pw_plan.specs.declared.request.Request.{Request}
use Rattle.pw_plan.specs.Requests.{Has}
use Rattle.pw_turns.specs.declared.requests.Try.{Try}
use Rattle.pw_turns.specs.declared.requests.Try.TheVariants.{Answer}
use Rattle.pw_embed.specs.declared.endless.Endless.{Endless}
use Rattle.pw_embed.specs.declared.endless.Endless.TheVariants as seats
use Rattle.pw_embed.specs.declared.ongoing.Ongoing.{Ongoing}
use Rattle.pw_embed.specs.declared.resting.Resting.{Resting}
use Rattle.pw_embed.specs.Resting.{HasBegun, HasNotBegun, plan_of}

-- it is between its requests, and its plan has this one
abbrev pub MayStart : Endless → Request → Type 0
MayStart (seats.Resting r) q = Has (plan_of r) q
MayStart (seats.Ongoing o) q = ⊥

-- the request has begun, and the seat is told its reply; or it was told another thing, and is as before
pub data Starts (old : Resting) (q : Request) (new : Endless) (t : Try) : Type 0 where
  begun : (o : Ongoing) → HasBegun old q o → new ≡ seats.Ongoing o → t ≡ Answer o.begun.reply → Starts old q new t
  not_begun : (r : Resting) → HasNotBegun old q t r → new ≡ seats.Resting r → Starts old q new t

unfoldable pub StartsAt : Endless → Request → Endless → Try → Type 0
StartsAt (seats.Resting r) q new t = Starts r q new t
StartsAt (seats.Ongoing o) q new t = ⊥
