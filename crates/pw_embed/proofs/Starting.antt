-- What comes of a request that a seat of a coordinator without end is to begin.
use Rattle.std.proofs.Common.{◌≡◌, ◌∙◌, refl, ap}
use Rattle.std.specs.Prelude.{Some}
use Rattle.pw_plan.specs.declared.request.Request.{Request}
use Rattle.pw_turns.specs.declared.requests.Try.{Try}
use Rattle.pw_turns.specs.declared.requests.Try.TheVariants.{Answer, Busy, Full, RegisterFault, Stopped}
use Rattle.pw_turns.specs.Begun.{MakesNone}
use Rattle.pw_embed.specs.declared.endless.Endless.{Endless}
use Rattle.pw_embed.specs.declared.replies.ReplyNumbers.{ReplyNumbers}
use Rattle.pw_embed.specs.declared.requests.RequestNumbers.{RequestNumbers}
use Rattle.pw_embed.specs.declared.resting.Resting.{Resting}
use Rattle.pw_embed.specs.declared.status.Status.{Status}
use Rattle.pw_embed.specs.Endless.{Begins}
use Rattle.pw_embed.specs.Requests.{request_in}
use Rattle.pw_embed.specs.Told.{reply_after, status_of}
use Rattle.pw_embed.specs.inner.Starting.{Starts}

-- where no entry is made there is no reply
unanswered : (t : Try) (reply : ReplyNumbers) → MakesNone t → reply_after reply t ≡ reply
unanswered (Answer answer) reply none = absurd none
unanswered (Busy turn holder) reply none = refl
unanswered (Full capacity) reply none = refl
unanswered (RegisterFault done) reply none = absurd none
unanswered (Stopped at) reply none = refl

pub begins : (r : Resting) (q : Request) (a : RequestNumbers) (reply reply' : ReplyNumbers) (new : Endless) (t : Try) (s : Status)
    → request_in a ≡ Some q → Starts r q new t → reply' ≡ reply_after reply t → s ≡ status_of t → Begins r a reply new reply' s
begins r q a reply reply' new t s asked (Starts.begun o begun is told) e f =
    Begins.begun q o asked begun is (e ∙ ap (reply_after reply) told) (f ∙ ap status_of told)
begins r q a reply reply' new t s asked (Starts.not_begun n not_begun is) e f =
    Begins.not_begun q t n asked not_begun is (e ∙ unanswered t reply not_begun.none) f
