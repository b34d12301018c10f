-- What a request to the coordinator of one caller comes to.
use Rattle.std.specs.Prelude.{◌≡◌, Some}
use Rattle.pw_plan.specs.declared.request.Request.{Request}
use Rattle.pw_plan.specs.Requests.{Has}
use Rattle.pw_model.specs.Answers.{after, answer}
use Rattle.pw_model.specs.Operations.{ops_of}
use Rattle.pw_embed.specs.declared.replies.ReplyNumbers.{ReplyNumbers}
use Rattle.pw_embed.specs.declared.requests.RequestNumbers.{RequestNumbers}
use Rattle.pw_embed.specs.declared.single.Single.{Single}
use Rattle.pw_embed.specs.declared.status.Status.{Status}
use Rattle.pw_embed.specs.declared.status.Status.TheVariants.{Done, Range}
use Rattle.pw_embed.specs.Replies.{numbers_of}
use Rattle.pw_embed.specs.Requests.{request_in}

-- The request was made: the same plan, the state after it, and its operations in the list.
pub record Stepped (old : Single) (q : Request) (new : Single) : Type 0 where
  pub has : Has old.plan q
  pub plan : new.plan ≡ old.plan
  pub notes : new.notes ≡ old.notes
  pub state : new.state ≡ after old.plan old.state q
  pub ops : new.ops.elements ≡ ops_of old.plan old.state q

-- The request that the numbers ask for was made, and the reply has the numbers of its answer; or they ask for none of the plan's
-- processors, and nothing changed.
unfoldable pub Asked : Single → RequestNumbers → ReplyNumbers → Single → ReplyNumbers → Status → Type 0
Asked old a reply new reply' Done =
    (q : Request) × (request_in a ≡ Some q) × Stepped old q new × (reply' ≡ numbers_of (answer old.plan old.state q))
Asked old a reply new reply' Range = ((q : Request) → request_in a ≡ Some q → Has old.plan q → ⊥) × (new ≡ old) × (reply' ≡ reply)
Asked old a reply new reply' _ = ⊥
