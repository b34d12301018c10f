-- What a request of a seat was told, in numbers.
use Rattle.std.specs.Prelude.{Bool, true, false}
use Rattle.pw_turns.specs.declared.requests.Try.{Try}
use Rattle.pw_turns.specs.declared.requests.Try.TheVariants.{Answer, Busy, Full, RegisterFault, Stopped}
use Rattle.pw_embed.specs.declared.replies.ReplyNumbers.{ReplyNumbers}
use Rattle.pw_embed.specs.declared.status.Status.{Status}
use Rattle.pw_embed.specs.declared.status.Status.TheVariants as statuses
use Rattle.pw_embed.specs.Replies.{numbers_of}

abbrev pub is_answer : Try → Bool
is_answer (Answer reply) = true
is_answer (Busy turn holder) = false
is_answer (Full capacity) = false
is_answer (RegisterFault done) = false
is_answer (Stopped at) = false

-- the status of what a request was told
abbrev pub status_of : Try → Status
status_of (Answer reply) = statuses.Done
status_of (Busy turn holder) = statuses.Busy
status_of (Full capacity) = statuses.Full
status_of (RegisterFault done) = statuses.Stopped
status_of (Stopped at) = statuses.Stopped

-- the numbers of the reply, where there is one
abbrev pub reply_after : ReplyNumbers → Try → ReplyNumbers
reply_after old (Answer reply) = numbers_of reply
reply_after old (Busy turn holder) = old
reply_after old (Full capacity) = old
reply_after old (RegisterFault done) = old
reply_after old (Stopped at) = old
