-- The numbers of replies.
use Rattle.std.specs.Prelude.{ℕ, replicate}
use Rattle.pw_model.specs.declared.reply.Reply.{Reply}
use Rattle.pw_model.specs.declared.reply.Reply.TheVariants as replies
use Rattle.pw_embed.specs.declared.replies.ReplyNumbers.{ReplyNumbers}

abbrev pub plain : ℕ → ℕ → ℕ → ReplyNumbers
plain kind value why = record { kind = kind; value = value; why = why; length = 0; states = replicate 9 0 }

-- the numbers of a reply
abbrev pub numbers_of : Reply → ReplyNumbers
numbers_of (replies.Entered chain) = record { kind = 1; value = 0; why = 0; length = chain.len; states = chain.states }
numbers_of replies.Running = plain 2 0 0
numbers_of (replies.Stands index) = plain 3 index 0
numbers_of (replies.NoState count) = plain 4 count 0
numbers_of replies.Disabled = plain 5 0 0
numbers_of (replies.AboveLimit limit) = plain 6 limit 0
numbers_of replies.NoTable = plain 7 0 0
numbers_of (replies.Unfit domain why) = plain 8 domain why
numbers_of (replies.TooSlow latency) = plain 9 latency 0
