-- Counts of replies, as they are added up, and replies that are known.
use Rattle.std.specs.Prelude.{◌+◌, ℕ, List, [], ◌∷◌, Option, Some, None, codes}
use Rattle.pw_model.specs.declared.reply.Reply.{Reply}
use Rattle.pw_model.specs.declared.reply.Reply.TheVariants.{Entered, Running, Stands, NoState, Disabled, AboveLimit, NoTable, Unfit, TooSlow}
use Rattle.pw_generate.specs.declared.counts.Counts.{Counts}
use Rattle.pw_generate.specs.Summary.{labelled}

abbrev pub none : Counts
none = record { entered = 0; running = 0; stands = 0; refused = 0 }

abbrev pub total : Counts → ℕ
total c = c.entered + c.running + c.stands + c.refused

-- one reply more
abbrev pub with_reply : Counts → Reply → Counts
with_reply c (Entered chain) = record c { entered = c.entered + 1 }
with_reply c Running = record c { running = c.running + 1 }
with_reply c (Stands index) = record c { stands = c.stands + 1 }
with_reply c (NoState count) = record c { refused = c.refused + 1 }
with_reply c Disabled = record c { refused = c.refused + 1 }
with_reply c (AboveLimit limit) = record c { refused = c.refused + 1 }
with_reply c NoTable = record c { refused = c.refused + 1 }
with_reply c (Unfit domain why) = record c { refused = c.refused + 1 }
with_reply c (TooSlow latency) = record c { refused = c.refused + 1 }

-- these replies more
abbrev pub counted : Counts → List Reply → Counts
counted c [] = c
counted c (r ∷ rs) = counted (with_reply c r) rs

-- the first of the known replies
abbrev pub next_reply : Option (List Reply) → Option Reply
next_reply None = None
next_reply (Some []) = None
next_reply (Some (r ∷ rs)) = Some r

-- those behind it
abbrev pub later_replies : Option (List Reply) → Option (List Reply)
later_replies None = None
later_replies (Some []) = Some []
later_replies (Some (r ∷ rs)) = Some rs

-- the lines of counts
abbrev pub reply_lines : Counts → List (List ℕ)
reply_lines c =
    labelled (codes "entered") (c.entered ∷ [])
    ∷ labelled (codes "running") (c.running ∷ [])
    ∷ labelled (codes "stands") (c.stands ∷ [])
    ∷ labelled (codes "refused") (c.refused ∷ [])
    ∷ []

-- the lines of what a history is about
abbrev pub size_lines : ℕ → ℕ → List (List ℕ)
size_lines cpus lines = labelled (codes "processors") (cpus ∷ []) ∷ labelled (codes "lines") (lines ∷ []) ∷ []
