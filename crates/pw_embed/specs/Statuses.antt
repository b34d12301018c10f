-- The numbers of statuses.
use Rattle.std.specs.Prelude.{◌≡◌, ℕ, ℤ, pos}
use Rattle.pw_embed.specs.declared.status.Status.{Status}
use Rattle.pw_embed.specs.declared.status.Status.TheVariants as statuses

abbrev pub code_of : Status → ℕ
code_of statuses.Done = 0
code_of statuses.NoMemory = 1
code_of statuses.Closed = 2
code_of statuses.Open = 3
code_of statuses.Kind = 4
code_of statuses.Range = 5
code_of statuses.Room = 6
code_of statuses.Block = 7
code_of statuses.Twice = 8
code_of statuses.Object = 9
code_of statuses.Limit = 10
code_of statuses.Busy = 11
code_of statuses.Full = 12
code_of statuses.Seats = 13
code_of statuses.Numbers = 14
code_of statuses.Stopped = 15
code_of statuses.Begun = 16
code_of statuses.NotBegun = 17

-- a number stands for a status of which this holds
abbrev pub Tells : ℤ → (Status → Type 0) → Type 0
Tells n P = (s : Status) × (n ≡ pos (code_of s)) × P s
