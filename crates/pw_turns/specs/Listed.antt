-- The operations that a seat lists after a request.
use Rattle.std.specs.Prelude.{◌≡◌, ℕ, ◌+◌, List, [], ◌∷◌, ◌++◌}
use Rattle.acpi_values.specs.declared.operation.Op.{Op}
use Rattle.pw_plan.specs.declared.request.Request.{Request}
use Rattle.pw_model.specs.declared.entry.HistoryEntry.{HistoryEntry}
use Rattle.pw_model.specs.History.{replay}
use Rattle.pw_model.specs.Operations.{ops_of}
use Rattle.pw_machine.specs.Machine.{Given}
use Rattle.pw_turns.specs.Asked.{entry_as}
use Rattle.pw_turns.specs.declared.requests.Try.{Try}
use Rattle.pw_turns.specs.declared.requests.Try.TheVariants.{Answer, Busy, Full, RegisterFault, Stopped}

-- The entry is the last that the seat has seen, and the operations are the request's where the history before it has led.
pub record IsListed (given : Given) (number : ℕ) (q : Request) (fault : ℕ) (seen : List HistoryEntry) (ops : List Op) : Type 0 where
  pub history : List HistoryEntry
  pub is : seen ≡ history ++ entry_as number q fault ∷ []
  pub are : ops ≡ ops_of given.plan (replay given.plan history) q

-- where it made no entry nothing is said of them
abbrev pub Lists : Given → ℕ → Request → Try → List HistoryEntry → List Op → Type 0
Lists given number q (Answer reply) seen ops = IsListed given number q 0 seen ops
Lists given number q (Busy turn holder) seen ops = Unit {0}
Lists given number q (Full capacity) seen ops = Unit {0}
Lists given number q (RegisterFault done) seen ops = IsListed given number q (done + 1) seen ops
Lists given number q (Stopped at) seen ops = Unit {0}
