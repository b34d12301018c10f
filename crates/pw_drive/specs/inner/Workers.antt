-- A worker before and after it makes its requests.
use Rattle.std.specs.Prelude.{◌≡◌, ◌⊎◌, ◌∷◌, ◌≤◌, ℕ, List, [], length, vec_capacity}
use Rattle.std.specs.List.{AllByRecursion}
use Rattle.atomic_table.specs.Seated.{TableId}
use Rattle.pw_plan.specs.declared.plan.Plan.{Plan}
use Rattle.pw_plan.specs.declared.request.Request.{Request}
use Rattle.pw_plan.specs.Requests.{Has}
use Rattle.pw_machine.specs.declared.view.View.{View}
use Rattle.pw_machine.specs.Machine.{Given}
use Rattle.pw_books.specs.Books.{calls_of}
use Rattle.pw_turns.specs.Owning.{Owns}
use Rattle.pw_turns.specs.Views.{view_in}
use Rattle.pw_books.specs.Workers.{Filled, Worked}
use Rattle.pw_books.specs.Workers.{Worker as Gathered}
use Rattle.pw_books.specs.inner.Seated.{Holding}
use Rattle.pw_drive.specs.declared.working.Worker.{Worker}
use Rattle.pw_model.specs.declared.entry.HistoryEntry.{HistoryEntry}
use Rattle.pw_drive.specs.inner.Replying.{KeepsReplies}
use Rattle.pw_drive.specs.inner.Telling.{telling}

-- what the worker's seat knows
abbrev pub view_of : Worker → View
view_of w = view_in w.seat.badge.views

-- the worker as it is when all are gathered
abbrev pub gathered : Worker → Gathered HistoryEntry
gathered w = record { cpu = w.cpu; number = (view_of w).number; book = (view_of w).book; seen = (view_of w).seen }

-- what is told of a worker
abbrev pub holding : Holding Worker HistoryEntry Request
holding = record { gathered = gathered; requests = λ w. w.requests }

-- the requests were made up to a fault, or to where there was no room for one more entry
abbrev pub MadeLines : List Request → ℕ → View → Type 0
MadeLines lines room v = Worked telling lines v.number v.book v.seen ⊎ Filled telling lines room v.number v.book v.seen

-- no reply is there, and room for one to each of its requests
pub record AwaitsReplies (w : Worker) : Type 0 where
  pub unseen : (view_of w).seen ≡ []
  pub none : w.replies.items ≡ []
  pub room : length w.requests.items ≤ vec_capacity w.replies

-- it has a seat that has called nothing, and its processor's requests
pub record IsReady (id : TableId) (P : Plan) (w : Worker) : Type 0 where
  pub owns : Owns id w.seat
  pub fresh : (view_of w).book ≡ calls_of (view_of w).number [] ∷ []
  pub has : AllByRecursion (Has P) w.requests.items
  pub awaits : AwaitsReplies w

-- it ended
pub record HasEnded (id : TableId) (given : Given) (v w : Worker) : Type 0 where
  pub owns : Owns id w.seat
  pub cpu : w.cpu ≡ v.cpu
  pub parts : (view_of w).parts ≡ (view_of v).parts
  pub made : MadeLines v.requests.items given.capacity (view_of w)
  pub replied : KeepsReplies given.plan w.replies.items (view_of w)

-- each of them ended
abbrev pub HaveEnded : TableId → Given → List Worker → List Worker → Type 0
HaveEnded id given [] [] = Unit {0}
HaveEnded id given [] (w ∷ ws) = ⊥
HaveEnded id given (v ∷ vs) [] = ⊥
HaveEnded id given (v ∷ vs) (w ∷ ws) = HasEnded id given v w × HaveEnded id given vs ws
