-- A worker before and after it makes its requests.
use Rattle.std.specs.Prelude.{◌≡◌, ◌⊎◌, ◌∷◌, ◌<◌, ℕ, Bool, true, false, List, [], length, slice_index_or}
use Rattle.std.specs.List.{AllByRecursion}
use Rattle.atomic_table.specs.Seated.{TableId}
use Rattle.pw_books.specs.declared.view.View.{View}
use Rattle.pw_books.specs.Books.{calls_of}
use Rattle.pw_books.specs.Workers.{Filled, Worked}
use Rattle.pw_books.specs.Workers.{Worker as Gathered}
use Rattle.pw_books.specs.inner.Seated.{Holding}
use Rattle.pw_cppc.specs.declared.plan.CppcPlan.{CppcPlan}
use Rattle.pw_cppc.specs.declared.request.CppcRequest.{CppcRequest}
use Rattle.pw_cppc.specs.Requests.{Has}
use Rattle.pw_cppc.specs.declared.entry.CppcEntry.{CppcEntry}
use Rattle.pw_cppc_desk.specs.Owning.{Owns}
use Rattle.pw_cppc_desk.specs.Views.{view_in}
use Rattle.pw_cppc_desk.specs.declared.serving.CppcDone.{CppcDone}
use Rattle.pw_cppc_desk.specs.declared.serving.CppcDone.TheVariants.{Answer, Full, RegisterFault, Stopped}
use Rattle.pw_cppc_drive.specs.declared.working.Worker.{Worker}
use Rattle.pw_cppc_drive.specs.Lawful.{telling}

-- the request has a reply
abbrev pub is_answer : CppcDone → Bool
is_answer (Answer reply) = true
is_answer (Full capacity) = false
is_answer (RegisterFault done) = false
is_answer (Stopped at) = false

-- what the worker's seat knows
abbrev pub view_of : Worker → View CppcEntry
view_of w = view_in w.seat.badge.views

-- the worker as it is when all are gathered
abbrev pub gathered : Worker → Gathered CppcEntry
gathered w = record { cpu = w.cpu; number = (view_of w).number; book = (view_of w).book; seen = (view_of w).seen }

-- what is told of a worker
abbrev pub holding : Holding Worker CppcEntry CppcRequest
holding = record { gathered = gathered; requests = λ w. w.requests }

-- the requests were made up to a fault, or to where there was no room for one more entry
abbrev pub MadeLines : List CppcRequest → ℕ → View CppcEntry → Type 0
MadeLines lines room v = Worked telling lines v.number v.book v.seen ⊎ Filled telling lines room v.number v.book v.seen

-- it has a seat that has called nothing, and its processor's requests
pub record IsReady (id : TableId) (P : CppcPlan) (w : Worker) : Type 0 where
  pub owns : Owns id w.seat
  pub fresh : (view_of w).book ≡ calls_of (view_of w).number [] ∷ []
  pub has : AllByRecursion (Has P) w.requests.items

-- it ended
pub record HasEnded (id : TableId) (room : ℕ) (v w : Worker) : Type 0 where
  pub owns : Owns id w.seat
  pub cpu : w.cpu ≡ v.cpu
  pub parts : (view_of w).parts ≡ (view_of v).parts
  pub made : MadeLines v.requests.items room (view_of w)

-- each of them ended
pub record HaveEnded (id : TableId) (room : ℕ) (vs ws : List Worker) : Type 0 where
  pub size : length ws ≡ length vs
  pub ended : (k : ℕ) (d : Worker) → k < length vs → HasEnded id room (slice_index_or vs k d) (slice_index_or ws k d)
