-- Workers with seats.
use Rattle.std.specs.Prelude.{◌≡◌, ◌+◌, ◌∷◌, ℕ, List, Vec, []}
use Rattle.std.specs.Prelude.{Result, Ok, Err}
use Rattle.std.specs.declared.alloc.Global.{Global}
use Rattle.atomic_table.specs.Seated.{TableId}
use Rattle.pw_base.specs.declared.failure.Memory.{Memory}
use Rattle.pw_plan.specs.declared.request.Request.{Request}
use Rattle.pw_books.specs.Books.{calls_of}
use Rattle.pw_turns.specs.Owning.{Owns}
use Rattle.pw_books.specs.inner.Seated as any
use Rattle.pw_drive.specs.declared.working.Worker.{Worker}
use Rattle.pw_drive.specs.inner.Workers.{AwaitsReplies, holding, view_of}

-- it has a seat of one part that has called nothing
pub record HasSeat (id : TableId) (w : Worker) : Type 0 where
  pub owns : Owns id w.seat
  pub fresh : (view_of w).book ≡ calls_of (view_of w).number [] ∷ []
  pub part : (view_of w).parts ≡ 1
  pub awaits : AwaitsReplies w

-- the worker of this processor has a seat, for which the first one gave a part
abbrev pub IsSeated : TableId → ℕ → Vec Request Global → ℕ → Result Worker Memory → ℕ → Type 0
IsSeated id cpu requests old (Ok w) new = HasSeat id w × (w.cpu ≡ cpu) × (w.requests ≡ requests) × (new + 1 ≡ old)
IsSeated id cpu requests old (Err e) new = new ≡ old

-- it has a seat, and the requests of its processor
abbrev pub SeatedFor : TableId → List (Vec Request Global) → Worker → Type 0
SeatedFor id = any.SeatedFor holding (HasSeat id)

-- so has each, and no two have the same processor
abbrev pub AreSeated : TableId → List (Vec Request Global) → List Worker → Type 0
AreSeated id = any.AreSeated holding (HasSeat id)

-- each processor whose list isn't empty has a worker
abbrev pub AllSeated : List (Vec Request Global) → List Worker → Type 0
AllSeated = any.AllSeated holding
