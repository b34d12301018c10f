-- Workers of a program, with seats.
use Rattle.std.specs.Prelude.{◌≡◌, ◌≢◌, ◌<◌, ℕ, List, Vec, [], map, length, slice_index_or}
use Rattle.std.specs.List.{AllByRecursion}
use Rattle.std.specs.declared.alloc.Global.{Global}
use Rattle.pw_books.specs.Workers.{AreApart, HasWorker, Worker}

-- What is told of a program's worker: what it is when all are gathered, and its requests.
pub record Holding (W E Q : Type 0) : Type 0 where
  pub gathered : W → Worker E
  pub requests : W → Vec Q Global

module _ {W E Q : Type 0} (H : Holding W E Q) where
  -- by what it means that a worker has a seat: it has one, and the requests of its processor
  pub record SeatedFor (HasSeat : W → Type 0) (lists : List (Vec Q Global)) (w : W) : Type 0 where
    pub seat : HasSeat w
    pub cpu : (H.gathered w).cpu < length lists
    pub requests : (d : Vec Q Global) → H.requests w ≡ slice_index_or lists (H.gathered w).cpu d

  -- so has each, and no two have the same processor
  pub record AreSeated (HasSeat : W → Type 0) (lists : List (Vec Q Global)) (ws : List W) : Type 0 where
    pub each : AllByRecursion (SeatedFor HasSeat lists) ws
    pub apart : AreApart (map H.gathered ws)

  -- each processor whose list isn't empty has a worker
  abbrev pub AllSeated : List (Vec Q Global) → List W → Type 0
  AllSeated lists ws =
      (p : ℕ) (d : Vec Q Global) → p < length lists → (slice_index_or lists p d).items ≢ [] → HasWorker (map H.gathered ws) p
