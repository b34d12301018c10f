-- What workers did, each with a seat of its own and the requests of one processor, and how their seats' books become one.
use Rattle.std.specs.Prelude.{◌≡◌, ◌≢◌, ◌==◌, ◌++◌, ◌⊎◌, ◌≤◌, ℕ, List, [], ◌∷◌, cond, length}
use Rattle.std.specs.List.{AllByRecursion}
use Rattle.pw_books.specs.declared.calls.Calls.{Calls}
use Rattle.pw_books.specs.Books.{Begins, Knows, calls_of, count_in}
use Rattle.pw_books.specs.Asked.{Faultless, Telling, own, requests}

-- # One worker

module _ {E Q : Type 0} (T : Telling E Q) where
  -- The seat's book has its number alone, with entries of these requests, in this order.
  pub record HasAsked (made : List Q) (number : ℕ) (book : List (Calls E)) : Type 0 where
    pub entries : List E
    pub alone : book ≡ calls_of number entries ∷ []
    pub asked : requests T entries ≡ made

  -- A worker ended: its seat's book has its number alone, with entries of a beginning of its requests; of all, or there is a
  -- fault in the history that it has seen.
  pub record Worked (lines : List Q) (number : ℕ) (book : List (Calls E)) (seen : List E) : Type 0 where
    pub entries : List E
    pub alone : book ≡ calls_of number entries ∷ []
    pub begins : Begins lines (requests T entries)
    pub whole : (requests T entries ≡ lines) ⊎ (Faultless T seen → ⊥)

  -- A worker was refused behind a beginning of its requests: the history that it has seen had all entries for which there was room.
  pub record Filled (lines : List Q) (room number : ℕ) (book : List (Calls E)) (seen : List E) : Type 0 where
    pub entries : List E
    pub alone : book ≡ calls_of number entries ∷ []
    pub begins : Begins lines (requests T entries)
    pub full : room ≤ length seen

-- # All workers

-- A worker as it ended: its processor, and of its seat the number, the book, and the history as far as it has seen it.
pub record Worker (E : Type 0) : Type 0 where
  pub cpu : ℕ
  pub number : ℕ
  pub book : List (Calls E)
  pub seen : List E

module _ {E : Type 0} where
  -- the number of the seat of the processor's first worker
  abbrev pub seat_of : List (Worker E) → ℕ → ℕ
  seat_of [] p = 0
  seat_of (w ∷ ws) p = cond (w.cpu == p) w.number (seat_of ws p)

  -- the processor has a worker
  abbrev pub HasWorker : List (Worker E) → ℕ → Type 0
  HasWorker [] p = ⊥
  HasWorker (w ∷ ws) p = (w.cpu ≡ p) ⊎ HasWorker ws p

  -- no two have the same processor
  abbrev pub AreApart : List (Worker E) → Type 0
  AreApart [] = Unit {0}
  AreApart (w ∷ ws) = AllByRecursion (λ v. v.cpu ≢ w.cpu) ws × AreApart ws

  -- a seat's book, with those of the workers' seats joined to it, from the first to the last
  abbrev pub joined_up : List (Calls E) → List (Worker E) → List (Calls E)
  joined_up book [] = book
  joined_up book (w ∷ ws) = joined_up (book ++ w.book) ws

  -- and from the last to the first
  abbrev pub joined_down : List (Calls E) → List (Worker E) → List (Calls E)
  joined_down book [] = book
  joined_down book (w ∷ ws) = joined_down book ws ++ w.book

  -- All workers' seats were joined, in one of these orders, to a seat that asked nothing.
  pub record AreJoined (workers : List (Worker E)) (book : List (Calls E)) : Type 0 where
    pub first : List (Calls E)
    pub silent : AllByRecursion (λ c. c.entries ≡ []) first
    pub joined : (book ≡ joined_up first workers) ⊎ (book ≡ joined_down first workers)

module _ {E Q : Type 0} (T : Telling E Q) where
  -- it ended in one of these ways, and there was room for an entry of each request of all processors
  abbrev pub Ended : List Q → Worker E → Type 0
  Ended asked w =
      Worked T (own T w.cpu asked) w.number w.book w.seen ⊎ Filled T (own T w.cpu asked) (length asked) w.number w.book w.seen

  -- Each processor with requests had one worker, which made them, and these workers made the history: their seats were joined to
  -- one whose book then has each entry's number once, and of each of its numbers what the history has. Each saw a beginning of
  -- the history.
  pub record MadeByWorkers (asked : List Q) (workers : List (Worker E)) (book : List (Calls E)) (es : List E) : Type 0 where
    pub ended : AllByRecursion (Ended asked) workers
    pub apart : AreApart workers
    pub all : (p : ℕ) → own T p asked ≢ [] → HasWorker workers p
    pub saw : AllByRecursion (λ w. Begins es w.seen) workers
    pub joined : AreJoined workers book
    pub knows : Knows T.seat book es
    pub numbers : AllByRecursion (λ e. count_in (T.seat e) book ≡ 1) es
