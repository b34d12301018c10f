-- Histories that seats made, each asking the requests of one processor.
use Rattle.std.specs.Prelude.{◌≡◌, ◌≢◌, ℕ, List, []}
use Rattle.std.specs.List.{AllByRecursion}
use Rattle.pw_books.specs.Books.{Begins, entries_of}
use Rattle.pw_books.specs.Asked.{Faultless, Telling, own, requests}

module _ {E Q : Type 0} (T : Telling E Q) where
  -- It is the seat of a processor with requests.
  pub record IsSeat (asked : List Q) (seats : ℕ → ℕ) (n : ℕ) : Type 0 where
    pub cpu : ℕ
    pub some : own T cpu asked ≢ []
    pub is : n ≡ seats cpu

  -- Each entry is of the seat of a processor with requests; and each such seat asked a beginning of its processor's, in their
  -- order, all of them where no entry is a fault.
  pub record AskedBySeats (asked : List Q) (seats : ℕ → ℕ) (es : List E) : Type 0 where
    pub seated : AllByRecursion (λ e. IsSeat asked seats (T.seat e)) es
    pub begins : (p : ℕ) → own T p asked ≢ [] → Begins (own T p asked) (requests T (entries_of T.seat (seats p) es))
    pub whole : Faultless T es → (p : ℕ) → own T p asked ≢ [] → requests T (entries_of T.seat (seats p) es) ≡ own T p asked

-- by what tells an entry's seat and its processor
module _ {E : Type 0} (seat cpu : E → ℕ) where
  -- Two entries have the same seat exactly where they have the same processor.
  pub record SitAlike (e f : E) : Type 0 where
    pub same_cpu : seat e ≡ seat f → cpu e ≡ cpu f
    pub same_seat : cpu e ≡ cpu f → seat e ≡ seat f

  -- So do any two of the history.
  abbrev pub SeatsTell : List E → Type 0
  SeatsTell es = AllByRecursion (λ e. AllByRecursion (SitAlike e) es) es
