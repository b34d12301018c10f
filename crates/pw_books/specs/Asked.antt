-- Histories of entries of any kind, each of which a seat made by a request of a processor.
use Rattle.std.specs.Prelude.{◌≡◌, ◌==◌, ℕ, List, filter, map}
use Rattle.std.specs.List.{AllByRecursion}
use Rattle.pw_books.specs.Books.{Begins}

-- What is told of an entry: the number of its seat, its request, and a fault, which is 0 for none; and of a request its processor.
pub record Telling (E Q : Type 0) : Type 0 where
  pub seat : E → ℕ
  pub request : E → Q
  pub fault : E → ℕ
  pub cpu : Q → ℕ

module _ {E Q : Type 0} (T : Telling E Q) where
  -- those of processor p among these requests, in their order
  abbrev pub own : ℕ → List Q → List Q
  own p qs = filter (λ q. T.cpu q == p) qs

  -- the requests of a history, in their order
  abbrev pub requests : List E → List Q
  requests es = map T.request es

  -- the processor of an entry
  abbrev pub cpu_of : E → ℕ
  cpu_of e = T.cpu (T.request e)

  -- no entry is a fault
  abbrev pub Faultless : List E → Type 0
  Faultless es = AllByRecursion (λ e. T.fault e ≡ 0) es

  -- A history of these requests: each processor's are a beginning of its own ones, all of them where no entry is a fault.
  pub record IsRunOf (asked : List Q) (es : List E) : Type 0 where
    pub begins : (p : ℕ) → Begins (own p asked) (own p (requests es))
    pub whole : Faultless es → (p : ℕ) → own p (requests es) ≡ own p asked
