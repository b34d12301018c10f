-- A seat of a table: its view, and the kinds of step of a machine that it took itself, or that seats took which were joined into it.
use Rattle.std.specs.Prelude.{◌≡◌, ℕ, zero, suc, ◌+◌, List, [], ◌∷◌, ◌++◌, ◌==◌, cond, length}
use Rattle.pw_books.specs.Sums.{total}
use Rattle.pw_books.specs.declared.track.Track.{Track}

module _ {V K : Type 0} where
  -- it took no step yet
  abbrev pub fresh : V → Track V K
  fresh v = record { view = v; own = []; kept = [] }

  -- what is counted of the seat's own list, and of those of the seats that were joined into it
  abbrev pub in_keeping : (List K → ℕ) → Track V K → ℕ
  in_keeping f t = f t.own + total f t.kept

-- by what a kind of step is to the seat that takes it
module _ {V K : Type 0} (own_kind : K → K) where
  -- of the steps of a run those of the seat at this place
  abbrev pub steps_of : ℕ → List (ℕ × V × K) → List K
  steps_of j [] = []
  steps_of j (s ∷ ss) = cond (s.0 == j) (own_kind s.2 ∷ steps_of j ss) (steps_of j ss)

  -- it took one more, and has this view
  abbrev pub did : K → V → Track V K → Track V K
  did k w t = record t { view = w; own = t.own ++ own_kind k ∷ [] }

  -- so it did, and has in keeping what another had
  abbrev pub took_over : K → V → Track V K → Track V K → Track V K
  took_over k w t u = record (did k w t) { kept = t.kept ++ u.own ∷ u.kept }

  -- # Who has the steps of a run in keeping

  -- of a run the lists of so many places, from this one on
  abbrev pub lists_from : List (ℕ × V × K) → ℕ → ℕ → List (List K)
  lists_from run j zero = []
  lists_from run j (suc n) = steps_of j run ∷ lists_from run (suc j) n

  -- The lists of the run by places are those that the seats have in keeping, each as often: whatever is counted of a list, so that
  -- one without a step counts nothing, both have as much of it.
  abbrev pub AreKept : List (ℕ × V × K) → List (Track V K) → Type 0
  AreKept run ts = (f : List K → ℕ) → f [] ≡ 0 → total f (lists_from run 0 (length ts)) ≡ total (in_keeping f) ts
