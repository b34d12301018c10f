-- Histories of entries, and books: who made which.
use Rattle.std.specs.Prelude.{◌≡◌, ℕ, ◌+◌, List, [], ◌∷◌, ◌++◌, Option, Some, None, ◌==◌, cond}
use Rattle.pw_books.specs.declared.calls.Calls.{Calls}

module _ {E : Type 0} where
  -- the history begins with what was seen
  abbrev pub Begins : List E → List E → Type 0
  Begins history seen = (rest : List E) × (history ≡ seen ++ rest)

  -- so it does with what was told, if anything was
  abbrev pub IsPrefix : List E → Option (List E) → Type 0
  IsPrefix history None = Unit {0}
  IsPrefix history (Some told) = Begins history told

  -- the longer of two beginnings of one history
  abbrev pub longer : List E → List E → List E
  longer [] ys = ys
  longer (x ∷ xs) [] = x ∷ xs
  longer (x ∷ xs) (y ∷ ys) = y ∷ longer xs ys

  -- the longer of what a seat saw itself and what it was told by a join
  abbrev pub furthest : Option (List E) → List E → List E
  furthest None seen = seen
  furthest (Some told) seen = longer told seen

  -- these entries under this number
  abbrev pub calls_of : ℕ → List E → Calls E
  calls_of seat entries = record { seat = seat; entries = entries }

  -- how often the number stands in the book
  abbrev pub count_in : ℕ → List (Calls E) → ℕ
  count_in n [] = 0
  count_in n (c ∷ cs) = cond (c.seat == n) 1 0 + count_in n cs

  -- the list that the book has for the number
  abbrev pub list_of : ℕ → List (Calls E) → List E
  list_of n [] = []
  list_of n (c ∷ cs) = cond (c.seat == n) c.entries (list_of n cs)

  -- the book without a number
  abbrev pub without : ℕ → List (Calls E) → List (Calls E)
  without n [] = []
  without n (c ∷ cs) = cond (c.seat == n) (without n cs) (c ∷ without n cs)

-- where each entry tells the number of the seat that made it
module _ {E : Type 0} (seat_of : E → ℕ) where
  -- the entries of one seat, in order
  abbrev pub entries_of : ℕ → List E → List E
  entries_of n [] = []
  entries_of n (e ∷ es) = cond (seat_of e == n) (e ∷ entries_of n es) (entries_of n es)

  -- for each number of the book its list is that of the history
  abbrev pub Knows : List (Calls E) → List E → Type 0
  Knows [] history = Unit {0}
  Knows (c ∷ cs) history = (entries_of c.seat history ≡ c.entries) × Knows cs history

  -- the book with one more entry
  abbrev pub grown : List (Calls E) → E → List (Calls E)
  grown [] e = []
  grown (c ∷ cs) e = calls_of c.seat (cond (seat_of e == c.seat) (c.entries ++ e ∷ []) c.entries) ∷ grown cs e

  -- What a seat saw begins the history. Of each number of its book it saw all entries, and the book has them.
  pub record Reads (history seen : List E) (told : Option (List E)) (book : List (Calls E)) : Type 0 where
    pub begins : Begins history seen
    pub begins_too : IsPrefix history told
    pub lists : Knows book history
    pub entries : Knows book (furthest told seen)
