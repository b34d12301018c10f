-- What the book of joined seats has of each.
use Rattle.std.proofs.Common.{◌≡◌, ◌≢◌, ◌==◌, ◌+◌, ◌<◌, ℕ, Bool, true, false, cond, List, [], ◌∷◌, ◌++◌, refl, ◌∙◌, subst, arith}
use Rattle.std.specs.List.{AllByRecursion}
use Rattle.std.proofs.lemmas.Bool.{eqb-false}
use mathlib.Core.Logic.{dite}
use native.Mathlib.Decide.{ℕ_discrete}
use Rattle.pw_books.specs.declared.calls.Calls.{Calls}
use Rattle.pw_books.specs.Books.{Knows, count_in, entries_of}
use Rattle.pw_books.specs.Sums.{total}
use Rattle.pw_books.proofs.Books.{count-append}
use Rattle.pw_books.proofs.Lists.{none-of}
use Rattle.pw_books.specs.Workers.{Worker, joined_down, joined_up}

pub each_map : {X : Type 0} (S T : X → Type 0) → ((x : X) → S x → T x) → (xs : List X) → AllByRecursion S xs → AllByRecursion T xs
each_map S T f [] a = tt
each_map S T f (x ∷ xs) a = (f x a.0, each_map S T f xs a.1)

module _ {E : Type 0} (seat : E → ℕ) where
  knows_first : (xs ys : List (Calls E)) (log : List E) → Knows seat (xs ++ ys) log → Knows seat xs log
  knows_first [] ys log k = tt
  knows_first (c ∷ cs) ys log k = (k.0, knows_first cs ys log k.1)

  knows_rest : (xs ys : List (Calls E)) (log : List E) → Knows seat (xs ++ ys) log → Knows seat ys log
  knows_rest [] ys log k = k
  knows_rest (c ∷ cs) ys log k = knows_rest cs ys log k.1

  -- a book that has what the first one and the workers' books have
  pub record Joined (first : List (Calls E)) (ws : List (Worker E)) (book : List (Calls E)) (log : List E) : Type 0 where
    pub first_knows : Knows seat first log
    pub knows : AllByRecursion (λ w. Knows seat w.book log) ws
    pub count : (n : ℕ) → count_in n book ≡ count_in n first + total (λ w. count_in n w.book) ws

  pub up_has : (first : List (Calls E)) (ws : List (Worker E)) (log : List E) → Knows seat (joined_up first ws) log → Joined first ws (joined_up first ws) log
  up_has first [] log k = record { first_knows = k; knows = tt; count = λ n. omega arith }
  up_has first (w ∷ ws) log k =
      let r = up_has (first ++ w.book) ws log k in
      record {
        first_knows = knows_first first w.book log r.first_knows;
        knows = (knows_rest first w.book log r.first_knows, r.knows);
        count = λ n. omega (arith, r.count n, count-append n first w.book);
      }

  pub down_has : (first : List (Calls E)) (ws : List (Worker E)) (log : List E) → Knows seat (joined_down first ws) log → Joined first ws (joined_down first ws) log
  down_has first [] log k = record { first_knows = k; knows = tt; count = λ n. omega arith }
  down_has first (w ∷ ws) log k =
      let rest = joined_down first ws in
      let r = down_has first ws log (knows_first rest w.book log k) in
      record {
        first_knows = r.first_knows;
        knows = (knows_rest rest w.book log k, r.knows);
        count = λ n. omega (arith, r.count n, count-append n rest w.book);
      }

  -- # Numbers of a book without entries

  -- a number of it has none in the history
  pub silent_none : (n : ℕ) (first : List (Calls E)) (log : List E) → AllByRecursion (λ c. c.entries ≡ []) first → Knows seat first log → 0 < count_in n first → entries_of seat n log ≡ []
  silent_none n [] log silent k some = absurd (omega arith)
  silent_none n (c ∷ cs) log silent k some = dite (ℕ_discrete c.seat n)
      (λ is. subst (λ x. entries_of seat x log ≡ []) is (k.0 ∙ silent.0))
      (λ ne. silent_none n cs log silent.1 k.1 (omega (arith, none-of c.seat n ne)))

  -- each entry's seat has one
  pub each_own : (es : List E) → AllByRecursion (λ e. entries_of seat (seat e) es ≢ []) es
  each_own [] = tt
  each_own (f ∷ fs) = (
    here (seat f == seat f) refl,
    each_map (λ e. entries_of seat (seat e) fs ≢ []) (λ e. entries_of seat (seat e) (f ∷ fs) ≢ []) (λ e some. more (seat f == seat e) (entries_of seat (seat e) fs) some) fs (each_own fs),
  )
    where
      here : (b : Bool) → (seat f == seat f) ≡ b → cond b (f ∷ entries_of seat (seat f) fs) (entries_of seat (seat f) fs) ≢ []
      here true h = λ none. cc
      here false h = absurd (eqb-false (seat f) (seat f) h refl)

      more : (b : Bool) (l : List E) → l ≢ [] → cond b (f ∷ l) l ≢ []
      more true l some = λ none. cc
      more false l some = some
