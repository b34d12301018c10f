-- A history that has an entry for each request leaves no request.
use Rattle.std.proofs.Common.{◌≡◌, ◌≢◌, ◌==◌, ◌+◌, ◌≤◌, ℕ, Bool, true, false, cond, List, [], ◌∷◌, ◌++◌, length, length-append, refl, ap, sym, ◌∙◌, arith, append-nil}
use Rattle.std.specs.List.{AllByRecursion}
use Rattle.std.proofs.lemmas.List.{length-map}
use mathlib.Core.Logic.{dite}
use native.Mathlib.Decide.{ℕ_discrete}
use Rattle.pw_books.specs.Books.{Begins, entries_of}
use Rattle.pw_books.specs.Sums.{bit, total}
use Rattle.pw_books.proofs.Lists.{none-of, one}
use Rattle.pw_books.specs.Asked.{Telling, own, requests}
use Rattle.pw_books.specs.Workers.{AreApart, Worker}

-- # Sums

module _ {X : Type 0} where
  total-both : (f g h : X → ℕ) → ((w : X) → h w ≡ f w + g w) → (ws : List X) → total h ws ≡ total f ws + total g ws
  total-both f g h e [] = omega arith
  total-both f g h e (w ∷ ws) = omega (arith, e w, total-both f g h e ws)

  total_le : (f g : X → ℕ) (ws : List X) → AllByRecursion (λ w. f w ≤ g w) ws → total f ws ≤ total g ws
  total_le f g [] le = omega arith
  total_le f g (w ∷ ws) le = omega (arith, le.0, total_le f g ws le.1)

  -- terms that are no greater and come to no less are the same
  each_same : (f g : X → ℕ) (ws : List X) → AllByRecursion (λ w. f w ≤ g w) ws → total g ws ≤ total f ws → AllByRecursion (λ w. f w ≡ g w) ws
  each_same f g [] le ge = tt
  each_same f g (w ∷ ws) le ge = (omega (arith, le.0, total_le f g ws le.1, ge), each_same f g ws le.1 (omega (arith, le.0, total_le f g ws le.1, ge)))

module _ {E Q : Type 0} (T : Telling E Q) where
  -- # Entries and requests, worker by worker

  entries-more : (n : ℕ) (e : E) (es : List E) → length (entries_of T.seat n (e ∷ es)) ≡ bit (T.seat e == n) + length (entries_of T.seat n es)
  entries-more n e es = step (T.seat e == n) (entries_of T.seat n es)
    where
      step : (b : Bool) (l : List E) → length (cond b (e ∷ l) l) ≡ bit b + length l
      step true l = omega arith
      step false l = omega arith

  own-more : (p : ℕ) (q : Q) (qs : List Q) → length (own T p (q ∷ qs)) ≡ bit (T.cpu q == p) + length (own T p qs)
  own-more p q qs = step (T.cpu q == p) (own T p qs)
    where
      step : (b : Bool) (l : List Q) → length (cond b (q ∷ l) l) ≡ bit b + length l
      step true l = omega arith
      step false l = omega arith

  -- each entry is some worker's
  entries_hold : (ws : List (Worker E)) (es : List E) → AllByRecursion (λ e. 1 ≤ total (λ (w : Worker E). bit (T.seat e == w.number)) ws) es
      → length es ≤ total (λ (w : Worker E). length (entries_of T.seat w.number es)) ws
  entries_hold ws [] some = omega arith
  entries_hold ws (e ∷ es) some = omega (
    arith,
    some.0,
    entries_hold ws es some.1,
    total-both (λ w. bit (T.seat e == w.number)) (λ w. length (entries_of T.seat w.number es)) (λ w. length (entries_of T.seat w.number (e ∷ es))) (λ w. entries-more w.number e es) ws,
  )

  none_of : (ws : List (Worker E)) (c p : ℕ) → c ≡ p → AllByRecursion (λ (v : Worker E). v.cpu ≢ p) ws → total (λ (w : Worker E). bit (c == w.cpu)) ws ≡ 0
  none_of [] c p is other = refl
  none_of (w ∷ ws) c p is other = omega (arith, none-of c w.cpu (λ same. other.0 (sym same ∙ is)), none_of ws c p is other.1)

  once : (ws : List (Worker E)) (c : ℕ) → AreApart ws → total (λ (w : Worker E). bit (c == w.cpu)) ws ≤ 1
  once [] c apart = omega arith
  once (w ∷ ws) c apart = dite (ℕ_discrete c w.cpu)
      (λ is. omega (arith, one c w.cpu is, none_of ws c w.cpu is apart.0))
      (λ ne. omega (arith, none-of c w.cpu ne, once ws c apart.1))

  no_lines : (ws : List (Worker E)) → total (λ (w : Worker E). length (own T w.cpu [])) ws ≡ 0
  no_lines [] = refl
  no_lines (w ∷ ws) = omega (arith, no_lines ws)

  -- no request is of two workers
  lines_hold : (ws : List (Worker E)) → AreApart ws → (asked : List Q) → total (λ (w : Worker E). length (own T w.cpu asked)) ws ≤ length asked
  lines_hold ws apart [] = omega (arith, no_lines ws)
  lines_hold ws apart (q ∷ qs) = omega (
    arith,
    once ws (T.cpu q) apart,
    lines_hold ws apart qs,
    total-both (λ w. bit (T.cpu q == w.cpu)) (λ w. length (own T w.cpu qs)) (λ w. length (own T w.cpu (q ∷ qs))) (λ w. own-more w.cpu q qs) ws,
  )

  -- # As many entries as requests

  requests_long : (es : List E) → length (requests T es) ≡ length es
  requests_long es = length-map es T.request

  begins_le : (es : List E) (qs : List Q) → Begins qs (requests T es) → length es ≤ length qs
  begins_le es qs b = omega (arith, requests_long es, ap (length {A = Q}) b.1, length-append (requests T es) b.0)

  begins_all : (es : List E) (qs : List Q) → Begins qs (requests T es) → length es ≡ length qs → requests T es ≡ qs
  begins_all es qs b same =
      let none_left : length b.0 ≡ 0 = omega (arith, same, requests_long es, ap (length {A = Q}) b.1, length-append (requests T es) b.0) in
      sym (b.1 ∙ ap (λ l. requests T es ++ l) (nothing b.0 none_left) ∙ append-nil (requests T es))
    where
      nothing : (l : List Q) → length l ≡ 0 → l ≡ []
      nothing [] e = refl
      nothing (q ∷ qs) e = absurd (omega arith)

  module _ (asked : List Q) (es : List E) where
    abbrev pub Begun : Worker E → Type 0
    Begun w = Begins (own T w.cpu asked) (requests T (entries_of T.seat w.number es))

    each_le : (ws : List (Worker E)) → AllByRecursion Begun ws → AllByRecursion (λ (w : Worker E). length (entries_of T.seat w.number es) ≤ length (own T w.cpu asked)) ws
    each_le [] begun = tt
    each_le (w ∷ ws) begun = (begins_le (entries_of T.seat w.number es) (own T w.cpu asked) begun.0, each_le ws begun.1)

    each_all : (ws : List (Worker E)) → AllByRecursion Begun ws → AllByRecursion (λ (w : Worker E). length (entries_of T.seat w.number es) ≡ length (own T w.cpu asked)) ws
        → AllByRecursion (λ (w : Worker E). requests T (entries_of T.seat w.number es) ≡ own T w.cpu asked) ws
    each_all [] begun same = tt
    each_all (w ∷ ws) begun same = (begins_all (entries_of T.seat w.number es) (own T w.cpu asked) begun.0 same.0, each_all ws begun.1 same.1)

    pub all_made : (ws : List (Worker E)) → AreApart ws → AllByRecursion Begun ws → AllByRecursion (λ e. 1 ≤ total (λ (w : Worker E). bit (T.seat e == w.number)) ws) es → length asked ≤ length es
        → AllByRecursion (λ (w : Worker E). requests T (entries_of T.seat w.number es) ≡ own T w.cpu asked) ws
    all_made ws apart begun some full =
        let no_less : total (λ (w : Worker E). length (own T w.cpu asked)) ws ≤ total (λ (w : Worker E). length (entries_of T.seat w.number es)) ws =
        omega (arith, full, entries_hold ws es some, lines_hold ws apart asked) in
        each_all ws begun (each_same (λ w. length (entries_of T.seat w.number es)) (λ w. length (own T w.cpu asked)) ws (each_le ws begun) no_less)
