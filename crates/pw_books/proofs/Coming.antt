-- Each history comes about of which each beginning may be and whose seats have numbers, and no other.
use Rattle.std.proofs.Common.{◌≡◌, ◌⊎◌, inl, inr, ⊎_elim, ℕ, ◌<◌, ◌≤◌, ◌==◌, List, [], ◌∷◌, ◌++◌, Bool, true, false, cond, eq-eqb, sym, refl, ap, ◌∙◌, subst, arith, append_assoc, append-nil}
use mathlib.Core.Logic.{dite}
use native.Mathlib.Decide.{dec_le}
use Rattle.std.specs.List.{AllByRecursion}
use Rattle.pw_books.specs.declared.view.View.{View}
use Rattle.pw_books.specs.Books.{Begins, entries_of}
use Rattle.pw_books.specs.Machine.{Machine}
use Rattle.pw_books.specs.Steps.{Kind, release_with_entry, May, after}
use Rattle.pw_books.specs.Law.{Steps, opened}
use Rattle.pw_books.specs.Histories.{ComesAbout, HistoriesComeAbout, MayComeAbout}
use Rattle.pw_books.proofs.Keeps.{law}
use Rattle.pw_books.proofs.Seating.{Path, Seated, entry_made, path_entry, seated_again, splits, then_path}

-- # Beginnings

module _ {E : Type 0} where
  begins_empty : (xs : List E) → Begins [] xs → xs ≡ []
  begins_empty [] b = refl
  begins_empty (x ∷ xs) b = let e = b.1 in absurd (cc)

  -- a beginning of a longer history is one of the history, or all of it
  begins_snoc : (h : List E) (e : E) (xs : List E) → Begins (h ++ e ∷ []) xs → Begins h xs ⊎ (xs ≡ h ++ e ∷ [])
  begins_snoc h e [] b = inl (h, refl)
  begins_snoc [] e (x ∷ xs) b =
      let is = b.1 in let same : e ≡ x = cc in let rest : [] ≡ xs ++ b.0 = cc in
      inr (ap (λ y. y ∷ xs) (sym same) ∙ ap (λ l. e ∷ l) (begins_empty xs (b.0, rest)))
  begins_snoc (y ∷ h) e (x ∷ xs) b =
      let is = b.1 in let same : y ≡ x = cc in let rest : h ++ e ∷ [] ≡ xs ++ b.0 = cc in
      ⊎_elim
      (λ (f : Begins h xs). inl (f.0, ap (λ l. y ∷ l) f.1 ∙ ap (λ z. z ∷ xs ++ f.0) same))
      (λ (f : xs ≡ h ++ e ∷ []). inr (ap (λ z. z ∷ xs) (sym same) ∙ ap (λ l. y ∷ l) f))
      (begins_snoc h e xs (b.0, rest))

  begins_front : (h rest : List E) → Begins (h ++ rest) h
  begins_front h rest = (rest, refl)

module _ {E : Type 0} (seat_of : E → ℕ) (Good : List E → Type 0) where
  abbrev AllGood : List E → Type 0
  AllGood h = (es : List E) → Begins h es → Good es

  all_more : (h : List E) (e : E) → AllGood h → Good (h ++ e ∷ []) → AllGood (h ++ e ∷ [])
  all_more h e a good es b = ⊎_elim (λ (f : Begins h es). a es f) (λ (f : es ≡ h ++ e ∷ []). subst Good (sym f) good) (begins_snoc h e es b)

  -- # What comes about may

  step_good : (m : Machine E) (j : ℕ) (v : View E) (k : Kind E) → May seat_of Good m j v k → AllGood m.history
      → AllGood (after seat_of m j v k).history
  step_good m j v (release_with_entry e count) may a = all_more m.history e a may.good
  step_good m j v k may a = a

  steps_good : (m : Machine E) (steps : List (ℕ × View E × Kind E)) (end : Machine E) → Steps seat_of Good m steps end → AllGood m.history
      → AllGood end.history
  steps_good m [] end e a = subst (λ (x : Machine E). AllGood x.history) e a
  steps_good m (s ∷ ss) end e a = steps_good (after seat_of m s.0 s.1 s.2) ss end e.2 (step_good m s.0 s.1 s.2 e.1 a)

  -- who made no entry of a list is none of its seats
  numbers_below : (made : ℕ) (H : List E) → ((n : ℕ) → made ≤ n → entries_of seat_of n H ≡ []) → made ≤ 65536
      → AllByRecursion (λ e. seat_of e < 65536) H
  numbers_below made [] none most = tt
  numbers_below made (e ∷ es) none most = (
    dite (dec_le made (seat_of e))
        (λ le. absurd (let z = none (seat_of e) le in let is : entries_of seat_of (seat_of e) (e ∷ es) ≡ e ∷ entries_of seat_of (seat_of e) es = ap
        (λ b. cond b (e ∷ entries_of seat_of (seat_of e) es) (entries_of seat_of (seat_of e) es)) (eq-eqb (seat_of e) (seat_of e) refl) in cc))
        (λ lt. omega (arith, lt, most)),
    numbers_below made es (λ n le. tail n (seat_of e == n) (none n le)) most,
  )
    where
      tail : (n : ℕ) (b : Bool) → cond b (e ∷ entries_of seat_of n es) (entries_of seat_of n es) ≡ [] → entries_of seat_of n es ≡ []
      tail n true z = cc
      tail n false z = z

  came : Good [] → (history : List E) → ComesAbout seat_of Good history → MayComeAbout seat_of Good history
  came good history c =
      let i = law seat_of Good c.steps c.end good c.allowed in
      record {
        beginnings = subst AllGood c.ends (steps_good opened c.steps c.end c.allowed (λ es b. subst Good (sym (begins_empty es b)) good));
        numbers = subst (AllByRecursion (λ e. seat_of e < 65536)) c.ends (numbers_below c.end.made c.end.history i.numbers.strangers i.numbers.most);
      }

  -- # What may comes about

  record Grows (m : Machine E) (todo : List E) : Type 0 where
    end : Machine E
    path : Path seat_of Good m end
    history : end.history ≡ m.history ++ todo

  grows : (todo : List E) (n : ℕ) (m : Machine E) → Seated seat_of Good n m → AllGood (m.history ++ todo)
      → AllByRecursion (λ e. seat_of e ≤ n) todo → Grows m todo
  grows [] n m s a low = record { end = m; path = ([], refl); history = sym (append-nil m.history) }
  grows (e ∷ es) n m s a low =
      let split : (m.history ++ e ∷ []) ++ es ≡ m.history ++ e ∷ es = append_assoc m.history (e ∷ []) es in
      let good : Good (m.history ++ e ∷ []) = a (m.history ++ e ∷ []) (subst (λ l. Begins l (m.history ++ e ∷ [])) split (begins_front (m.history ++ e ∷ []) es)) in
      let next = entry_made seat_of Good n m s (seat_of e) low.0 e refl good in
      let g = grows es n next (seated_again seat_of Good n m s (seat_of e) low.0 e refl good) (subst AllGood (sym split) a) low.1 in
      record { end = g.end; path = then_path seat_of Good m next g.end (path_entry seat_of Good n m s (seat_of e) low.0 e refl good) g.path; history = g.history ∙ split }

  below_all : (H : List E) → AllByRecursion (λ e. seat_of e < 65536) H → AllByRecursion (λ e. seat_of e ≤ 65535) H
  below_all [] a = tt
  below_all (e ∷ es) a = (let lt = a.0 in omega (arith, lt), below_all es a.1)

  comes : Good [] → (history : List E) → MayComeAbout seat_of Good history → ComesAbout seat_of Good history
  comes good history may =
      let s = splits seat_of Good good 65535 (omega arith) in
      let same : s.end.history ++ history ≡ history = ap (λ h. h ++ history) s.history in
      let g = grows history 65535 s.end s.seated (subst AllGood (sym same) may.beginnings) (below_all history may.numbers) in
      let p = then_path seat_of Good opened s.end g.end s.path g.path in
      record { steps = p.0; end = g.end; allowed = p.1; ends = g.history ∙ same }

  pub histories_come_about : HistoriesComeAbout seat_of Good
  histories_come_about good history = (came good history, comes good history)
