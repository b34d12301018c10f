-- From what each worker did to what each seat asked.
use Rattle.std.proofs.Common.{◌≡◌, ◌≢◌, ◌==◌, ◌<◌, ◌≤◌, ◌⊎◌, ℕ, cond, List, [], ◌∷◌, ◌++◌, length, length-append, refl, ap, sym, ◌∙◌, subst, arith, eq-eqb, ne_eqb, inl, inr}
use Rattle.std.specs.List.{AllByRecursion}
use mathlib.Core.Logic.{dite}
use native.Mathlib.Decide.{dec_lt}
use Rattle.pw_books.specs.declared.calls.Calls.{Calls}
use Rattle.pw_books.specs.Books.{Begins, Knows, calls_of, count_in, entries_of}
use Rattle.pw_books.specs.Sums.{bit, total}
use Rattle.pw_books.proofs.Lists.{one, one-of}
use Rattle.pw_books.specs.Asked.{Faultless, Telling, own, requests}
use Rattle.pw_books.specs.Seats.{AskedBySeats, IsSeat}
use Rattle.pw_books.specs.Workers.{AreApart, Ended, HasWorker, MadeByWorkers, Worker, joined_down, joined_up, seat_of}
use Rattle.pw_books.proofs.Seats.{each_first}
use Rattle.pw_books.proofs.Counting.{Begun, all_made}
use Rattle.pw_books.proofs.Joins.{Joined, down_has, each_map, each_own, silent_none, up_has}

module _ {E : Type 0} where
  -- # Workers of a list

  abbrev IsAmong : Worker E → List (Worker E) → Type 0
  IsAmong v [] = ⊥
  IsAmong v (w ∷ ws) = (v ≡ w) ⊎ IsAmong v ws

  of_each : (T : Worker E → Type 0) (ws : List (Worker E)) (v : Worker E) → AllByRecursion T ws → IsAmong v ws → T v
  of_each T [] v each is = absurd is
  of_each T (w ∷ ws) v each (inl is) = subst T (sym is) each.0
  of_each T (w ∷ ws) v each (inr later) = of_each T ws v each.1 later

  -- the worker of a processor, and one in whose book a number stands
  of_cpu : (ws : List (Worker E)) (p : ℕ) → HasWorker ws p → (w : Worker E) × IsAmong w ws × (w.cpu ≡ p)
  of_cpu [] p has = absurd has
  of_cpu (w ∷ ws) p (inl is) = (w, inl refl, is)
  of_cpu (w ∷ ws) p (inr later) = let r = of_cpu ws p later in (r.0, inr r.1, r.2)

  of_number : (ws : List (Worker E)) (n : ℕ) → 0 < total (λ (w : Worker E). count_in n w.book) ws → (w : Worker E) × IsAmong w ws × (0 < count_in n w.book)
  of_number [] n some = absurd (omega arith)
  of_number (w ∷ ws) n some = dite (dec_lt 0 (count_in n w.book))
      (λ here. (w, inl refl, here))
      (λ not_here. let r = of_number ws n (omega arith) in (r.0, inr r.1, r.2))

  -- where no two have the same processor, its seat is the worker's
  seat_is : (ws : List (Worker E)) → AreApart ws → (v : Worker E) → IsAmong v ws → seat_of ws v.cpu ≡ v.number
  seat_is [] apart v is = absurd is
  seat_is (w ∷ ws) apart v (inl is) = ap (λ b. cond b w.number (seat_of ws v.cpu)) (eq-eqb w.cpu v.cpu (ap (λ (x : Worker E). x.cpu) (sym is))) ∙ ap (λ (x : Worker E). x.number) (sym is)
  seat_is (w ∷ ws) apart v (inr later) =
      let ne : v.cpu ≢ w.cpu = of_each (λ (x : Worker E). x.cpu ≢ w.cpu) ws v apart.0 later in
      ap (λ b. cond b w.number (seat_of ws v.cpu)) (ne_eqb w.cpu v.cpu (λ is. ne (sym is))) ∙ seat_is ws apart.1 v later

  -- and that worker's number is counted
  hits : (ws : List (Worker E)) (v : Worker E) (n : ℕ) → IsAmong v ws → v.number ≡ n → 1 ≤ total (λ (w : Worker E). bit (n == w.number)) ws
  hits [] v n is same = absurd is
  hits (w ∷ ws) v n (inl is) same = omega (arith, one n w.number (sym (ap (λ (x : Worker E). x.number) (sym is) ∙ same)))
  hits (w ∷ ws) v n (inr later) same = omega (arith, hits ws v n later same)

module _ {E Q : Type 0} (T : Telling E Q) where
  module _ (asked : List Q) (es : List E) where
    -- what a worker's seat has in the history
    record Did (w : Worker E) : Type 0 where
      begins : Begins (own T w.cpu asked) (requests T (entries_of T.seat w.number es))
      whole : (requests T (entries_of T.seat w.number es) ≡ own T w.cpu asked) ⊎ ((Faultless T es → ⊥) ⊎ (length asked ≤ length es))
      number : (n : ℕ) → 0 < count_in n w.book → w.number ≡ n

    first_faultless : (seen : List E) → Begins es seen → Faultless T es → Faultless T seen
    first_faultless seen saw none = each_first (λ (e : E). T.fault e ≡ 0) seen saw.0 (subst (Faultless T) saw.1 none)

    first_long : (seen : List E) → Begins es seen → length seen ≤ length es
    first_long seen saw = omega (arith, ap (length {A = E}) saw.1, length-append seen saw.0)

    known : (n : ℕ) (book : List (Calls E)) (entries : List E) → book ≡ calls_of n entries ∷ [] → Knows T.seat book es → entries ≡ entries_of T.seat n es
    known n book entries alone knows = let k : Knows T.seat (calls_of n entries ∷ []) es = subst (λ b. Knows T.seat b es) alone knows in sym k.0

    only : (n : ℕ) (book : List (Calls E)) (entries : List E) → book ≡ calls_of n entries ∷ [] → (m : ℕ) → 0 < count_in m book → n ≡ m
    only n book entries alone m some = let here : 0 < count_in m (calls_of n entries ∷ []) = subst (λ b. 0 < count_in m b) alone some in one-of n m (omega (arith, here))

    did : (w : Worker E) → Ended T asked w → Begins es w.seen → Knows T.seat w.book es → Did w
    did w (inl worked) saw knows =
        let same : requests T worked.entries ≡ requests T (entries_of T.seat w.number es) = ap (requests T) (known w.number w.book worked.entries worked.alone knows) in
        record {
          begins = subst (λ l. Begins (own T w.cpu asked) l) same worked.begins;
          whole = step worked.whole same;
          number = only w.number w.book worked.entries worked.alone;
        }
      where
        step : {made : List Q} → (made ≡ own T w.cpu asked) ⊎ (Faultless T w.seen → ⊥) → made ≡ requests T (entries_of T.seat w.number es)
            → (requests T (entries_of T.seat w.number es) ≡ own T w.cpu asked) ⊎ ((Faultless T es → ⊥) ⊎ (length asked ≤ length es))
        step (inl all) same = inl (sym same ∙ all)
        step (inr fault) same = inr (inl (λ none. fault (first_faultless w.seen saw none)))
    did w (inr filled) saw knows =
        let same : requests T filled.entries ≡ requests T (entries_of T.seat w.number es) = ap (requests T) (known w.number w.book filled.entries filled.alone knows) in
        let full = filled.full in
        record {
          begins = subst (λ l. Begins (own T w.cpu asked) l) same filled.begins;
          whole = inr (inr (omega (arith, full, first_long w.seen saw)));
          number = only w.number w.book filled.entries filled.alone;
        }

    each_did : (ws : List (Worker E)) → AllByRecursion (Ended T asked) ws → AllByRecursion (λ (w : Worker E). Begins es w.seen) ws
        → AllByRecursion (λ (w : Worker E). Knows T.seat w.book es) ws → AllByRecursion Did ws
    each_did [] ended saw knows = tt
    each_did (w ∷ ws) ended saw knows = (did w ended.0 saw.0 knows.0, each_did ws ended.1 saw.1 knows.1)

    -- a seat that has an entry asked a line
    pub has_lines : (n p : ℕ) → entries_of T.seat n es ≢ [] → Begins (own T p asked) (requests T (entries_of T.seat n es)) → own T p asked ≢ []
    has_lines n p some b = λ none. some (step (entries_of T.seat n es) b.0 (sym none ∙ b.1))
      where
        step : (l : List E) (rest : List Q) → [] ≡ requests T l ++ rest → l ≡ []
        step [] rest e = refl
        step (x ∷ xs) rest e = absurd (cc)

    module _ (ws : List (Worker E)) (book : List (Calls E)) (made : MadeByWorkers T asked ws book es) where
      has : Joined T.seat made.joined.first ws book es
      has = step made.joined.joined
        where
          step : (book ≡ joined_up made.joined.first ws) ⊎ (book ≡ joined_down made.joined.first ws) → Joined T.seat made.joined.first ws book es
          step (inl is) = subst (λ b. Joined T.seat made.joined.first ws b es) (sym is) (up_has T.seat made.joined.first ws es (subst (λ b. Knows T.seat b es) is made.knows))
          step (inr is) = subst (λ b. Joined T.seat made.joined.first ws b es) (sym is) (down_has T.seat made.joined.first ws es (subst (λ b. Knows T.seat b es) is made.knows))

      each : AllByRecursion Did ws
      each = each_did ws made.ended made.saw has.knows

      -- an entry's number is a worker's
      whose : (n : ℕ) → entries_of T.seat n es ≢ [] → count_in n book ≡ 1 → (w : Worker E) × IsAmong w ws × (w.number ≡ n)
      whose n some once =
          let stranger : count_in n made.joined.first ≡ 0 = none (count_in n made.joined.first) (λ lt. some (silent_none T.seat n made.joined.first es made.joined.silent has.first_knows lt)) in
          let r = of_number ws n (omega (arith, once, has.count n, stranger)) in
          (r.0, r.1, (of_each Did ws r.0 each r.1).number n r.2)
        where
          none : (k : ℕ) → (0 < k → ⊥) → k ≡ 0
          none k nothing = dite (dec_lt 0 k) (λ lt. absurd (nothing lt)) (λ ge. omega arith)

      sits : (n : ℕ) → entries_of T.seat n es ≢ [] → count_in n book ≡ 1 → IsSeat T asked (seat_of ws) n
      sits n some once =
          let r = whose n some once in
          record {
            cpu = r.0.cpu;
            some = has_lines r.0.number r.0.cpu (subst (λ x. entries_of T.seat x es ≢ []) (sym r.2) some) (of_each Did ws r.0 each r.1).begins;
            is = sym r.2 ∙ sym (seat_is ws made.apart r.0 r.1);
          }

      each_entry : (S : ℕ → Type 0) → ((n : ℕ) → entries_of T.seat n es ≢ [] → count_in n book ≡ 1 → S n) → (fs : List E) → AllByRecursion (λ e. entries_of T.seat (T.seat e) es ≢ []) fs
          → AllByRecursion (λ e. count_in (T.seat e) book ≡ 1) fs → AllByRecursion (λ e. S (T.seat e)) fs
      each_entry S f [] some once = tt
      each_entry S f (e ∷ fs) some once = (f (T.seat e) some.0 once.0, each_entry S f fs some.1 once.1)

      -- a history with an entry for each line has all lines
      all_whole : length asked ≤ length es → AllByRecursion (λ (w : Worker E). requests T (entries_of T.seat w.number es) ≡ own T w.cpu asked) ws
      all_whole full = all_made T asked es ws made.apart (each_map Did (Begun T asked es) (λ w (d : Did w). d.begins) ws each)
          (each_entry (λ n. 1 ≤ total (λ (w : Worker E). bit (n == w.number)) ws) (λ n some once. let r = whose n some once in hits ws r.0 n r.1 r.2) es (each_own T.seat es) made.numbers) full

      its_whole : (w : Worker E) → IsAmong w ws → Faultless T es → requests T (entries_of T.seat w.number es) ≡ own T w.cpu asked
      its_whole w is none = step (of_each Did ws w each is).whole
        where
          step : (requests T (entries_of T.seat w.number es) ≡ own T w.cpu asked) ⊎ ((Faultless T es → ⊥) ⊎ (length asked ≤ length es)) → requests T (entries_of T.seat w.number es) ≡ own T w.cpu asked
          step (inl all) = all
          step (inr (inl fault)) = absurd (fault none)
          step (inr (inr full)) = of_each (λ (v : Worker E). requests T (entries_of T.seat v.number es) ≡ own T v.cpu asked) ws w (all_whole full) is

      -- a processor with lines has a worker, whose seat is its own
      its : (p : ℕ) → own T p asked ≢ [] → (w : Worker E) × IsAmong w ws × (w.cpu ≡ p) × (seat_of ws p ≡ w.number)
      its p some = let r = of_cpu ws p (made.all p some) in (r.0, r.1, r.2, ap (seat_of ws) (sym r.2) ∙ seat_is ws made.apart r.0 r.1)

      pub workers-asked : AskedBySeats T asked (seat_of ws) es
      workers-asked = record {
        seated = each_entry (IsSeat T asked (seat_of ws)) sits es (each_own T.seat es) made.numbers;
        begins = λ p some. let i = its p some in
            subst (λ n. Begins (own T p asked) (requests T (entries_of T.seat n es))) (sym i.3) (subst (λ k. Begins (own T k asked) (requests T (entries_of T.seat i.0.number es))) i.2
            (of_each Did ws i.0 each i.1).begins);
        whole = λ none p some. let i = its p some in
            ap (λ n. requests T (entries_of T.seat n es)) i.3 ∙ its_whole i.0 i.1 none ∙ ap (λ k. own T k asked) i.2;
      }
