-- Beginnings of histories, and books.
use Rattle.std.proofs.Common.{◌≡◌, ◌≢◌, ℕ, ◌+◌, ◌<◌, List, [], ◌∷◌, ◌++◌, Bool, true, false, Option, Some, None, length, cond, eqb, eq-eqb, ne_eqb, sym, refl, ap, ◌∙◌, subst, arith, append_assoc, append-nil, length-append, max}
use Rattle.std.proofs.Math.Nat.{max-eq_left, max-eq_right, suc-max-suc}
use mathlib.Core.Logic.{dite}
use native.Mathlib.Decide.{ℕ_discrete}
use Rattle.pw_books.specs.declared.calls.Calls.{Calls}
use Rattle.pw_books.specs.Books.{calls_of, Begins, Reads, IsPrefix, longer, entries_of, count_in, list_of, furthest, Knows, grown, without}
use Rattle.pw_books.proofs.Lists.{one, none-of}

module _ {E : Type 0} where
  pub begins_same : (xs : List E) → Begins xs xs
  begins_same xs = ([], sym (append-nil xs))

  pub begins_nil : (xs : List E) → Begins xs []
  begins_nil xs = (xs, refl)

  pub begins_more : (log seen more : List E) → Begins log seen → Begins (log ++ more) seen
  begins_more log seen more b = (b.0 ++ more, ap (λ l. l ++ more) b.1 ∙ append_assoc seen b.0 more)

  pub begins_later : (log mid seen : List E) → Begins log mid → Begins mid seen → Begins log seen
  begins_later log mid seen later first = (first.0 ++ later.0, later.1 ∙ ap (λ l. l ++ later.0) first.1 ∙ append_assoc seen first.0 later.0)

  begins_cons : (x : E) (log seen : List E) → Begins log seen → Begins (x ∷ log) (x ∷ seen)
  begins_cons x log seen b = (b.0, ap (λ l. x ∷ l) b.1)

  -- the longer of two beginnings of a list begins it, and both begin it
  pub longer_both : (log xs ys : List E) → Begins log xs → Begins log ys
      → Begins log (longer xs ys) × Begins (longer xs ys) xs × Begins (longer xs ys) ys
  longer_both log [] ys a b = (b, begins_nil ys, begins_same ys)
  longer_both log (x ∷ xs) [] a b = (a, begins_same (x ∷ xs), begins_nil (x ∷ xs))
  longer_both [] (x ∷ xs) (y ∷ ys) a b = let e = a.1 in absurd (cc)
  longer_both (l ∷ ls) (x ∷ xs) (y ∷ ys) a b =
      let e = a.1 in let f = b.1 in
      let lx : l ≡ x = cc in let ly : l ≡ y = cc in let xy : y ≡ x = cc in
      let ea : ls ≡ xs ++ a.0 = cc in let eb : ls ≡ ys ++ b.0 = cc in
      let t = longer_both ls xs ys (a.0, ea) (b.0, eb) in (
        subst (λ (z : E). Begins (z ∷ ls) (y ∷ longer xs ys)) (sym ly) (begins_cons y ls (longer xs ys) t.0),
        subst (λ (z : E). Begins (y ∷ longer xs ys) (z ∷ xs)) xy (begins_cons y (longer xs ys) xs t.1),
        begins_cons y (longer xs ys) ys t.2,
      )

  pub nil_of : (xs : List E) → length xs ≡ 0 → xs ≡ []
  nil_of [] e = refl
  nil_of (x ∷ xs) e = absurd (omega arith)

  -- nothing was added
  pub none_added : (xs ys : List E) → xs ≡ xs ++ ys → ys ≡ []
  none_added xs ys same = nil_of ys (omega (arith, ap (length {A = E}) same, length-append xs ys))

  pub length_longer : (xs ys : List E) → length (longer xs ys) ≡ max (length xs) (length ys)
  length_longer [] ys = sym (max-eq_right (omega arith))
  length_longer (x ∷ xs) [] = sym (max-eq_left (omega arith))
  length_longer (x ∷ xs) (y ∷ ys) = omega (arith, length_longer xs ys, suc-max-suc (length xs) (length ys))

  -- a number that isn't there isn't taken away
  pub without_none : (n : ℕ) (book : List (Calls E)) → count_in n book ≡ 0 → without n book ≡ book
  without_none n [] e = refl
  without_none n (c ∷ cs) e = go (eqb c.seat n) e (without_none n cs (omega (arith, e)))
    where
      go : (b : Bool) → cond b 1 0 + count_in n cs ≡ 0 → without n cs ≡ cs → cond b (without n cs) (c ∷ without n cs) ≡ c ∷ cs
      go true e r = absurd (omega (arith, e))
      go false e r = ap (λ l. c ∷ l) r

  -- a list between two equal lists
  squeezed : (a b c : List E) → Begins b a → Begins c b → a ≡ c → a ≡ b
  squeezed a b c p q e =
      let r : length p.0 ≡ 0 = omega (arith, ap (length {A = E}) p.1, ap (length {A = E}) q.1, ap (length {A = E}) e, length-append a p.0, length-append b q.0) in
      sym (p.1 ∙ (ap (λ l. a ++ l) (nil_of p.0 r) ∙ append-nil a))

  pub count-append : (n : ℕ) (xs ys : List (Calls E)) → count_in n (xs ++ ys) ≡ count_in n xs + count_in n ys
  count-append n [] ys = omega arith
  count-append n (c ∷ cs) ys = omega (arith, count-append n cs ys)

  pub count_without : (n k : ℕ) (book : List (Calls E))
      → (n ≡ k → count_in k (without n book) ≡ 0) × (n ≢ k → count_in k (without n book) ≡ count_in k book)
  count_without n k [] = ((λ _. refl), (λ _. refl))
  count_without n k (c ∷ cs) = let t = count_without n k cs in dite (ℕ_discrete c.seat n)
      (λ same. let is = eq-eqb c.seat n same in (
        (λ e. ap (λ b. count_in k (cond b (without n cs) (c ∷ without n cs))) is ∙ t.0 e),
        (λ ne. ap (λ b. count_in k (cond b (without n cs) (c ∷ without n cs))) is ∙ (omega (arith, t.1 ne, none-of c.seat k (λ s. ne (sym same ∙ s))))),
      ))
      (λ other. let is = ne_eqb c.seat n other in (
        (λ e. ap (λ b. count_in k (cond b (without n cs) (c ∷ without n cs))) is ∙ omega (arith, t.0 e, none-of c.seat k (λ s. other (s ∙ sym e)))),
        (λ ne. ap (λ b. count_in k (cond b (without n cs) (c ∷ without n cs))) is ∙ omega (arith, t.1 ne)),
      ))

  -- a number that stands once goes to a book of its own
  pub count_split : (n k : ℕ) (book : List (Calls E)) → count_in n book ≡ 1
      → count_in k (without n book) + count_in k (calls_of {E = E} n [] ∷ []) ≡ count_in k book
  count_split n k book once = let s = count_without n k book in dite (ℕ_discrete n k)
      (λ e. let own : count_in k book ≡ 1 = subst (λ x. count_in x book ≡ 1) e once in omega (arith, s.0 e, one n k e, own))
      (λ ne. omega (arith, s.1 ne, none-of n k ne))

  -- a list that has seen all is the longer one
  pub longer_whole : (history xs : List E) → Begins history xs → longer xs history ≡ history
  longer_whole history [] b = refl
  longer_whole [] (x ∷ xs) b = let e = b.1 in absurd (cc)
  longer_whole (l ∷ ls) (x ∷ xs) b = let e = b.1 in let rest : ls ≡ xs ++ b.0 = cc in ap (λ t. l ∷ t) (longer_whole ls xs (b.0, rest))

  pub furthest_whole : (history : List E) (told : Option (List E)) → IsPrefix history told
      → furthest told history ≡ history
  furthest_whole history None p = refl
  furthest_whole history (Some told) p = longer_whole history told p

  pub prefix_more : (history more : List E) (told : Option (List E)) → IsPrefix history told
      → IsPrefix (history ++ more) told
  prefix_more history more None p = tt
  prefix_more history more (Some told) p = begins_more history told more p

  pub begins_furthest : (history seen : List E) (told : Option (List E)) → Begins history seen → IsPrefix history told
      → Begins history (furthest told seen)
  begins_furthest history seen None b p = b
  begins_furthest history seen (Some told) b p = (longer_both history told seen p b).0

module _ {E : Type 0} (seat_of : E → ℕ) where
  pub entries_of-append : (n : ℕ) (xs ys : List E) → entries_of seat_of n (xs ++ ys) ≡ entries_of seat_of n xs ++ entries_of seat_of n ys
  entries_of-append n [] ys = refl
  entries_of-append n (x ∷ xs) ys = step (eqb (seat_of x) n) (entries_of-append n xs ys)
    where
      step : (b : Bool) → entries_of seat_of n (xs ++ ys) ≡ entries_of seat_of n xs ++ entries_of seat_of n ys
          → cond b (x ∷ entries_of seat_of n (xs ++ ys)) (entries_of seat_of n (xs ++ ys)) ≡ cond b (x ∷ entries_of seat_of n xs) (entries_of seat_of n xs) ++ entries_of seat_of n ys
      step true e = ap (λ l. x ∷ l) e
      step false e = e

  pub entries_of-other : (n : ℕ) (xs : List E) (e : E) → seat_of e ≢ n → entries_of seat_of n (xs ++ e ∷ []) ≡ entries_of seat_of n xs
  entries_of-other n xs e ne = entries_of-append n xs (e ∷ []) ∙ (ap (λ b. entries_of seat_of n xs ++ cond b (e ∷ []) []) (ne_eqb (seat_of e) n ne) ∙ append-nil (entries_of seat_of n xs))

  pub begins_calls : (n : ℕ) (log seen : List E) → Begins log seen → Begins (entries_of seat_of n log) (entries_of seat_of n seen)
  begins_calls n log seen b = (entries_of seat_of n b.0, ap (entries_of seat_of n) b.1 ∙ entries_of-append n seen b.0)

  pub knows_between : (book : List (Calls E)) (log mid seen : List E) → Begins mid seen → Begins log mid → Knows seat_of book log
      → Knows seat_of book seen → Knows seat_of book mid
  knows_between [] log mid seen p q k s = tt
  knows_between (c ∷ cs) log mid seen p q k s = (
    sym (squeezed (entries_of seat_of c.seat seen) (entries_of seat_of c.seat mid) (entries_of seat_of c.seat log) (begins_calls c.seat mid seen p) (begins_calls c.seat log mid q) (s.0 ∙ sym k.0))
        ∙ s.0,
    knows_between cs log mid seen p q k.1 s.1,
  )

  pub knows_other : (book : List (Calls E)) (log : List E) (e : E) → count_in (seat_of e) book ≡ 0 → Knows seat_of book log
      → Knows seat_of book (log ++ e ∷ [])
  knows_other [] log e z k = tt
  knows_other (c ∷ cs) log e z k =
      let ne : c.seat ≢ seat_of e = λ same. absurd (omega (arith, one c.seat (seat_of e) same)) in
      (entries_of-other c.seat log e (λ s. ne (sym s)) ∙ k.0, knows_other cs log e (omega arith) k.1)

  pub knows_grown : (book : List (Calls E)) (log : List E) (e : E) → Knows seat_of book log → Knows seat_of (grown seat_of book e) (log ++ e ∷ [])
  knows_grown [] log e k = tt
  knows_grown (c ∷ cs) log e k = (entries_of-append c.seat log (e ∷ []) ∙ step (eqb (seat_of e) c.seat), knows_grown cs log e k.1)
    where
      step : (b : Bool) → entries_of seat_of c.seat log ++ cond b (e ∷ []) [] ≡ cond b (c.entries ++ e ∷ []) c.entries
      step true = ap (λ l. l ++ e ∷ []) k.0
      step false = append-nil (entries_of seat_of c.seat log) ∙ k.0

  pub count_grown : (n : ℕ) (book : List (Calls E)) (e : E) → count_in n (grown seat_of book e) ≡ count_in n book
  count_grown n [] e = refl
  count_grown n (c ∷ cs) e = omega (arith, count_grown n cs e)

  pub knows-append : (xs ys : List (Calls E)) (log : List E) → Knows seat_of xs log → Knows seat_of ys log → Knows seat_of (xs ++ ys) log
  knows-append [] ys log k l = l
  knows-append (c ∷ cs) ys log k l = (k.0, knows-append cs ys log k.1 l)

  pub knows_without : (n : ℕ) (book : List (Calls E)) (log : List E) → Knows seat_of book log → Knows seat_of (without n book) log
  knows_without n [] log k = tt
  knows_without n (c ∷ cs) log k = step (eqb c.seat n) (knows_without n cs log k.1)
    where
      step : (b : Bool) → Knows seat_of (without n cs) log → Knows seat_of (cond b (without n cs) (c ∷ without n cs)) log
      step true r = r
      step false r = (k.0, r)

  pub empty_front : (n : ℕ) (log seen : List E) → Begins log seen → entries_of seat_of n log ≡ [] → entries_of seat_of n seen ≡ []
  empty_front n log seen b e = let c = begins_calls n log seen b in nil (entries_of seat_of n seen) c.0 (sym e ∙ c.1)
    where
      nil : (xs ys : List E) → [] ≡ xs ++ ys → xs ≡ []
      nil [] ys e = refl
      nil (x ∷ xs) ys e = absurd (cc)

  -- two lists of which the book knows the same number
  pub known_both : (n : ℕ) (book : List (Calls E)) (a b : List E) → 0 < count_in n book → Knows seat_of book a → Knows seat_of book b
      → entries_of seat_of n a ≡ entries_of seat_of n b
  known_both n [] a b h k l = absurd (omega arith)
  known_both n (c ∷ cs) a b h k l = dite (ℕ_discrete c.seat n)
      (λ e. subst (λ x. entries_of seat_of x a ≡ entries_of seat_of x b) e (k.0 ∙ sym l.0))
      (λ ne. known_both n cs a b (omega (arith, none-of c.seat n ne)) k.1 l.1)

  -- past what has all entries of the book's numbers none is of them
  pub none_since : (history seen : List E) (b : Begins history seen) (book : List (Calls E)) → Knows seat_of book history → Knows seat_of book seen
      → (n : ℕ) → 0 < count_in n book → entries_of seat_of n b.0 ≡ []
  none_since history seen b book knows known n more = none_added (entries_of seat_of n seen) (entries_of seat_of n b.0)
      (sym (known_both n book history seen more knows known) ∙ (ap (entries_of seat_of n) b.1 ∙ entries_of-append n seen b.0))

  -- a beginning that has all entries of each number is the whole
  pub whole_seen : (history seen : List E) → Begins history seen → ((n : ℕ) → entries_of seat_of n history ≡ entries_of seat_of n seen) → seen ≡ history
  whole_seen history seen b same = ended b.0 b.1
    where
      ended : (rest : List E) → history ≡ seen ++ rest → seen ≡ history
      ended [] e = sym (e ∙ append-nil seen)
      ended (x ∷ xs) e =
          let n = seat_of x in
          let c : entries_of seat_of n (x ∷ xs) ≡ x ∷ entries_of seat_of n xs = ap (λ b. cond b (x ∷ entries_of seat_of n xs) (entries_of seat_of n xs)) (eq-eqb n n refl) in
          let l : entries_of seat_of n history ≡ entries_of seat_of n seen ++ entries_of seat_of n (x ∷ xs) = ap (entries_of seat_of n) e ∙ entries_of-append n seen (x ∷ xs) in
          absurd (omega (
            arith,
            ap (length {A = E}) l,
            ap (length {A = E}) (same n),
            ap (length {A = E}) c,
            length-append (entries_of seat_of n seen) (entries_of seat_of n (x ∷ xs)),
          ))

  -- a number's list in the book is that of the history
  pub list_is : (n : ℕ) (book : List (Calls E)) (history : List E) → 0 < count_in n book → Knows seat_of book history
      → entries_of seat_of n history ≡ list_of n book
  list_is n [] history h k = absurd (omega arith)
  list_is n (c ∷ cs) history h k = dite (ℕ_discrete c.seat n)
      (λ e. subst (λ x. entries_of seat_of x history ≡ c.entries) e k.0 ∙ sym (ap (λ b. cond b c.entries (list_of n cs)) (eq-eqb c.seat n e)))
      (λ ne. list_is n cs history (omega (arith, none-of c.seat n ne)) k.1 ∙ sym (ap (λ b. cond b c.entries (list_of n cs)) (ne_eqb c.seat n ne)))

  -- # What a view saw, as the history or the view changes

  -- a view that has seen the whole history
  pub reads_all : (history : List E) (told : Option (List E)) (book : List (Calls E)) → IsPrefix history told
      → Knows seat_of book history → Reads seat_of history history told book
  reads_all history told book p k = record {
    begins = begins_same history;
    begins_too = p;
    lists = k;
    entries = subst (Knows seat_of book) (sym (furthest_whole history told p)) k;
  }

  -- another seat made an entry
  pub reads_other : (history seen : List E) (told : Option (List E)) (book : List (Calls E)) (e : E)
      → count_in (seat_of e) book ≡ 0 → Reads seat_of history seen told book → Reads seat_of (history ++ e ∷ []) seen told book
  reads_other history seen told book e z r = record {
    begins = begins_more history seen (e ∷ []) r.begins;
    begins_too = prefix_more history (e ∷ []) told r.begins_too;
    lists = knows_other book history e z r.lists;
    entries = r.entries;
  }

  -- a number goes, to a new seat where it has no entry
  pub reads_without : (n : ℕ) (history seen : List E) (told : Option (List E)) (book : List (Calls E)) → Reads seat_of history seen told book
      → Reads seat_of history seen told (without n book)
  reads_without n history seen told book r = record {
    begins = r.begins;
    begins_too = r.begins_too;
    lists = knows_without n book history r.lists;
    entries = knows_without n book (furthest told seen) r.entries;
  }

  pub reads_new : (n : ℕ) (history seen : List E) → Begins history seen → entries_of seat_of n history ≡ []
      → Reads seat_of history seen None (calls_of n [] ∷ [])
  reads_new n history seen b e = record { begins = b; begins_too = tt; lists = (e, tt); entries = (empty_front n history seen b e, tt) }

  -- two views are joined that were told nothing since
  pub reads_joined : (history seen second : List E) (told other : Option (List E)) (book more : List (Calls E)) → told ≡ None → other ≡ None
      → Reads seat_of history seen told book → Reads seat_of history second other more → Reads seat_of history seen (Some second) (book ++ more)
  reads_joined history seen second told other book more none none-too r q =
      let known : Knows seat_of book seen = subst (λ o. Knows seat_of book (furthest o seen)) none r.entries in
      let known-too : Knows seat_of more second = subst (λ o. Knows seat_of more (furthest o second)) none-too q.entries in
      let far = longer_both history second seen q.begins r.begins in record {
        begins = r.begins;
        begins_too = q.begins;
        lists = knows-append book more history r.lists q.lists;
        entries = knows-append book more (longer second seen) (knows_between book history (longer second seen) seen far.2 far.0 r.lists known)
            (knows_between more history (longer second seen) second far.1 far.0 q.lists known-too);
      }
