-- From what each seat asked to a history of the requests.
use Rattle.std.proofs.Common.{◌≡◌, ◌≢◌, ◌==◌, ℕ, Bool, true, false, cond, List, [], ◌∷◌, ◌++◌, refl, ap, sym, ◌∙◌, subst, eqb-true, eq-eqb, ne_eqb, append-nil}
use Rattle.std.specs.List.{AllByRecursion}
use Rattle.std.proofs.lemmas.Bool.{eqb-false}
use Rattle.pw_books.specs.Books.{Begins, entries_of}
use Rattle.pw_books.specs.Asked.{Faultless, IsRunOf, Telling, cpu_of, own, requests}
use Rattle.pw_books.specs.Seats.{AskedBySeats, IsSeat, SeatsTell, SitAlike}

pub each_first : {X : Type 0} (S : X → Type 0) (xs ys : List X) → AllByRecursion S (xs ++ ys) → AllByRecursion S xs
each_first S [] ys a = tt
each_first S (x ∷ xs) ys a = (a.0, each_first S xs ys a.1)

module _ {E Q : Type 0} (T : Telling E Q) where
  -- # Own requests are of the processor

  own_each : (p : ℕ) (qs : List Q) → AllByRecursion (λ q. T.cpu q ≡ p) (own T p qs)
  own_each p [] = tt
  own_each p (q ∷ qs) = step (T.cpu q == p) refl (own_each p qs)
    where
      step : (b : Bool) → (T.cpu q == p) ≡ b → AllByRecursion (λ q. T.cpu q ≡ p) (own T p qs) → AllByRecursion (λ q. T.cpu q ≡ p) (cond b (q ∷ own T p qs) (own T p qs))
      step true h later = (eqb-true (T.cpu q) p h, later)
      step false h later = later

  -- who asked by this seat asked for p
  by_seat : (n p : ℕ) (es : List E) → AllByRecursion (λ q. T.cpu q ≡ p) (requests T (entries_of T.seat n es)) → AllByRecursion (λ e. T.seat e ≡ n → cpu_of T e ≡ p) es
  by_seat n p [] a = tt
  by_seat n p (e ∷ es) a = step (T.seat e == n) refl a (by_seat n p es)
    where
      step : (b : Bool) → (T.seat e == n) ≡ b → AllByRecursion (λ q. T.cpu q ≡ p) (requests T (cond b (e ∷ entries_of T.seat n es) (entries_of T.seat n es)))
          → (AllByRecursion (λ q. T.cpu q ≡ p) (requests T (entries_of T.seat n es)) → AllByRecursion (λ e. T.seat e ≡ n → cpu_of T e ≡ p) es)
          → (T.seat e ≡ n → cpu_of T e ≡ p) × AllByRecursion (λ e. T.seat e ≡ n → cpu_of T e ≡ p) es
      step true h a later = ((λ is. a.0), later a.1)
      step false h a later = ((λ is. absurd (eqb-false (T.seat e) n h is)), later a)

  module _ (asked : List Q) (seats : ℕ → ℕ) where
    abbrev Keeps : List E → Type 0
    Keeps es = (p : ℕ) → own T p asked ≢ [] → AllByRecursion (λ e. T.seat e ≡ seats p → cpu_of T e ≡ p) es

    -- each entry's seat is that of its processor, which has requests
    record Sits (e : E) : Type 0 where
      seat : T.seat e ≡ seats (cpu_of T e)
      some : own T (cpu_of T e) asked ≢ []

    sits : (es : List E) → AllByRecursion (λ e. IsSeat T asked seats (T.seat e)) es → Keeps es → AllByRecursion Sits es
    sits [] a keeps = tt
    sits (e ∷ es) a keeps =
        let s = a.0 in
        let is : cpu_of T e ≡ s.cpu = (keeps s.cpu s.some).0 s.is in
        (record { seat = s.is ∙ ap seats (sym is); some = subst (λ p. own T p asked ≢ []) (sym is) s.some }, sits es a.1 (λ p some. (keeps p some).1))

    -- so a processor's requests are those by its seat
    own_is : (p : ℕ) (es : List E) → AllByRecursion (λ e. T.seat e ≡ seats p → cpu_of T e ≡ p) es → AllByRecursion Sits es → own T p (requests T es) ≡ requests T (entries_of T.seat (seats p) es)
    own_is p [] a s = refl
    own_is p (e ∷ es) a s = step (T.seat e == seats p) refl (own_is p es a.1 s.1)
      where
        step : (b : Bool) → (T.seat e == seats p) ≡ b → own T p (requests T es) ≡ requests T (entries_of T.seat (seats p) es)
            → own T p (requests T (e ∷ es)) ≡ requests T (cond b (e ∷ entries_of T.seat (seats p) es) (entries_of T.seat (seats p) es))
        step true h later =
            let found : (cpu_of T e == p) ≡ true = eq-eqb (cpu_of T e) p (a.0 (eqb-true (T.seat e) (seats p) h)) in
            rw (found, later) refl
        step false h later =
            let sits = s.0 in
            let other : (cpu_of T e == p) ≡ false = ne_eqb (cpu_of T e) p (λ is. eqb-false (T.seat e) (seats p) h (sits.seat ∙ ap seats is)) in
            rw (other, later) refl

    none_is : (p : ℕ) (es : List E) → own T p asked ≡ [] → AllByRecursion Sits es → own T p (requests T es) ≡ []
    none_is p [] none s = refl
    none_is p (e ∷ es) none s =
        let sits = s.0 in
        let other : (cpu_of T e == p) ≡ false = ne_eqb (cpu_of T e) p (λ is. sits.some (ap (λ k. own T k asked) is ∙ none)) in
        rw other (none_is p es none s.1)

    module _ (es : List E) (by : AskedBySeats T asked seats es) where
      keeps : Keeps es
      keeps p some =
          let b = by.begins p some in
          by_seat (seats p) p es (each_first (λ q. T.cpu q ≡ p) (requests T (entries_of T.seat (seats p) es)) b.0 (subst (AllByRecursion (λ q. T.cpu q ≡ p)) b.1 (own_each p asked)))

      all_sit : AllByRecursion Sits es
      all_sit = sits es by.seated keeps

      begins_of : (p : ℕ) → Begins (own T p asked) (own T p (requests T es))
      begins_of p = step (own T p asked) refl
        where
          step : (l : List Q) → own T p asked ≡ l → Begins (own T p asked) (own T p (requests T es))
          step [] e = ([], e ∙ sym (none_is p es e all_sit) ∙ sym (append-nil (own T p (requests T es))))
          step (q ∷ qs) e =
              let some : own T p asked ≢ [] = λ none. cc in
              subst (λ l. Begins (own T p asked) l) (sym (own_is p es (keeps p some) all_sit)) (by.begins p some)

      whole_of : Faultless T es → (p : ℕ) → own T p (requests T es) ≡ own T p asked
      whole_of faultless p = step (own T p asked) refl
        where
          step : (l : List Q) → own T p asked ≡ l → own T p (requests T es) ≡ own T p asked
          step [] e = none_is p es e all_sit ∙ sym e
          step (q ∷ qs) e =
              let some : own T p asked ≢ [] = λ none. cc in
              own_is p es (keeps p some) all_sit ∙ by.whole faultless p some

      pub asked-run : IsRunOf T asked es
      asked-run = record { begins = begins_of; whole = whole_of }

      -- # Two entries have the same seat exactly where they have the same processor

      against : (e : E) → Sits e → (fs : List E) → AllByRecursion Sits fs → AllByRecursion (λ f. T.seat f ≡ seats (cpu_of T e) → cpu_of T f ≡ cpu_of T e) fs
          → AllByRecursion (SitAlike T.seat (cpu_of T) e) fs
      against e s [] fits k = tt
      against e s (f ∷ fs) fits k =
          let seat = s.seat in
          let other = fits.0.seat in (
            record { same_cpu = λ is. sym (k.0 (sym is ∙ seat)); same_seat = λ is. seat ∙ ap seats is ∙ sym other },
            against e s fs fits.1 k.1,
          )

      each : (fs : List E) → AllByRecursion Sits fs → AllByRecursion (λ e. AllByRecursion (SitAlike T.seat (cpu_of T) e) es) fs
      each [] fits = tt
      each (f ∷ fs) fits = (against f fits.0 es all_sit (keeps (cpu_of T f) fits.0.some), each fs fits.1)

      pub seats-tell : SeatsTell T.seat (cpu_of T) es
      seats-tell = each es all_sit
