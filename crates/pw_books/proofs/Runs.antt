-- Histories of the requests: in their order, and asked by seats that tell processors apart.
use Rattle.std.proofs.Common.{◌≡◌, ◌≢◌, ◌==◌, ℕ, Bool, true, false, cond, List, [], ◌∷◌, ◌++◌, refl, ap, sym, ◌∙◌, subst, eqb-true, eq-eqb, ne_eqb}
use Rattle.std.specs.List.{AllByRecursion}
use Rattle.std.proofs.lemmas.Bool.{eqb-false}
use Rattle.std.proofs.lemmas.List.Elements.{filter-append}
use Rattle.pw_books.specs.Books.{Begins, entries_of}
use Rattle.pw_books.specs.Asked.{Faultless, IsRunOf, Telling, cpu_of, own, requests}
use Rattle.pw_books.specs.Seats.{AskedBySeats, IsSeat}
use Rattle.pw_books.proofs.Joins.{each_own}
use Rattle.pw_books.proofs.Workers.{has_lines}

pub serial-run : {E Q : Type 0} (T : Telling E Q) (asked rest : List Q) (es : List E) → asked ≡ requests T es ++ rest → (Faultless T es → requests T es ≡ asked) → IsRunOf T asked es
serial-run T asked rest es is whole = record {
  begins = λ p. (own T p rest, ap (own T p) is ∙ filter-append (λ q. T.cpu q == p) (requests T es) rest);
  whole = λ none p. ap (own T p) (whole none);
}

module _ {E Q : Type 0} (T : Telling E Q) (seats : ℕ → ℕ) (tell : (p r : ℕ) → seats p ≡ seats r → p ≡ r) where
  own_seat : (p : ℕ) (es : List E) → AllByRecursion (λ e. T.seat e ≡ seats (cpu_of T e)) es → own T p (requests T es) ≡ requests T (entries_of T.seat (seats p) es)
  own_seat p [] its = refl
  own_seat p (e ∷ es) its = step (T.seat e == seats p) refl (own_seat p es its.1)
    where
      step : (b : Bool) → (T.seat e == seats p) ≡ b → own T p (requests T es) ≡ requests T (entries_of T.seat (seats p) es)
          → own T p (requests T (e ∷ es)) ≡ requests T (cond b (e ∷ entries_of T.seat (seats p) es) (entries_of T.seat (seats p) es))
      step true h later =
          let found : (cpu_of T e == p) ≡ true = eq-eqb (cpu_of T e) p (tell (cpu_of T e) p (sym its.0 ∙ eqb-true (T.seat e) (seats p) h)) in
          rw (found, later) refl
      step false h later =
          let other : (cpu_of T e == p) ≡ false = ne_eqb (cpu_of T e) p (λ is. eqb-false (T.seat e) (seats p) h (its.0 ∙ ap seats is)) in
          rw (other, later) refl

  module _ (asked : List Q) (es : List E) (its : AllByRecursion (λ e. T.seat e ≡ seats (cpu_of T e)) es) (run : IsRunOf T asked es) where
    begun : (p : ℕ) → Begins (own T p asked) (requests T (entries_of T.seat (seats p) es))
    begun p = subst (λ l. Begins (own T p asked) l) (own_seat p es its) (run.begins p)

    seated : (fs : List E) → AllByRecursion (λ e. T.seat e ≡ seats (cpu_of T e)) fs → AllByRecursion (λ e. entries_of T.seat (T.seat e) es ≢ []) fs
        → AllByRecursion (λ e. IsSeat T asked seats (T.seat e)) fs
    seated [] same some = tt
    seated (e ∷ fs) same some =
        let p = cpu_of T e in
        let lines : own T p asked ≢ [] = has_lines T asked es (seats p) p (subst (λ n. entries_of T.seat n es ≢ []) same.0 some.0) (begun p) in
        (record { cpu = p; some = lines; is = same.0 }, seated fs same.1 some.1)

    pub run-asked : AskedBySeats T asked seats es
    run-asked = record {
      seated = seated es its (each_own T.seat es);
      begins = λ p some. begun p;
      whole = λ none p some. sym (own_seat p es its) ∙ run.whole none p;
    }
