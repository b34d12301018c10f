-- One worker, request by request.
use Rattle.std.proofs.Common.{◌≡◌, ◌≢◌, ◌<◌, ◌≤◌, ◌+◌, ℕ, suc, List, [], ◌∷◌, ◌++◌, cond, length, get_or, take, drop, take-suc, refl, ap, sym, ◌∙◌, subst, eq-eqb, append-nil, arith, inl, inr}
use Rattle.std.proofs.lemmas.List.{map-append, take-append-drop}
use Rattle.pw_books.specs.declared.calls.Calls.{Calls}
use Rattle.pw_books.specs.Books.{Begins, calls_of, grown}
use Rattle.pw_books.specs.Asked.{Faultless, Telling, requests}
use Rattle.pw_books.specs.Workers.{Filled, HasAsked, Worked}

module _ {E Q : Type 0} (T : Telling E Q) where
  pub asked_none : (n : ℕ) → HasAsked T [] n (calls_of n [] ∷ [])
  asked_none n = record { entries = []; alone = refl; asked = refl }

  -- an entry of the seat's number is one request more
  asked_more : (made : List Q) (n : ℕ) (book : List (Calls E)) (e : E) → HasAsked T made n book → T.seat e ≡ n → HasAsked T (made ++ T.request e ∷ []) n (grown T.seat book e)
  asked_more made n book e h seat =
      let es = h.entries in
      record {
        entries = es ++ e ∷ [];
        alone = ap (λ b. grown T.seat b e) h.alone ∙ ap (λ b. calls_of n (cond b (es ++ e ∷ []) es) ∷ []) (eq-eqb (T.seat e) n seat);
        asked = map-append T.request es (e ∷ []) ∙ ap (λ l. l ++ T.request e ∷ []) h.asked;
      }

  pub asked_next : (lines : List Q) (k n : ℕ) (book : List (Calls E)) (e : E) (q : Q) → HasAsked T (take k lines) n book → k < length lines → get_or lines k q ≡ T.request e
      → T.seat e ≡ n
      → HasAsked T (take (k + 1) lines) n (grown T.seat book e)
  asked_next lines k n book e q h lt is seat =
      let following : suc k ≡ k + 1 = omega arith in
      let one_more : take k lines ++ T.request e ∷ [] ≡ take (k + 1) lines =
      ap (λ (r : Q). take k lines ++ r ∷ []) (sym is) ∙ sym (take-suc lines k q lt) ∙ ap (λ (i : ℕ). take i lines) following in
      subst (λ l. HasAsked T l n (grown T.seat book e)) one_more (asked_more (take k lines) n book e h seat)

  pub worked_whole : (lines : List Q) (n : ℕ) (book : List (Calls E)) (seen : List E) → HasAsked T lines n book → Worked T lines n book seen
  worked_whole lines n book seen h = record {
    entries = h.entries;
    alone = h.alone;
    begins = ([], sym h.asked ∙ sym (append-nil _));
    whole = inl h.asked;
  }

  first_lines : (lines : List Q) (k n : ℕ) (book : List (Calls E)) → (h : HasAsked T (take k lines) n book) → Begins lines (requests T h.entries)
  first_lines lines k n book h = (drop k lines, sym (take-append-drop k lines) ∙ ap (λ l. l ++ drop k lines) (sym h.asked))

  pub worked_part : (lines : List Q) (k n : ℕ) (book : List (Calls E)) (seen : List E) → HasAsked T (take k lines) n book → (Faultless T seen → ⊥) → Worked T lines n book seen
  worked_part lines k n book seen h fault = record {
    entries = h.entries;
    alone = h.alone;
    begins = first_lines lines k n book h;
    whole = inr fault;
  }

  pub filled_part : (lines : List Q) (room k n : ℕ) (book : List (Calls E)) (seen : List E) → HasAsked T (take k lines) n book → room ≤ length seen → Filled T lines room n book seen
  filled_part lines room k n book seen h full = record { entries = h.entries; alone = h.alone; begins = first_lines lines k n book h; full = omega (arith, full) }

  -- a history that ends with a fault has one
  pub faults : (before : List E) (e : E) → T.fault e ≢ 0 → Faultless T (before ++ e ∷ []) → ⊥
  faults [] e ne none = ne none.0
  faults (f ∷ fs) e ne none = faults fs e ne none.1
