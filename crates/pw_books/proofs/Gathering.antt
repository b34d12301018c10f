-- Workers and their books, one after the other.
use Rattle.std.proofs.Common.{◌≡◌, ◌≢◌, ◌≤◌, ◌<◌, ◌==◌, ℕ, false, List, [], ◌∷◌, ◌++◌, length, refl, ap, sym, arith, ne_eqb, inl, inr}
use Rattle.std.specs.List.{AllByRecursion}
use mathlib.Core.Logic.{dite}
use native.Mathlib.Decide.{dec_lt}
use Rattle.pw_books.specs.declared.calls.Calls.{Calls}
use Rattle.pw_books.specs.Books.{count_in, entries_of}
use Rattle.pw_books.specs.Asked.{Telling, own}
use Rattle.pw_books.specs.Workers.{AreApart, Ended, HasWorker, Worked, Worker, joined_down, joined_up}
use Rattle.pw_books.proofs.Joins.{each_map, each_own}

pub each_append : {X : Type 0} (S : X → Type 0) (xs ys : List X) → AllByRecursion S xs → AllByRecursion S ys → AllByRecursion S (xs ++ ys)
each_append S [] ys a b = b
each_append S (x ∷ xs) ys a b = (a.0, each_append S xs ys a.1 b)

pub each_last : {X : Type 0} (S : X → Type 0) (xs : List X) (y : X) → AllByRecursion S (xs ++ y ∷ []) → S y
each_last S [] y all = all.0
each_last S (x ∷ xs) y all = each_last S xs y all.1

module _ {E : Type 0} where
  pub apart_more : (ws : List (Worker E)) (w : Worker E) → AreApart ws → AllByRecursion (λ (v : Worker E). v.cpu ≢ w.cpu) ws → AreApart (ws ++ w ∷ [])
  apart_more [] w apart other = (tt, tt)
  apart_more (v ∷ vs) w apart other = (each_append (λ (x : Worker E). x.cpu ≢ v.cpu) vs (w ∷ []) apart.0 ((λ is. other.0 (sym is)), tt), apart_more vs w apart.1 other.1)

  pub has_more : (ws : List (Worker E)) (w : Worker E) (p : ℕ) → HasWorker ws p → HasWorker (ws ++ w ∷ []) p
  has_more [] w p has = absurd has
  has_more (v ∷ vs) w p (inl is) = inl is
  has_more (v ∷ vs) w p (inr later) = inr (has_more vs w p later)

  pub has_last : (ws : List (Worker E)) (w : Worker E) → HasWorker (ws ++ w ∷ []) w.cpu
  has_last [] w = inl refl
  has_last (v ∷ vs) w = inr (has_last vs w)

  pub up_more : (book : List (Calls E)) (ws : List (Worker E)) (w : Worker E) → joined_up book (ws ++ w ∷ []) ≡ joined_up book ws ++ w.book
  up_more book [] w = refl
  up_more book (v ∷ vs) w = up_more (book ++ v.book) vs w

  pub down_more : (book : List (Calls E)) (ws : List (Worker E)) (w : Worker E) → joined_down book (ws ++ w ∷ []) ≡ joined_down (book ++ w.book) ws
  down_more book [] w = refl
  down_more book (v ∷ vs) w = ap (λ b. b ++ v.book) (down_more book vs w)

module _ {E Q : Type 0} (T : Telling E Q) where
  -- no request is of a processor past the count
  pub none_past : (count : ℕ) (asked : List Q) (p : ℕ) → AllByRecursion (λ q. T.cpu q < count) asked → count ≤ p → own T p asked ≡ []
  none_past count [] p has past = refl
  none_past count (q ∷ qs) p has past =
      let lt : T.cpu q < count = has.0 in
      let other : (T.cpu q == p) ≡ false = ne_eqb (T.cpu q) p (λ is. absurd (omega (arith, is, lt, past))) in
      rw other (none_past count qs p has.1 past)

  pub has_all : (count : ℕ) (asked : List Q) (ws : List (Worker E)) → AllByRecursion (λ q. T.cpu q < count) asked → ((p : ℕ) → p < count → own T p asked ≢ [] → HasWorker ws p) → (p : ℕ)
      → own T p asked ≢ [] → HasWorker ws p
  has_all count asked ws has all p some = dite (dec_lt p (count))
      (λ lt. all p lt some)
      (λ ge. absurd (some (none_past count asked p has (omega arith))))

  pub all_ended : (asked : List Q) (ws : List (Worker E)) → AllByRecursion (λ (w : Worker E). Worked T (own T w.cpu asked) w.number w.book w.seen) ws → AllByRecursion (Ended T asked) ws
  all_ended asked ws worked = each_map (λ (w : Worker E). Worked T (own T w.cpu asked) w.number w.book w.seen) (Ended T asked) (λ w is. inl is) ws worked

  pub counted_once : (book : List (Calls E)) (es : List E) → ((n : ℕ) → 0 < length (entries_of T.seat n es) → count_in n book ≡ 1) → AllByRecursion (λ e. count_in (T.seat e) book ≡ 1) es
  counted_once book es once = each_map (λ e. entries_of T.seat (T.seat e) es ≢ []) (λ e. count_in (T.seat e) book ≡ 1) (λ e some. once (T.seat e) (long (entries_of T.seat (T.seat e) es) some)) es
      (each_own T.seat es)
    where
      long : (l : List E) → l ≢ [] → 0 < length l
      long [] some = absurd (some refl)
      long (x ∷ xs) some = omega arith
