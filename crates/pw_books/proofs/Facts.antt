-- What the invariant tells of two views, of numbers and of who is alone.
use Rattle.std.proofs.Common.{◌≡◌, ◌≢◌, ℕ, ◌<◌, List, true, ap, arith}
use mathlib.Core.Option.{some}
use mathlib.Core.Logic.{dite}
use native.Mathlib.Decide.{ℕ_discrete, dec_le}
use lib.ListN.{get_elem?}
use Rattle.pw_books.specs.declared.view.View.{View}
use Rattle.pw_books.specs.Books.{count_in}
use Rattle.pw_books.specs.Machine.{Machine, Invariant}
use Rattle.pw_books.specs.Sums.{bit}
use Rattle.pw_books.proofs.Lists.{term_le, terms_le, bit_one, once_le, once_no}

module _ {E : Type 0} (seat_of : E → ℕ) (Good : List E → Type 0) (m : Machine E) (i : Invariant seat_of Good m) where
  -- a view that has the turn is live
  pub live_holds : (j : ℕ) (v : View E) → get_elem? m.views j ≡ some v → v.holds ≡ true → 0 < v.parts
  live_holds j v at h = dite (ℕ_discrete v.parts 0) (λ z. absurd (omega (arith, bit_one v.holds h, ap (λ (u : View E). bit u.holds) ((i.fits j v at).spent z)))) (λ nz. omega arith)

  -- while a view has the mark no other is live
  pub other_unmarked : (j k : ℕ) (v u : View E) → k ≢ j → get_elem? m.views j ≡ some v → get_elem? m.views k ≡ some u → 0 < v.parts
      → u.mark ≡ true → ⊥
  other_unmarked j k v u ne at there live mark = omega (arith, (i.opens k u there mark).all, i.parts, terms_le (λ (x : View E). x.parts) m.views j k v u ne at there)

  pub number_below : (j : ℕ) (v : View E) → get_elem? m.views j ≡ some v → (n : ℕ) → 0 < count_in n v.book → n < m.made
  number_below j v at n h = dite (dec_le m.made n) (λ le. absurd (omega (arith, once_no n m.made le, i.numbers.books n, term_le (λ u. count_in n u.book) m.views j v at))) (λ nle. omega arith)

  -- no two books have one number
  pub other_count : (j k : ℕ) (v u : View E) → k ≢ j → get_elem? m.views j ≡ some v → get_elem? m.views k ≡ some u → (n : ℕ)
      → 0 < count_in n v.book → count_in n u.book ≡ 0
  other_count j k v u ne at there n h = omega (arith, once_le n m.made, i.numbers.books n, terms_le (λ x. count_in n x.book) m.views j k v u ne at there)
