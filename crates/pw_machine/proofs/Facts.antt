-- What the invariant tells of two views, of numbers and of who is alone.
use Rattle.std.proofs.Common.{◌≡◌, ◌≢◌, ℕ, ◌<◌, true, ap, arith}
use mathlib.Core.Option.{some}
use mathlib.Core.Logic.{dite}
use native.Mathlib.Decide.{ℕ_discrete, dec_le}
use lib.ListN.{get_elem?}
use Rattle.pw_model.specs.States.{IsState}
use Rattle.pw_machine.proofs.Plans.{legal_state}
use Rattle.pw_machine.specs.declared.view.View.{View}
use Rattle.pw_books.specs.Books.{count_in}
use Rattle.pw_machine.specs.Machine.{Machine, now, count_held, Invariant}
use Rattle.pw_books.specs.Sums.{bit}
use Rattle.pw_books.proofs.Lists.{term_le, terms_le, bit_one, once_le, once_no}

module _ (m : Machine) (i : Invariant m) where
  -- the state of the history is one of the plan
  pub is_state : IsState m.given.plan (now m)
  is_state = legal_state m.given.plan m.history i.history.legal

  -- a view that has a number, a turn or the mark is live
  pub live_book : (j : ℕ) (v : View) → get_elem? m.views j ≡ some v → (n : ℕ) → 0 < count_in n v.book → 0 < v.parts
  live_book j v at n h = dite (ℕ_discrete v.parts 0) (λ z. absurd (omega (arith, h, ap (λ (u : View). count_in n u.book) ((i.fits j v at).spent z)))) (λ nz. omega arith)

  pub live_held : (j : ℕ) (v : View) → get_elem? m.views j ≡ some v → (t : ℕ) → 0 < count_held t v.held → 0 < v.parts
  live_held j v at t h = dite (ℕ_discrete v.parts 0) (λ z. absurd (omega (arith, h, ap (λ (u : View). count_held t u.held) ((i.fits j v at).spent z)))) (λ nz. omega arith)

  pub live_leads : (j : ℕ) (v : View) → get_elem? m.views j ≡ some v → v.leads ≡ true → 0 < v.parts
  live_leads j v at h = dite (ℕ_discrete v.parts 0) (λ z. absurd (omega (arith, bit_one v.leads h, ap (λ (u : View). bit u.leads) ((i.fits j v at).spent z)))) (λ nz. omega arith)

  pub live_marked : (j : ℕ) (v : View) → get_elem? m.views j ≡ some v → v.mark ≡ true → 0 < v.parts
  live_marked j v at h = omega (arith, (i.opens j v at h).all)

  -- while a view has the mark no other is live
  pub other_unmarked : (j k : ℕ) (v u : View) → k ≢ j → get_elem? m.views j ≡ some v → get_elem? m.views k ≡ some u → 0 < v.parts
      → u.mark ≡ true → ⊥
  other_unmarked j k v u ne at there live mark = omega (arith, (i.opens k u there mark).all, i.parts, terms_le (λ (x : View). x.parts) m.views j k v u ne at there)

  pub number_below : (j : ℕ) (v : View) → get_elem? m.views j ≡ some v → (n : ℕ) → 0 < count_in n v.book → n < m.made
  number_below j v at n h = dite (dec_le m.made n) (λ le. absurd (omega (arith, once_no n m.made le, i.numbers.books n, term_le (λ u. count_in n u.book) m.views j v at))) (λ nle. omega arith)

  -- no two books have one number
  pub other_count : (j k : ℕ) (v u : View) → k ≢ j → get_elem? m.views j ≡ some v → get_elem? m.views k ≡ some u → (n : ℕ)
      → 0 < count_in n v.book → count_in n u.book ≡ 0
  other_count j k v u ne at there n h = omega (arith, once_le n m.made, i.numbers.books n, terms_le (λ x. count_in n x.book) m.views j k v u ne at there)
