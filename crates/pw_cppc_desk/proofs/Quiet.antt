-- A seat finds no turn held while no other seat took a step, and each step is in a seat's keeping.
use Rattle.std.proofs.Common.{◌≡◌, ◌≢◌, ℕ, zero, suc, ◌<◌, List, sym, refl, ap, ◌∙◌, arith}
use mathlib.Core.Option.{some, some-injective, some-ne-none}
use lib.ListN.{get_elem?}
use Rattle.pw_regs.specs.declared.registers.Registers.{Ghosts as Registers}
use Rattle.pw_cppc.specs.declared.entry.CppcEntry.{CppcEntry}
use Rattle.pw_books.specs.declared.view.View.{View}
use Rattle.pw_books.specs.Machine.{Invariant, Machine, holds, seat_number}
use Rattle.pw_books.specs.Law.{first_view, opened}
use Rattle.pw_books.specs.Told.{MeetsOther}
use Rattle.pw_books.specs.Steps.{Kind, May, after, take_turn, find_held}
use Rattle.pw_books.specs.Books.{count_in}
use Rattle.pw_books.proofs.Lists.{bit_zero}
use Rattle.pw_books.proofs.Keeps.{opens, step_keeps}
use Rattle.pw_books.proofs.Told.{is_told}
use Rattle.pw_books.proofs.Turns.{holder}
use Rattle.pw_cppc_desk.specs.Slots.{MayBe, seat_of}
use Rattle.pw_cppc_desk.specs.Rule.{given_of, showing}
use Rattle.pw_cppc_desk.specs.Runs.{IsFind, QuietAreNotMet, StepsAreKept}
use Rattle.pw_cppc_desk.specs.Tracks.{own_kind}
use Rattle.pw_books.proofs.Finding.{none_found}
use Rattle.pw_books.proofs.Ruled.{all_kept}
use Rattle.pw_books.proofs.Running.{others_such}
use Rattle.pw_cppc_desk.proofs.Running.{HasNone, changes, grows}
use Rattle.pw_cppc_desk.proofs.Shown.{good_first}

-- no other seat has the turn
abbrev OthersHoldNone : Machine CppcEntry → ℕ → Type 0
OthersHoldNone m j = (i : ℕ) (u : View CppcEntry) → i ≢ j → get_elem? m.views i ≡ some u → HasNone u

module _ (Good : List CppcEntry → Type 0) (m : Machine CppcEntry) (inv : Invariant seat_of Good m) (j : ℕ) (v : View CppcEntry) (at : get_elem? m.views j ≡ some v)
    (none : OthersHoldNone m j) where
  -- who has the turn is another seat
  other_holds : (n : ℕ) → MeetsOther v n → (k : ℕ) (u : View CppcEntry) → get_elem? m.views k ≡ some u → n ≡ u.number → 0 < v.parts → k ≢ j
  other_holds n other k u there is live same =
      let one : u ≡ v = some-injective u v (sym there ∙ (ap (λ k. get_elem? m.views k) same ∙ at)) in
      let own = (inv.fits j v at).own live in
      omega (arith, own, other.stranger, ap (λ n. count_in n v.book) (is ∙ ap (λ (u : View CppcEntry). u.number) one))

  not_find : (k : Kind CppcEntry) → May seat_of Good m j v k → IsFind k → ⊥
  not_find find_held may f =
      let h = holder seat_number m.turn holds m.views inv.holder may.1 in
      let other = (is_told seat_of Good m inv j v at).met may in
      let far = other_holds _ other h.0 h.1 h.2 (omega (arith, h.4)) may.0.live in
      omega (arith, h.3, bit_zero h.1.holds (none h.0 h.1 far h.2))
  not_find k may f = f

own_find : (k : Kind CppcEntry) → IsFind (own_kind k) → IsFind k
own_find (take_turn count) f = f
own_find k f = f

-- the machine has its invariant, and no seat but this one has the turn
abbrev Quiet : (List CppcEntry → Type 0) → Machine CppcEntry → ℕ → Type 0
Quiet Good m j = Invariant seat_of Good m × OthersHoldNone m j

start_holds : OthersHoldNone opened 0
start_holds zero u ne there = absurd (ne refl)
start_holds (suc i) u ne there = absurd (some-ne-none u (sym there))

module _ {R : Type 0} (by : Registers R) where
  pub quiet_are_not_met : QuietAreNotMet by
  quiet_are_not_met key s o j t at live others =
      let Good = MayBe (given_of by key) in
      none_found (showing by key) IsFind own_find (Quiet Good) (λ m j v k q at may. not_find Good m q.0 j v at q.1 k may)
      (λ m j v k q at may. (step_keeps seat_of Good m j v k q.0 at may, others_such HasNone m.views j (after seat_of m j v k).views (changes m j v k) q.1))
      opened first_view refl (opens seat_of Good (good_first by key), start_holds) (grows Good) s.words s.homes s.views o j t at live others

  pub steps_are_kept : StepsAreKept by
  steps_are_kept key s o = all_kept (showing by key) (grows (MayBe (given_of by key))) opened s.words s.homes s.views o
