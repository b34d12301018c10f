-- The seat that a seat met is the one that it last found with the turn.
use Rattle.std.proofs.Common.{◌≡◌, ℕ, ◌-◌, List, refl, arith}
use Rattle.std.specs.Prelude.{Option, Some}
use mathlib.Core.Option.{some}
use lib.ListN.{get_elem?}
use Rattle.pw_regs.specs.declared.registers.Registers.{Ghosts as Registers}
use Rattle.pw_cppc.specs.declared.entry.CppcEntry.{CppcEntry}
use Rattle.pw_books.specs.declared.view.View.{View}
use Rattle.pw_books.specs.Machine.{Machine, spent_view}
use Rattle.pw_books.specs.Law.{desk, first_view, opened}
use Rattle.pw_books.specs.Steps.{Kind, May, after, find_held}
use Rattle.pw_books.specs.Steps.{split_seat, join_seats, joined, left_of, met_with, right_of}
use Rattle.pw_books.proofs.Finding.{Finds, comes, finds, found_last, goes, stays}
use Rattle.pw_cppc_desk.specs.Slots.{MayBe, seat_of}
use Rattle.pw_cppc_desk.specs.Rule.{given_of}
use Rattle.pw_cppc_desk.specs.Runs.{FindsHeld, IsFind, MetWasFound, RuleHasInvariant}
use Rattle.pw_cppc_desk.proofs.Shown.{inv_of, view_at}

abbrev met_of : View CppcEntry → Option ℕ
met_of v = v.met

module _ (Good : List CppcEntry → Type 0) (m : Machine CppcEntry) (i j : ℕ) (p : ℕ) where
  one_step : (v : View CppcEntry) (k : Kind CppcEntry) → get_elem? m.views i ≡ some v → May seat_of Good m i v k → (u : View CppcEntry)
      → get_elem? (after seat_of m i v k).views j ≡ some u → u.met ≡ Some p → Finds (desk seat_of Good) IsFind FindsHeld met_of m i k j p
  one_step v find_held at may u there met =
      finds (desk seat_of Good) IsFind FindsHeld met_of m i j p (met_with (m.turn - 1) v) find_held (m.turn - 1) refl
      (λ h e. (let ne = may.1 in omega (arith, ne, e))) u there met
  one_step v (split_seat n parts) at may u there met =
      comes (desk seat_of Good) IsFind FindsHeld met_of m i j p v (left_of n parts v) (right_of n parts v) (split_seat n parts) at refl (λ f. f) refl u there met
  one_step v (join_seats k w) at may u there met =
      goes (desk seat_of Good) IsFind FindsHeld met_of m i j p v (joined v w) spent_view (join_seats k w) k at refl (λ f. f) refl u there met
  one_step v k at may u there met = stays (desk seat_of Good) IsFind FindsHeld met_of m i j p v _ k at refl (λ f. f) u there met

module _ {R : Type 0} (by : Registers R) where
  pub has_invariant : RuleHasInvariant by
  has_invariant key s o = inv_of by key s o

  pub met_was_found : MetWasFound by
  met_was_found key s o j t p at met = found_last (desk seat_of (MayBe (given_of by key))) IsFind FindsHeld met_of (one_step (MayBe (given_of by key)))
      opened first_view refl refl o.run o.machine j t.view p o.ran (view_at by key s o j t at) met
