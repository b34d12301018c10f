-- How each step of the desk's machine changes the views.
use Rattle.std.proofs.Common.{◌≡◌, ℕ, List, false, inl, inr, refl}
use Rattle.pw_cppc.specs.declared.entry.CppcEntry.{CppcEntry}
use Rattle.pw_books.specs.declared.view.View.{View}
use Rattle.pw_books.specs.Machine.{Machine, spent_view}
use Rattle.pw_books.specs.Steps.{Kind, after}
use Rattle.pw_books.specs.Steps.{split_seat, join_seats, left_of, right_of, joined}
use Rattle.pw_books.specs.Law.{desk}
use Rattle.pw_books.proofs.Running.{Changes, Grows, never_narrow}
use Rattle.pw_cppc_desk.specs.Slots.{seat_of}

-- it hasn't the turn
abbrev pub HasNone : View CppcEntry → Type 0
HasNone v = v.holds ≡ false

pub changes : (m : Machine CppcEntry) (j : ℕ) (v : View CppcEntry) (k : Kind CppcEntry) → Changes HasNone m.views j (after seat_of m j v k).views
changes m j v (split_seat n parts) = inr (inl (left_of n parts v, right_of n parts v, refl, refl))
changes m j v (join_seats k w) = inr (inr (joined v w, spent_view, k, refl, refl))
changes m j v k = inl (_, refl)

pub grows : (Good : List CppcEntry → Type 0) → Grows (desk seat_of Good)
grows Good m j v k = never_narrow HasNone m.views j (after seat_of m j v k).views (changes m j v k)
