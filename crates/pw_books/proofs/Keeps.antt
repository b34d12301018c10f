-- Each kind of step keeps the invariant, and the opened machine has it.
use Rattle.std.proofs.Common.{◌≡◌, ℕ, zero, suc, List, [], ◌∷◌, sym, refl, subst, arith}
use mathlib.Core.Option.{some, some-injective, some-ne-none}
use mathlib.Core.Logic.{dite}
use native.Mathlib.Decide.{ℕ_discrete}
use lib.ListN.{get_elem?}
use Rattle.pw_books.specs.declared.view.View.{View}
use Rattle.pw_books.specs.Machine.{Fits, IsOpening, Invariant, holds, seat_number}
use Rattle.pw_books.specs.Steps.{take_turn, find_held, slot_out, slot_back, release_with_entry, release_without_entry, draw_number, miss_draw, split_seat, join_seats, read_made}
use Rattle.pw_books.specs.Law.{desk, first_view, opened, StepKeeps, TurnLaw}
use Rattle.pw_books.proofs.Lists.{one, none-of, once_yes, once_no}
use Rattle.pw_books.proofs.Running.{lasts}
use Rattle.pw_books.proofs.Turns.{as_named}
use Rattle.pw_books.proofs.Turning.{keeps_take, keeps_find, keeps_slot_out, keeps_slot_back, keeps_let_go, keeps_enter}
use Rattle.pw_books.proofs.DeskSeats.{keeps_draw, keeps_miss, keeps_split, keeps_join, keeps_read}

module _ {E : Type 0} (seat_of : E → ℕ) (Good : List E → Type 0) where
  -- each kind of step keeps the invariant
  pub step_keeps : StepKeeps seat_of Good
  step_keeps m j v (take_turn count) i at may = keeps_take seat_of Good m i j v at count may
  step_keeps m j v find_held i at may = keeps_find seat_of Good m i j v at may
  step_keeps m j v slot_out i at may = keeps_slot_out seat_of Good m i j v at may
  step_keeps m j v slot_back i at may = keeps_slot_back seat_of Good m i j v at may
  step_keeps m j v (release_with_entry e count) i at may = keeps_enter seat_of Good m i j v at e count may
  step_keeps m j v (release_without_entry count) i at may = keeps_let_go seat_of Good m i j v at count may
  step_keeps m j v draw_number i at may = keeps_draw seat_of Good m i j v at may
  step_keeps m j v miss_draw i at may = keeps_miss seat_of Good m i j v at may
  step_keeps m j v (split_seat n parts) i at may = keeps_split seat_of Good m i j v at n parts may
  step_keeps m j v (join_seats k w) i at may = keeps_join seat_of Good m i j v at k w may
  step_keeps m j v read_made i at may = keeps_read seat_of Good m i j v at may

  -- # The opened machine

  first_fits : Fits seat_of [] 1 first_view
  first_fits = record {
    reads = record { begins = ([], refl); begins_too = tt; lists = (refl, tt); entries = (refl, tt) };
    own = λ h. refl;
    slot = λ h. refl;
    leader = λ h. refl;
    at_read = omega arith;
    spent = λ z. absurd (omega (arith, z));
  }

  first_alone : (k : ℕ) (u : View E) → get_elem? (first_view ∷ []) k ≡ some u → (k ≡ 0) × (first_view ≡ u)
  first_alone zero u e = (refl, some-injective first_view u e)
  first_alone (suc k) u e = absurd (some-ne-none u (sym e))

  pub opens : Good [] → Invariant seat_of Good opened
  opens good = record {
    good = good;
    numbers = record {
      books = λ n. dite (ℕ_discrete 0 n)
          (λ e. omega (arith, one 0 n e, once_yes n 1 (omega (arith, e))))
          (λ ne. omega (arith, none-of 0 n ne, once_no n 1 (omega (arith, ne))));
      strangers = λ n h. refl;
      most = omega arith;
    };
    holder = λ n. omega (arith, as_named (seat_number {E = E}) holds n first_view refl);
    opens = λ k u there mark. let s = first_alone k u there in subst (λ k. IsOpening [] k u) (sym s.0) (subst (IsOpening [] 0) s.1 record {
      place = refl;
      number = refl;
      all = refl;
      turn = refl;
      empty = refl;
    });
    parts = refl;
    fits = λ k u there. subst (Fits seat_of [] 1) (first_alone k u there).1 first_fits;
  }

  pub law : TurnLaw seat_of Good
  law steps end good e = lasts (desk seat_of Good) (Invariant seat_of Good) step_keeps opened (opens good) steps end e
