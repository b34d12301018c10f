-- Each kind of step keeps the invariant, and the opened machine has it.
use Rattle.std.proofs.Common.{◌≡◌, ℕ, zero, suc, ◌+◌, ◌<◌, ◌≤◌, List, [], ◌∷◌, true, length, get_or, sym, refl, ap, ◌∙◌, subst, arith}
use mathlib.Core.Option.{some, some-injective, some-ne-none}
use mathlib.Core.Logic.{dite}
use native.Mathlib.Decide.{ℕ_discrete, dec_le}
use lib.ListN.{get_elem?}
use Rattle.pw_model.specs.Records.{Part}
use Rattle.pw_model.specs.Records.{record_count}
use Rattle.pw_machine.proofs.Plans.{legal_nil}
use Rattle.pw_machine.specs.declared.view.View.{View}
use Rattle.pw_machine.specs.Machine.{Given, Machine, count_held, holds, leads, Fits, IsOpening, Invariant, seat_number}
use Rattle.pw_books.specs.Sums.{names}
use Rattle.pw_machine.specs.Steps.{Kind, take_record, find_record_held, record_out, record_back, release_record, take_journal, find_journal_held, journal_out, journal_back, release_with_entry, release_without_entry, draw_number, miss_draw, split_seat, join_seats, read_made, May, after}
use Rattle.pw_machine.specs.Law.{all_held, all_turns, first_view, opened, power, TurnLaw}
use Rattle.pw_books.proofs.Running.{lasts}
use Rattle.pw_books.proofs.Lists.{one, none-of, off, once_yes, once_no}
use Rattle.pw_books.proofs.Turns.{as_named}
use Rattle.pw_machine.proofs.Takes.{keeps_take, keeps_lead, keeps_find_record, keeps_find_journal, keeps_record_out, keeps_record_back, keeps_journal_out, keeps_journal_back, keeps_release, keeps_let_go}
use Rattle.pw_machine.proofs.Entries.{keeps_enter}
use Rattle.pw_machine.proofs.Seats.{keeps_draw, keeps_miss, keeps_split, keeps_join, keeps_read}

-- each kind of step keeps the invariant
pub step_keeps : (m : Machine) (j : ℕ) (v : View) (k : Kind) → Invariant m → get_elem? m.views j ≡ some v → May m j v k
    → Invariant (after m j v k)
step_keeps m j v (take_record t q x) i at may = keeps_take m i j v at t q x may
step_keeps m j v (find_record_held t q gives_up) i at may = keeps_find_record m i j v at t q gives_up may
step_keeps m j v (record_out t) i at may = keeps_record_out m i j v at t may
step_keeps m j v (record_back t) i at may = keeps_record_back m i j v at t may
step_keeps m j v (release_record t x) i at may = keeps_release m i j v at t x may
step_keeps m j v (take_journal q) i at may = keeps_lead m i j v at q may
step_keeps m j v (find_journal_held q gives_up) i at may = keeps_find_journal m i j v at q gives_up may
step_keeps m j v journal_out i at may = keeps_journal_out m i j v at may
step_keeps m j v journal_back i at may = keeps_journal_back m i j v at may
step_keeps m j v (release_with_entry e count) i at may = keeps_enter m i j v at e count may
step_keeps m j v (release_without_entry count) i at may = keeps_let_go m i j v at count may
step_keeps m j v draw_number i at may = keeps_draw m i j v at may
step_keeps m j v miss_draw i at may = keeps_miss m i j v at may
step_keeps m j v (split_seat n parts) i at may = keeps_split m i j v at n parts may
step_keeps m j v (join_seats k w) i at may = keeps_join m i j v at k w may
step_keeps m j v read_made i at may = keeps_read m i j v at may

-- # The opened machine

length_all : (xs : List Part) → length (all_turns xs) ≡ length xs
length_all [] = refl
length_all (x ∷ xs) = omega (arith, length_all xs)

turn_all : (xs : List Part) (t : ℕ) → t < length xs → get_or (all_turns xs) t 0 ≡ 1
turn_all [] t low = absurd (omega (arith, low))
turn_all (x ∷ xs) zero low = refl
turn_all (x ∷ xs) (suc t) low = turn_all xs t (omega (arith, low))

held_below : (k t : ℕ) (xs : List Part) → t < k → count_held t (all_held k xs) ≡ 0
held_below k t [] h = refl
held_below k t (x ∷ xs) h = omega (arith, none-of k t (λ e. omega (arith, e, h)), held_below (suc k) t xs (omega (arith, h)))

held_past : (k t : ℕ) (xs : List Part) → k + length xs ≤ t → count_held t (all_held k xs) ≡ 0
held_past k t [] h = refl
held_past k t (x ∷ xs) h = omega (arith, none-of k t (λ e. omega (arith, e, h)), held_past (suc k) t xs (omega (arith, h)))

pub held_all : (k t : ℕ) (xs : List Part) → k ≤ t → t < k + length xs → count_held t (all_held k xs) ≡ 1
held_all k t [] from h = absurd (omega (arith, from, h))
held_all k t (x ∷ xs) from h = dite (ℕ_discrete k t)
    (λ e. omega (arith, one k t e, held_below (suc k) t xs (omega (arith, e))))
    (λ ne. omega (arith, none-of k t ne, held_all (suc k) t xs (omega (arith, from, ne)) (omega (arith, h))))

module _ (given : Given) (values : List Part) (sized : length values ≡ record_count given.plan) where
  first_fits : Fits given.plan [] 1 given.count (first_view values)
  first_fits = record {
    reads = record { begins = ([], refl); begins_too = tt; lists = (refl, tt); entries = (refl, tt) };
    own = λ h. refl;
    serves = λ e. off true e refl;
    holds_records = λ t more. dite (dec_le (length values) t) (λ past. absurd (omega (arith, more, held_past 0 t values (omega (arith, past))))) (λ low. omega (arith, low, sized));
    slots = λ t more. absurd (omega (arith, more));
    leader = λ h. refl;
    found = λ h e. off true e refl;
    notes = record { at_take = tt; at_release = tt; at_read = omega arith };
    spent = λ z. absurd (omega (arith, z));
  }

  first_alone : (k : ℕ) (u : View) → get_elem? (first_view values ∷ []) k ≡ some u → (k ≡ 0) × (first_view values ≡ u)
  first_alone zero u e = (refl, some-injective (first_view values) u e)
  first_alone (suc k) u e = absurd (some-ne-none u (sym e))

  pub opens : Invariant (opened given values)
  opens = record {
    history = record { legal = legal_nil given.plan; room = omega arith };
    numbers = record {
      books = λ n. dite (ℕ_discrete 0 n)
          (λ e. omega (arith, one 0 n e, once_yes n 1 (omega (arith, e))))
          (λ ne. omega (arith, none-of 0 n ne, once_no n 1 (omega (arith, ne))));
      strangers = λ n h. refl;
      most = omega arith;
    };
    turns = record {
      wide = length_all values ∙ sized;
      holders = λ t low n. omega (
        arith,
        as_named seat_number (holds t) n (first_view values) (held_all 0 t values (omega arith) (omega (arith, low, sized))),
        ap
            (λ x. names x n) (turn_all values t (omega (arith, low, sized))),
      );
      leader = λ n. omega (arith, as_named seat_number leads n (first_view values) refl);
    };
    opens = λ k u there mark. let s = first_alone k u there in subst (λ k. IsOpening given [] given.count k u) (sym s.0) (subst (IsOpening given [] given.count 0) s.1 record {
      place = refl;
      number =
          refl;
      all = refl;
      journal = refl;
      no_request = refl;
      not_releasing = refl;
      empty = refl;
      given_count = refl;
    });
    values = record { sized = sized; free = λ t low free. absurd (omega (arith, free, turn_all values t (omega (arith, low, sized)))) };
    registers = λ none. absurd (omega (arith, none));
    parts = refl;
    fits = λ k u there. subst (Fits given.plan [] 1 given.count) (first_alone k u there).1 first_fits;
  }

pub law : TurnLaw
law given values steps end sized e = lasts power Invariant step_keeps (opened given values) (opens given values sized) steps end e
