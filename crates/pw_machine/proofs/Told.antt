-- What a step tells its seat: who was met, what a seat that is alone knows, what a new number is.
use Rattle.std.proofs.Common.{⊎_elim, true, ◌≡◌, ◌≢◌, ℕ, ◌-◌, ◌<◌, ◌≤◌, [], Bool, false, Option, Some, get_or, cond, eq-eqb, sym, refl, ap, ◌∙◌, subst, arith}
use mathlib.Core.Option.{some, some-injective}
use mathlib.Core.Logic.{dite}
use native.Mathlib.Decide.{ℕ_discrete, dec_le}
use lib.ListN.{get_elem?}
use Rattle.pw_plan.specs.declared.request.Request.{Request}
use Rattle.pw_model.specs.Records.{record_count}
use Rattle.pw_machine.specs.Turns.{part_at, way}
use Rattle.pw_machine.proofs.Plans.{next_record, way_rises, way_reached}
use Rattle.pw_machine.specs.declared.view.View.{View}
use Rattle.pw_books.specs.Books.{entries_of, count_in, list_of, furthest}
use Rattle.pw_machine.specs.Machine.{Machine, now, turns_of, count_held, Named, holds, leads, marks, HasRegisters, Invariant, seat_of, seat_number}
use Rattle.pw_books.specs.Sums.{bit, AtMost}
use Rattle.pw_machine.specs.Told.{MeetsOther, KnowsAlone, IsTold, SeatsAreTold}
use Rattle.pw_machine.specs.Steps.{find_record_held, find_journal_held, IsIdle, IsSpare, drawn, May}
use Rattle.pw_books.proofs.Lists.{turn_below, term_le, terms_le, one, is_true, once_yes, once_no, either_is}
use Rattle.pw_books.proofs.Books.{begins_furthest, empty_front, known_both, whole_seen}
use Rattle.pw_books.proofs.Turns.{holder}
use Rattle.pw_machine.proofs.Turns.{count-turns}
use Rattle.pw_machine.proofs.Facts.{other_unmarked, live_held, live_leads, number_below, other_count}
use Rattle.pw_machine.proofs.Requests.{next_in}
use Rattle.pw_books.proofs.Told.{total_zero, total_only}

-- # Sums over views of which one counts

module _ (m : Machine) (i : Invariant m) (j : ℕ) (v : View) (at : get_elem? m.views j ≡ some v) where
  -- # Who was met

  -- the holder of a turn that this seat hasn't: its number isn't in this seat's book, and this seat isn't alone
  met_other : (turn : ℕ) (has : View → ℕ) → Named turn has m.views → turn ≢ 0 → has v ≡ 0
      → ((k : ℕ) (u : View) → get_elem? m.views k ≡ some u → 0 < has u → 0 < u.parts) → MeetsOther v (turn - 1)
  met_other turn has named ne none alive =
      let r = holder seat_number turn has m.views named ne in let u = r.1 in
      let apart : j ≢ r.0 = λ same. absurd (omega (arith, r.3, none, ap has (some-injective u v (sym r.2 ∙ (ap (λ k. get_elem? m.views k) (sym same) ∙ at))))) in
      let live = alive r.0 u r.2 r.3 in let own = (i.fits r.0 u r.2).own live in
      let number : u.number ≡ turn - 1 = omega (arith, r.4) in record {
        given = omega (arith, number, number_below m i r.0 u r.2 u.number (omega (arith, own)), i.numbers.most);
        stranger = subst (λ n. count_in n v.book ≡ 0) number (other_count m i r.0 j u v apart r.2 at u.number (omega (arith, own)));
        not_alone = omega (arith, live, i.parts, terms_le (λ (x : View). x.parts) m.views r.0 j u v apart r.2 at);
      }

  pub met_at_record : (t : ℕ) (q : Request) (gives_up : Bool) → May m j v (find_record_held t q gives_up)
      → MeetsOther v (get_or m.turns t 0 - 1)
  met_at_record t q gives_up may =
      let a = may.0 in
      let low : t < record_count m.given.plan = omega (arith, turn_below m.turns t may.2, i.turns.wide) in
      let next_one = next_record m.given.plan (now m) q (turns_of v.held) t low may.1 in
      let none : count_held t v.held ≡ 0 = dite (ℕ_discrete (count_held t v.held) 0) (λ z. z)
      (λ more. absurd (let up = way_rises m.given.plan (now m) q (turns_of v.held) t a.of_plan next_one t (omega (arith, more, count-turns t v.held)) in omega (arith, up))) in
      met_other (get_or m.turns t 0) (holds t) (i.turns.holders t low) may.2 none (λ k u there more. live_held m i k u there t more)

  pub met_at_journal : (q : Request) (gives_up : Bool) → May m j v (find_journal_held q gives_up) → MeetsOther v (m.journal - 1)
  met_at_journal q gives_up may = met_other m.journal leads i.turns.leader may.2 (ap bit may.0.no_journal) (λ k u there more. live_leads m i k u there (is_true u.leads more))

  -- # The history, as a seat that comes to it knows it

  -- the history has no entry of the book's numbers past what the seat has seen
  pub no_entry_since : (n : ℕ) → 0 < count_in n v.book → entries_of seat_of n m.history ≡ entries_of seat_of n (furthest v.told v.seen)
  no_entry_since n h = let r = (i.fits j v at).reads in known_both seat_of n v.book m.history (furthest v.told v.seen) h r.lists r.entries

  -- # The registers, as a live seat without the mark may rely on them

  pub registers_are : 0 < v.parts → v.mark ≡ false → HasRegisters m.given m.history m.ops m.count
  registers_are live unmarked = i.registers (total_zero marks m.views (λ k u there. dite (ℕ_discrete k j)
      (λ e. ap bit (ap (λ (x : View). x.mark) (some-injective u v (sym there ∙ (ap (λ k. get_elem? m.views k) e ∙ at))) ∙ unmarked))
      (λ ne. ⊎_elim (λ (mark : u.mark ≡ true). absurd (other_unmarked m i j k v u ne at there live mark)) (λ (none : u.mark ≡ false). ap bit none) (either_is u.mark))))

  -- # A seat that is alone

  module _ (alone : v.parts ≡ 65536) where
    other_parts : (k : ℕ) (u : View) → k ≢ j → get_elem? m.views k ≡ some u → u.parts ≡ 0
    other_parts k u ne there = omega (arith, alone, i.parts, terms_le (λ (x : View). x.parts) m.views j k v u ne at there)

    -- its book has every number made
    pub alone_book : (n : ℕ) → n < m.made → count_in n v.book ≡ 1
    alone_book n h = sym (total_only (λ (u : View). count_in n u.book) m.views j v at (λ k u ne e. ap (λ (x : View). count_in n x.book) ((i.fits k u e).spent (other_parts k u ne e))))
        ∙ (i.numbers.books n ∙ once_yes n m.made h)

    -- it has seen the whole history
    pub alone_seen : furthest v.told v.seen ≡ m.history
    alone_seen =
        let r = (i.fits j v at).reads in let far = begins_furthest m.history v.seen v.told r.begins r.begins_too in
        whole_seen seat_of m.history (furthest v.told v.seen) far (λ n. dite (dec_le m.made n)
        (λ le. let none = i.numbers.strangers n le in none ∙ sym (empty_front seat_of n m.history (furthest v.told v.seen) far none))
        (λ nle. no_entry_since n (omega (arith, alone_book n (omega arith)))))

    -- a turn that it hasn't is free
    alone_free : (turn : ℕ) (has : View → ℕ) → Named turn has m.views → has v ≡ 0
        → ((k : ℕ) (u : View) → get_elem? m.views k ≡ some u → 0 < has u → 0 < u.parts) → turn ≡ 0
    alone_free turn has named none alive = dite (ℕ_discrete turn 0) (λ z. z) (λ ne. absurd (omega (arith, alone, (met_other turn has named ne none alive).not_alone)))

    pub alone_record : (t : ℕ) → t < record_count m.given.plan → count_held t v.held ≡ 0 → get_or m.turns t 0 ≡ 0
    alone_record t low none = alone_free (get_or m.turns t 0) (holds t) (i.turns.holders t low) none (λ k u there more. live_held m i k u there t more)

    pub alone_journal : v.leads ≡ false → m.journal ≡ 0
    alone_journal none = alone_free m.journal leads i.turns.leader (ap bit none) (λ k u there more. live_leads m i k u there (is_true u.leads more))

    -- # What is there once it is idle: each record is the history's part, and the registers are as the history says
    pub alone_values : IsIdle v → (t : ℕ) → t < record_count m.given.plan → get_elem? m.values t ≡ some (part_at m.given.plan t (now m))
    alone_values idle t low = i.values.free t low (alone_record t low (ap (count_held t) idle.held))

    pub alone_registers : v.mark ≡ false → HasRegisters m.given m.history m.ops m.count
    alone_registers unmarked = i.registers (total_only marks m.views j v at (λ k u ne e. ap (λ (x : View). bit x.mark) ((i.fits k u e).spent (other_parts k u ne e))) ∙ ap bit unmarked)

  -- # Numbers

  -- the number that is drawn is in no book, and spare in this one afterwards
  pub drawn_is_new : count_in m.made v.book ≡ 0
  drawn_is_new = omega (arith, once_no m.made m.made (omega arith), i.numbers.books m.made, term_le (λ (u : View). count_in m.made u.book) m.views j v at)

  pub drawn_is_spare : 0 < v.parts → IsSpare m.made (drawn m.made v)
  drawn_is_spare live =
      let low = number_below m i j v at v.number (omega (arith, (i.fits j v at).own live)) in
      record { in_book = omega (arith, one m.made m.made refl, drawn_is_new); other = λ e. omega (arith, e, low); no_entry = ap (λ b. cond b [] (list_of m.made v.book)) (eq-eqb m.made m.made refl) }

  -- a draw that finds another number than was read finds a greater one
  pub missed_is_more : (r : ℕ) → v.read ≡ Some r → m.made ≢ r → r < m.made
  missed_is_more r is ne = let below = at_most is (i.fits j v at).notes.at_read in omega (arith, below, ne)
    where
      at_most : v.read ≡ Some r → AtMost v.read m.made → r ≤ m.made
      at_most e h = subst (λ o. AtMost o m.made) e h

  at_most_read : (o : Option ℕ) → AtMost o m.made → (r : ℕ) → o ≡ Some r → r ≤ m.made
  at_most_read o h r e = subst (λ o. AtMost o m.made) e h

  knows_alone : v.parts ≡ 65536 → KnowsAlone m v
  knows_alone alone = record {
    book = alone_book alone;
    seen = alone_seen alone;
    records = alone_record alone;
    journal = alone_journal alone;
    values = alone_values alone;
    registers = alone_registers alone;
  }

  pub is_told : IsTold m j v
  is_told = record {
    met_at_record = met_at_record;
    met_at_journal = met_at_journal;
    met_in_reach = λ t q gives_up may. way_reached m.given.plan (now m) q t may.0.of_plan
        (next_in (way m.given.plan (now m) q) (turns_of v.held) t (next_record m.given.plan (now m) q (turns_of v.held) t (omega (arith, turn_below m.turns t may.2, i.turns.wide)) may.1));
    free = i.values.free;
    no_entry_since = no_entry_since;
    registers = registers_are;
    alone = knows_alone;
    drawn_is_new = drawn_is_new;
    drawn_is_spare = drawn_is_spare;
    read_before = λ r e. at_most_read v.read (i.fits j v at).notes.at_read r e;
    missed_is_more = missed_is_more;
    parts_of_two = λ k w ne there. omega (arith, i.parts, terms_le (λ (x : View). x.parts) m.views j k v w ne at there);
  }

pub seats_told : SeatsAreTold
seats_told m i j v at = is_told m i j v at
