-- What a step tells the seat that takes it, of whatever machine it finds.
use Rattle.std.specs.Prelude.{◌≡◌, ◌≢◌, ℕ, ◌+◌, ◌-◌, ◌<◌, ◌≤◌, Bool, false, Some, slice_index}
use mathlib.Core.Option.{some}
use lib.ListN.{get_elem?}
use Rattle.pw_plan.specs.declared.request.Request.{Request}
use Rattle.pw_model.specs.Records.{reach, record_count}
use Rattle.pw_model.specs.Routes.{numbers}
use Rattle.pw_machine.specs.declared.view.View.{View}
use Rattle.pw_machine.specs.Turns.{count_turn, part_at}
use Rattle.pw_books.specs.Books.{count_in, entries_of, furthest}
use Rattle.pw_machine.specs.Machine.{Machine, HasRegisters, Invariant, count_held, now, seat_of}
use Rattle.pw_machine.specs.Steps.{IsIdle, IsSpare, May, drawn, find_record_held, find_journal_held}

-- Who was met has a number that was given, is none of the seats in the book, and is not gone.
pub record MeetsOther (v : View) (holder : ℕ) : Type 0 where
  pub given : holder < 65536
  pub stranger : count_in holder v.book ≡ 0
  pub not_alone : v.parts < 65536

-- What a seat with all parts knows.
pub record KnowsAlone (m : Machine) (v : View) : Type 0 where
  -- its book has every number made, and it has seen the whole history
  pub book : (n : ℕ) → n < m.made → count_in n v.book ≡ 1
  pub seen : furthest v.told v.seen ≡ m.history
  -- what it doesn't hold is free
  pub records : (t : ℕ) → t < record_count m.given.plan → count_held t v.held ≡ 0 → slice_index m.turns t ≡ 0
  pub journal : v.leads ≡ false → m.journal ≡ 0
  -- once it is idle, each record's value is its part, and the registers are as the history says
  pub values : IsIdle v → (t : ℕ) → t < record_count m.given.plan → get_elem? m.values t ≡ some (part_at m.given.plan t (now m))
  pub registers : v.mark ≡ false → HasRegisters m.given m.history m.ops m.count

pub record IsTold (m : Machine) (j : ℕ) (v : View) : Type 0 where
  -- who is met, and where
  pub met_at_record : (t : ℕ) (q : Request) (gives_up : Bool) → May m j v (find_record_held t q gives_up)
      → MeetsOther v (slice_index m.turns t - 1)
  pub met_at_journal : (q : Request) (gives_up : Bool) → May m j v (find_journal_held q gives_up) → MeetsOther v (m.journal - 1)
  pub met_in_reach : (t : ℕ) (q : Request) (gives_up : Bool) → May m j v (find_record_held t q gives_up)
      → 0 < count_turn t (numbers m.given.plan (reach m.given.plan q))
  -- the record of a free turn is the state's part
  pub free : (t : ℕ) → t < record_count m.given.plan → slice_index m.turns t ≡ 0
      → get_elem? m.values t ≡ some (part_at m.given.plan t (now m))
  -- past what the seat has seen the history has no entry of its book's numbers
  pub no_entry_since : (n : ℕ) → 0 < count_in n v.book → entries_of seat_of n m.history ≡ entries_of seat_of n (furthest v.told v.seen)
  -- once the coordinator is open the registers are as the history says, or as the journal's holder found them
  pub registers : 0 < v.parts → v.mark ≡ false → HasRegisters m.given m.history m.ops m.count
  pub alone : v.parts ≡ 65536 → KnowsAlone m v
  -- the number that is drawn is in no book, and can then be given away
  pub drawn_is_new : count_in m.made v.book ≡ 0
  pub drawn_is_spare : 0 < v.parts → IsSpare m.made (drawn m.made v)
  -- the numbers made only rise: one that was read is not above them, and a draw that misses finds a greater one
  pub read_before : (r : ℕ) → v.read ≡ Some r → r ≤ m.made
  pub missed_is_more : (r : ℕ) → v.read ≡ Some r → m.made ≢ r → r < m.made
  -- no two seats have more than all parts
  pub parts_of_two : (k : ℕ) (w : View) → k ≢ j → get_elem? m.views k ≡ some w → v.parts + w.parts ≤ 65536

abbrev pub SeatsAreTold : Type 0
SeatsAreTold = (m : Machine) → Invariant m → (j : ℕ) (v : View) → get_elem? m.views j ≡ some v → IsTold m j v
