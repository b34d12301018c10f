-- What a step on a word tells the seat that takes it.
use Rattle.std.specs.Prelude.{◌≡◌, ◌≢◌, ℕ, ◌-◌, ◌<◌, ◌≤◌, List, [], ◌∷◌, ◌++◌, true, false, Option, Some, None}
use Rattle.atomic_table.specs.Table.{Me, Step, rest}
use Rattle.pw_regs.specs.declared.registers.Registers.{Ghosts as Registers}
use Rattle.pw_cppc.specs.declared.entry.CppcEntry.{CppcEntry}
use Rattle.pw_cppc.specs.History.{Legal}
use Rattle.pw_cppc_desk.specs.Ledgered.{Ledgered}
use Rattle.pw_books.specs.declared.view.View.{View}
use Rattle.pw_books.specs.Books.{Begins, Knows, count_in, furthest, longer}
use Rattle.pw_books.specs.Sums.{AtMost}
use Rattle.pw_books.specs.Steps.{Kind, take_turn, find_held, slot_out, slot_back, release_with_entry, release_without_entry, draw_number}
use Rattle.pw_books.specs.Steps.{miss_draw, read_made}
use Rattle.pw_books.specs.Steps.{IsSpare, drawn, entered, in_hand, in_place, led, let_go, looked, met_with, missed}
use Rattle.pw_books.specs.Told.{MeetsOther}
use Rattle.pw_cppc_desk.specs.Tracks.{Track, keeping, more}
use Rattle.pw_cppc_desk.specs.Slots.{Given, IsHeld, seat_of}

-- a seat's view, and the slot where it has it in hand
abbrev pub Mine : Type 0 → Type 0
Mine R = Me (Option (Ledgered R)) (View CppcEntry)

-- the same with the steps that it took
abbrev pub Tracked : Type 0 → Type 0
Tracked R = Me (Option (Ledgered R)) Track

abbrev pub mine : {R : Type 0} → Tracked R → Mine R
mine m = (m.0.view, m.1)

abbrev pub Tells : Type 0 → Type 1
Tells R = Step (Option (Ledgered R)) → Tracked R → ℕ → Tracked R → Type 0

-- these are its steps more
abbrev pub Grew : {R : Type 0} → Tracked R → List (Kind CppcEntry) → Tracked R → Type 0
Grew m ks n = keeping n.0 ≡ more ks (keeping m.0)

abbrev pub Plays : Type 0 → Type 1
Plays R = Step (Option (Ledgered R)) → Mine R → ℕ → Mine R → Type 0

module _ {R : Type 0} where
  -- # The turn

  -- another seat has the turn
  abbrev pub Met : Mine R → ℕ → Mine R → Type 0
  Met m holder n = (n ≡ (met_with holder m.0, m.1)) × MeetsOther m.0 holder

  -- the seat gave the turn back with one more entry
  abbrev pub put : CppcEntry → ℕ → Plays R
  put e count st m r n = n ≡ (entered seat_of e count m.0, rest m.1)

  -- it gave it back as it was
  abbrev pub gone_with : ℕ → Plays R
  gone_with count st m r n = n ≡ (let_go count m.0, rest m.1)

  -- it has the slot, which is empty
  abbrev pub claimed : Plays R
  claimed st m r n = n ≡ (in_hand m.0, (0, None) ∷ m.1)

  -- the slot has its value, and the desk is open
  abbrev pub opened_by : ℕ → Plays R
  opened_by count st m r n = n ≡ (let_go count (in_place m.0), rest m.1)

  -- # The number of seats made

  -- a number was drawn, or another seat drew this one
  abbrev pub drew : Plays R
  drew st m r n =
      (r ≡ st.first → (n ≡ (drawn st.first m.0, m.1)) × IsSpare st.first (drawn st.first m.0) × (count_in st.first m.0.book ≡ 0))
      × (r ≢ st.first → (n ≡ (missed r m.0, m.1)) × (st.first < r) × (r ≤ 65536))

  -- the number of seats made was read, and what a join told goes into what was seen: a legal history, of which the book has the
  -- entries of its numbers
  abbrev pub looked_at : Given → Plays R
  looked_at given st m r n =
      (n ≡ (looked r m.0, m.1)) × (r ≤ 65536) × AtMost m.0.read r × (m.0.parts ≤ 65536)
      × ((told : List CppcEntry) → m.0.told ≡ Some told → Begins (longer told m.0.seen) m.0.seen × Begins (longer told m.0.seen) told)
      × Legal given.plan (furthest m.0.told m.0.seen) × Knows seat_of m.0.book (furthest m.0.told m.0.seen)

  -- # The same, and the step of the machine that it is

  abbrev pub put_step : CppcEntry → ℕ → Tells R
  put_step e count st m r n = put e count st (mine m) r (mine n) × Grew m (release_with_entry e count ∷ []) n

  abbrev pub gone_step : ℕ → Tells R
  gone_step count st m r n = gone_with count st (mine m) r (mine n) × Grew m (release_without_entry count ∷ []) n

  abbrev pub claimed_step : Tells R
  claimed_step st m r n = claimed st (mine m) r (mine n) × Grew m (slot_out ∷ []) n

  abbrev pub opened_step : ℕ → Tells R
  opened_step count st m r n = opened_by count st (mine m) r (mine n) × Grew m (slot_back ∷ release_without_entry count ∷ []) n

  abbrev pub drew_step : Tells R
  drew_step st m r n =
      drew st (mine m) r (mine n) × (r ≡ st.first → Grew m (draw_number ∷ []) n) × (r ≢ st.first → Grew m (miss_draw ∷ []) n)

  abbrev pub looked_step : Given → Tells R
  looked_step given st m r n = looked_at given st (mine m) r (mine n) × Grew m (read_made ∷ []) n

module _ {R : Type 0} (by : Registers R) where
  -- # The turn in hand

  -- The seat has the turn, and a history that begins with all that it had seen.
  pub record Led (given : Given) (m : Mine R) (w : Ledgered R) (n : Mine R) : Type 0 where
    pub is : n ≡ (led w.entries (by.faults w.regs) m.0, (0, Some w) ∷ m.1)
    pub held : IsHeld by given w
    pub seen : Begins w.entries m.0.seen
    pub book : Knows seat_of m.0.book w.entries
    pub known : Knows seat_of m.0.book (furthest m.0.told m.0.seen)
    -- a seat with all parts had seen it all
    pub alone : m.0.parts ≡ 65536 → furthest m.0.told m.0.seen ≡ w.entries

  abbrev pub led_to : Given → Plays R
  led_to given st m r n = (r ≡ 0 → (w : Ledgered R) × Led given m w n) × (r ≢ 0 → Met m (r - 1) n)

  -- the same, and the step of the machine that it is
  abbrev pub led_step : Given → Tells R
  led_step given st m r n =
      led_to given st (mine m) r (mine n) × (r ≡ 0 → (count : ℕ) × Grew m (take_turn count ∷ []) n) × (r ≢ 0 → Grew m (find_held ∷ []) n)

  -- # The value as it may be given back

  -- With one more entry, which the seat that has the turn makes.
  pub record IsGrown (given : Given) (v : View CppcEntry) (e : CppcEntry) (w : Ledgered R) : Type 0 where
    pub turn : v.holds ≡ true
    pub unmarked : v.mark ≡ false
    pub none_out : v.out ≡ false
    pub seat : e.seat ≡ v.number
    pub entries : w.entries ≡ v.seen ++ e ∷ []
    pub held : IsHeld by given w

  -- As it was found.
  pub record IsFound (given : Given) (v : View CppcEntry) (w : Ledgered R) : Type 0 where
    pub turn : v.holds ≡ true
    pub unmarked : v.mark ≡ false
    pub none_out : v.out ≡ false
    pub entries : w.entries ≡ v.seen
    pub held : IsHeld by given w

  -- For the first time, with the operations of the start done.
  pub record IsFirst (given : Given) (v : View CppcEntry) (w : Ledgered R) : Type 0 where
    pub marked : v.mark ≡ true
    pub out : v.out ≡ true
    pub entries : w.entries ≡ []
    pub held : IsHeld by given w
