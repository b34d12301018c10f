-- Each step on a word of the table is a step of the machine, or two, and tells its seat what it found.
use Rattle.std.specs.Prelude.{map, ◌≡◌, ℕ, suc, ◌+◌, ◌<◌, List, [], ◌∷◌, ◌++◌, Bool, true, Option, Some, None, length, replicate, ◌==◌, ◌≤◌}
use mathlib.Core.Option.{some, none}
use lib.ListN.{get_elem?}
use prog.Atomic.{either}
use Rattle.atomic_table.specs.Table.{Allows, Final, Joins, Seen, Splits, State, opening, step}
use Rattle.pw_plan.specs.declared.plan.Plan.{Plan}
use Rattle.pw_plan.specs.declared.request.Request.{Request}
use Rattle.pw_model.specs.declared.state.State.{State as Standing}
use Rattle.pw_model.specs.declared.entry.HistoryEntry.{HistoryEntry}
use Rattle.pw_model.specs.States.{IsState}
use Rattle.pw_model.specs.History.{Legal, fault_at, history_ops, replay}
use Rattle.pw_model.specs.Operations.{opening_ops}
use Rattle.pw_base.specs.Outside.{Rose}
use Rattle.pw_model.specs.Records.{Part, record_count}
use Rattle.pw_model.specs.Routes.{route}
use Rattle.pw_machine.specs.declared.view.View.{View}
use Rattle.pw_machine.specs.Turns.{StartsWith, part_at, way}
use Rattle.pw_books.specs.Books.{Knows, count_in, entries_of, furthest}
use Rattle.pw_machine.specs.Machine.{Given, IsNoted, count_held, turns_of, seat_of}
use Rattle.pw_machine.specs.Steps.{Asks, HoldsAs, IsIdle, IsSpare}
use Rattle.pw_regs.specs.declared.registers.Registers.{Ghosts as Registers}
use Rattle.pw_journal.specs.Journaled.{Journaled}
use Rattle.pw_rule.specs.declared.setup.Setup.{Setup}
use Rattle.pw_rule.specs.declared.content.Content.{Content}
use Rattle.pw_rule.specs.declared.content.Content.TheVariants.{Log}
use Rattle.pw_rule.specs.Contents.{AreOpening, Homes, IsRecordOf, LiesAt}
use Rattle.pw_rule.specs.Promises.{IsPromised, Promise}
use Rattle.pw_rule.specs.Rule.{Ruled, first_of, given_of, promise_of}
use Rattle.pw_rule.specs.Plays.{IsFirst, IsFound, IsGrown, Tracked, claimed_step, drew_step, gave_step, gone_step, led_step, looked_step, opened_by_step, opened_step, put_step, took_step}
use Rattle.pw_rule.specs.Tracks.{Track, joined_track, left_track, right_track, spent_track}

-- what the seat noted tells that this turn comes next on the request's route: it does in each state that fits what it noted
abbrev pub TellsNext : Plan → View → Request → ℕ → Type 0
TellsNext P v q t = (S : Standing) → IsState P S → IsNoted P S v.held → StartsWith (way P S q) (turns_of v.held)
    → StartsWith (route P S q) (turns_of v.held ++ t ∷ [])

module _ {R : Type 0} (by : Registers R) where
  -- # The start

  -- every turn is seat 0's, each record is in its slot as it opens, and the journal's slot, the last, is empty
  abbrev pub TableBegins : Type 0
  TableBegins = (key : Setup R) (xs : List (Option (Content R))) → AreOpening key.plan xs → length xs ≡ record_count key.plan
      → Ruled by key (opening (replicate (record_count key.plan + 2) 1) (xs ++ None ∷ []) (first_of key))

  -- its records are freed one after the other
  abbrev pub RecordIsOpened : Type 0
  RecordIsOpened = (n : ℕ) (key : Setup R) (id : ℕ) (m : Tracked R) (t k : ℕ) → k ≡ suc t → m.0.view.mark ≡ true
      → 0 < count_held t m.0.view.held → m.0.view.out ≡ []
      → Allows (Ruled by key) n id m k (λ _. 0) (λ r. opened_step (step n k 0 0 none) m r)

  -- then it takes the journal's slot in hand
  abbrev pub JournalIsClaimed : Type 0
  JournalIsClaimed = (n : ℕ) (key : Setup R) (id : ℕ) (m : Tracked R) (k a b : ℕ) → k ≡ suc (record_count key.plan) → m.0.view.mark ≡ true
      → m.0.view.out ≡ []
      → Allows (Ruled by key) n id m k (λ y. y) (claimed_step (record_count key.plan) (step n k a b none) m)

  -- and puts the journal there
  abbrev pub JournalIsOpened : Type 0
  JournalIsOpened = (n : ℕ) (key : Setup R) (id : ℕ) (x : Track) (more : List (ℕ × Option (Content R))) (j : Journaled R) (k : ℕ)
      (m : Tracked R)
      → k ≡ suc (record_count key.plan) → record_count key.plan < n → m ≡ (x, (record_count key.plan, Some (Log j)) ∷ more)
      → IsFirst by (promise_of by key) (given_of by key) x.view j
      → Allows (Ruled by key) n id m k (λ _. 0) (λ r. opened_by_step (record_count key.plan) (by.faults j.regs) (step n k 0 0 none) m r)

  -- # A request

  abbrev pub RecordIsTaken : Type 0
  RecordIsTaken = (gives_up : Bool) (n : ℕ) (key : Setup R) (id : ℕ) (m : Tracked R) (q : Request) (t k new : ℕ)
      → k ≡ suc t → t < record_count key.plan → new ≡ suc m.0.view.number → Asks key.plan m.0.view q → TellsNext key.plan m.0.view q t
      → Allows (Ruled by key) n id m k (λ y. either (y == 0) new y) (took_step gives_up (given_of by key) q (step n k 0 new none) m)

  abbrev pub JournalIsTaken : Type 0
  JournalIsTaken = (gives_up : Bool) (n : ℕ) (key : Setup R) (id : ℕ) (m : Tracked R) (q : Request) (k new : ℕ)
      → k ≡ suc (record_count key.plan) → new ≡ suc m.0.view.number → Asks key.plan m.0.view q
      → TellsNext key.plan m.0.view q (record_count key.plan)
      → Allows (Ruled by key) n id m k (λ y. either (y == 0) new y)
      (led_step by gives_up (promise_of by key) (given_of by key) q (step n k 0 new none) m)

  abbrev pub EntryIsMade : Type 0
  EntryIsMade = (n : ℕ) (key : Setup R) (id : ℕ) (x : Track) (more : List (ℕ × Option (Content R))) (j : Journaled R) (e : HistoryEntry)
      (k : ℕ) (m : Tracked R)
      → k ≡ suc (record_count key.plan) → record_count key.plan < n → m ≡ (x, (record_count key.plan, Some (Log j)) ∷ more)
      → IsGrown by (promise_of by key) (given_of by key) x.view e j
      → Allows (Ruled by key) n id m k (λ _. 0) (λ r. put_step key.plan e (by.faults j.regs) (step n k 0 0 none) m r)

  abbrev pub JournalIsLetGo : Type 0
  JournalIsLetGo = (n : ℕ) (key : Setup R) (id : ℕ) (x : Track) (more : List (ℕ × Option (Content R))) (j : Journaled R) (k : ℕ)
      (m : Tracked R)
      → k ≡ suc (record_count key.plan) → record_count key.plan < n → m ≡ (x, (record_count key.plan, Some (Log j)) ∷ more)
      → IsFound by (promise_of by key) (given_of by key) x.view j
      → Allows (Ruled by key) n id m k (λ _. 0) (λ r. gone_step (by.faults j.regs) (step n k 0 0 none) m r)

  abbrev pub RecordIsFreed : Type 0
  RecordIsFreed = (n : ℕ) (key : Setup R) (id : ℕ) (x : Track) (more : List (ℕ × Option (Content R))) (t k : ℕ) (part : Part)
      (y : Content R)
      (m : Tracked R)
      → k ≡ suc t → t < n → m ≡ (x, (t, Some y) ∷ more) → IsRecordOf key.plan t part y → x.view.releasing ≡ true
      → HoldsAs t part x.view.held → x.view.out ≡ []
      → Allows (Ruled by key) n id m k (λ _. 0) (λ r. gave_step (step n k 0 0 none) m r)

  -- # Seats

  abbrev pub NumberIsDrawn : Type 0
  NumberIsDrawn = (n : ℕ) (key : Setup R) (id : ℕ) (m : Tracked R) (made new : ℕ) → new ≡ made + 1 → made < 65536 → IsIdle m.0.view
      → m.0.view.read ≡ Some made
      → Allows (Ruled by key) n id m 0 (λ y. either (y == made) new y) (drew_step (step n 0 made new none) m)

  abbrev pub NumberIsRead : Type 0
  NumberIsRead = (n : ℕ) (key : Setup R) (id : ℕ) (m : Tracked R) → IsIdle m.0.view
      → Allows (Ruled by key) n id m 0 (λ y. y) (looked_step key.plan (step n 0 0 0 none) m)

  abbrev pub SeatIsSplit : Type 0
  SeatIsSplit = (key : Setup R) (id : ℕ) (x : Track) (n parts : ℕ) → IsIdle x.view → x.view.told ≡ None → IsSpare n x.view → 0 < parts
      → parts < x.view.parts → Splits (Ruled by key) id x (left_track n parts x) (right_track n parts x)

  abbrev pub SeatsAreJoined : Type 0
  SeatsAreJoined = (key : Setup R) (id : ℕ) (x : Track) (other : ℕ) (y : Track) → IsIdle x.view → IsIdle y.view → x.view.told ≡ None
      → y.view.told ≡ None → Joins (Ruled by key) id x other y (joined_track x y) spent_track

  -- # The end

  -- What the slots have where an idle seat has all parts: each record its part, and the journal the history that the seat knows.
  pub record IsWhole (promise : Promise) (given : Given) (v : View) (hs : Homes R) : Type 0 where
    pub journal : Journaled R
    pub there : get_elem? hs (record_count given.plan) ≡ some (some (Some (Log journal)))
    pub legal : Legal given.plan journal.entries
    pub room : length journal.entries ≤ given.capacity
    pub seen : furthest v.told v.seen ≡ journal.entries
    pub book : Knows seat_of v.book journal.entries
    -- its book has every number made, once, and no other number has an entry
    pub seats : (made : ℕ) × (made ≤ 65536) × ((n : ℕ) → n < made → count_in n v.book ≡ 1)
        × ((n : ℕ) → made ≤ n → entries_of seat_of n journal.entries ≡ [])
    pub capacity : journal.capacity ≡ given.capacity
    pub same_told : by.told journal.regs ≡ promise.told
    pub ops : promise.told ≡ true → by.log journal.regs ≡ given.ops ++ opening_ops given.plan ++ history_ops given.plan journal.entries
    pub least : given.count ≤ by.faults journal.regs
    pub fault : (k : ℕ) → fault_at journal.entries ≡ Some k → Rose given.count (by.faults journal.regs)
    pub promised : IsPromised by promise given journal.entries journal.regs
    pub records : (t : ℕ) → t < record_count given.plan → LiesAt given.plan hs t (part_at given.plan t (replay given.plan journal.entries))

  abbrev pub AloneHasAll : Type 0
  AloneHasAll = (key : Setup R) (s : State (Option (Content R)) Track) (id : ℕ) (x : Track) → Ruled by key s → get_elem? s.views id ≡ some x
      → IsIdle x.view
      → x.view.parts ≡ 65536 → IsWhole (promise_of by key) (given_of by key) x.view s.homes

  -- so it is with the slots of a table that was closed with such a seat
  abbrev pub TableCloses : Type 0
  TableCloses = (key : Setup R) (id : ℕ) (x : Track) (ws : List ℕ) (xs : List (Option (Content R))) → Final (Seen (Ruled by key) id x) ws xs
      → IsIdle x.view → x.view.parts ≡ 65536 → IsWhole (promise_of by key) (given_of by key) x.view (map some xs)
