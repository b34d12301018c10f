-- The table after a step of the machine.
use Rattle.std.proofs.Common.{◌≡◌, ◌≢◌, ◌≤◌, ℕ, ◌<◌, List, [], true, false, length, get_or, set, subst, arith}
use mathlib.Core.Option.{some}
use lib.ListN.{get_elem?}
use Rattle.atomic_table.specs.Table.{Act, State, Valid, carried_after, stepped}
use Rattle.std.specs.Prelude.{Option}
use Rattle.pw_regs.specs.declared.registers.Registers.{Ghosts as Registers}
use Rattle.pw_cppc.specs.declared.entry.CppcEntry.{CppcEntry}
use Rattle.pw_cppc_desk.specs.Ledgered.{Ledgered}
use Rattle.pw_books.specs.declared.view.View.{View}
use Rattle.pw_books.specs.Steps.{Kind, May, after}
use Rattle.pw_books.proofs.Lists.{off, set_each}
use Rattle.pw_books.proofs.Facts.{other_unmarked}
use Rattle.pw_books.proofs.Keeps.{law}
use Rattle.pw_books.specs.Machine.{Invariant}
use Rattle.pw_books.specs.Law.{opened}
use Rattle.pw_cppc.proofs.Joining.{legal-empty}
use Rattle.pw_books.proofs.Ruled.{shows as shown_step, view_at as shown_view}
use Rattle.pw_cppc_desk.specs.Tracks.{Track, did}
use Rattle.pw_cppc_desk.specs.declared.setup.Setup.{Setup}
use Rattle.pw_cppc_desk.specs.Slots.{Given, Homes, IsHeld, MayBe, seat_of}
use Rattle.pw_cppc_desk.specs.Rule.{IsHome, Ruled, given_of, showing, words_of}
use Rattle.pw_cppc_desk.specs.Plays.{Tracked}

abbrev pub Table : Type 0 → Type 0
Table R = State (Option (Ledgered R)) Track

module _ {R : Type 0} (by : Registers R) where
  -- the entries of what is held are a history that may be
  pub held_may : (given : Given) (w : Ledgered R) → IsHeld by given w → MayBe given w.entries
  held_may given w h = record { legal = h.of.legal; room = subst (λ n. length w.entries ≤ n) h.capacity h.of.within }

  abbrev pub Goes : Setup R → Table R → ℕ → ℕ → Tracked R → (ℕ → Tracked R → Type 0) → ℕ → Type 0
  Goes key s i id m then k = (w : Track) × (a : Act (Option (Ledgered R))) × Valid s.homes m.1 a
      × Ruled by key (stepped s i k id m.1 w a) × then (get_or s.words i 0) (w, carried_after m.1 a)

  -- what the run keeps
  pub good_first : (key : Setup R) → MayBe (given_of by key) []
  good_first key = record { legal = legal-empty key.plan; room = omega arith }

  pub inv_of : (key : Setup R) (s : Table R) (o : Ruled by key s) → Invariant seat_of (MayBe (given_of by key)) o.machine
  inv_of key s o = law seat_of (MayBe (given_of by key)) o.run o.machine (good_first key) o.ran

  pub view_at : (key : Setup R) (s : Table R) (o : Ruled by key s) (id : ℕ) (x : Track) → get_elem? s.views id ≡ some x
      → get_elem? o.machine.views id ≡ some x.view
  view_at key s o = shown_view (showing by key) opened s.words s.homes s.views o

  -- a seat takes a step
  pub shows : (key : Setup R) (s : Table R) (o : Ruled by key s) (id : ℕ) (x : Track) (k : Kind CppcEntry) (w : View CppcEntry) (ws : List ℕ) (hs : Homes R)
      → get_elem? s.views id ≡ some x → 0 < x.view.parts → May seat_of (MayBe (given_of by key)) o.machine id x.view k
      → (after seat_of o.machine id x.view k).views ≡ set o.machine.views id w
      → ws ≡ words_of (after seat_of o.machine id x.view k)
      → IsHome by (given_of by key) (after seat_of o.machine id x.view k) hs
      → Ruled by key record { words = ws; homes = hs; views = set s.views id (did k w x) }
  shows key s o id x k w ws hs at live may same words home =
      shown_step (showing by key) opened s.words s.homes s.views o id x at live k may w ws hs same words home

  module _ (key : Setup R) (s : Table R) (o : Ruled by key s) where
    -- beside a live view no view has the mark
    pub other_marked : (id : ℕ) (v : View CppcEntry) → get_elem? o.machine.views id ≡ some v → 0 < v.parts → (k : ℕ) (u : View CppcEntry) → k ≢ id
        → get_elem? o.machine.views k ≡ some u → u.mark ≡ true → ⊥
    other_marked id v at live k u ne there mark = other_unmarked seat_of (MayBe (given_of by key)) o.machine (inv_of key s o) id k v u ne at there live mark

    -- where a view without the mark steps, no view has it after the step
    pub none_marked : (id : ℕ) (v w : View CppcEntry) → get_elem? o.machine.views id ≡ some v → 0 < v.parts → w.mark ≡ false
        → (k : ℕ) (u : View CppcEntry) → get_elem? (set o.machine.views id w) k ≡ some u → u.mark ≡ true → ⊥
    none_marked id v w at live unmarked =
        set_each (λ k u. u.mark ≡ true → ⊥) o.machine.views id w (off w.mark unmarked) (λ k u. other_marked id v at live k u)
