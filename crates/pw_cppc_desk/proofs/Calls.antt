-- The steps as calls make them: what a call has beside the table, or was told, is equal to what the key has.
use Rattle.std.proofs.Common.{◌≡◌, ℕ, suc, ◌<◌, List, ◌∷◌, eqb, sym, subst}
use Rattle.std.specs.Prelude.{Option, Some}
use mathlib.Core.Option.{none}
use prog.Atomic.{either}
use Rattle.atomic_table.specs.Table.{Allows, step}
use Rattle.pw_regs.specs.declared.registers.Registers.{Ghosts as Registers}
use Rattle.pw_cppc.specs.declared.entry.CppcEntry.{CppcEntry}
use Rattle.pw_cppc_desk.specs.Ledgered.{Ledgered}
use Rattle.pw_books.specs.Steps.{IsIdle}
use Rattle.pw_cppc_desk.specs.declared.setup.Setup.{Setup}
use Rattle.pw_cppc_desk.specs.Slots.{Given}
use Rattle.pw_cppc_desk.specs.Rule.{Ruled, given_of}
use Rattle.pw_cppc_desk.specs.Plays.{IsFirst, IsFound, IsGrown, Tracked, gone_step, led_step, opened_step, put_step}
use Rattle.pw_cppc_desk.specs.Tracks.{Track}
use Rattle.pw_cppc_desk.proofs.Turning.{enters, lets_go, takes_turn}
use Rattle.pw_cppc_desk.proofs.Opening.{opens_desk}

module _ {R : Type 0} (by : Registers R) (n : ℕ) (key : Setup R) (id : ℕ) (given : Given) (same : given ≡ given_of by key) where
  pub lead : (m : Tracked R) (new : ℕ) → new ≡ suc m.0.view.number → IsIdle m.0.view
      → Allows (Ruled by key) n id m 1 (λ y. either (eqb y 0) new y) (led_step by given (step n 1 0 new none) m)
  lead m new is idle = subst (λ g. Allows (Ruled by key) n id m 1 (λ y. either (eqb y 0) new y) (led_step by g (step n 1 0 new none) m)) (sym same)
      (takes_turn by n key id m new is idle)

  pub grow : (x : Track) (more : List (ℕ × Option (Ledgered R))) (w : Ledgered R) (e made : CppcEntry) (count : ℕ) (m : Tracked R)
      → made ≡ e → count ≡ by.faults w.regs → 0 < n → m ≡ (x, (0, Some w) ∷ more) → IsGrown by given x.view e w
      → Allows (Ruled by key) n id m 1 (λ _. 0) (λ r. put_step made count (step n 1 0 0 none) m r)
  grow x more w e made count m entry counted slots is grown =
      subst (λ y. Allows (Ruled by key) n id m 1 (λ _. 0) (λ r. put_step y count (step n 1 0 0 none) m r)) (sym entry)
      (subst (λ c. Allows (Ruled by key) n id m 1 (λ _. 0) (λ r. put_step e c (step n 1 0 0 none) m r)) (sym counted)
      (enters by n key id x more w e m slots is (subst (λ g. IsGrown by g x.view e w) same grown)))

  pub stay : (x : Track) (more : List (ℕ × Option (Ledgered R))) (w : Ledgered R) (count : ℕ) (m : Tracked R)
      → count ≡ by.faults w.regs → 0 < n → m ≡ (x, (0, Some w) ∷ more) → IsFound by given x.view w
      → Allows (Ruled by key) n id m 1 (λ _. 0) (λ r. gone_step count (step n 1 0 0 none) m r)
  stay x more w count m counted slots is found =
      subst (λ c. Allows (Ruled by key) n id m 1 (λ _. 0) (λ r. gone_step c (step n 1 0 0 none) m r)) (sym counted)
      (lets_go by n key id x more w m slots is (subst (λ g. IsFound by g x.view w) same found))

  pub open_desk : (x : Track) (more : List (ℕ × Option (Ledgered R))) (w : Ledgered R) (count : ℕ) (m : Tracked R)
      → count ≡ by.faults w.regs → 0 < n → m ≡ (x, (0, Some w) ∷ more) → IsFirst by given x.view w
      → Allows (Ruled by key) n id m 1 (λ _. 0) (λ r. opened_step count (step n 1 0 0 none) m r)
  open_desk x more w count m counted slots is new =
      subst (λ c. Allows (Ruled by key) n id m 1 (λ _. 0) (λ r. opened_step c (step n 1 0 0 none) m r)) (sym counted)
      (opens_desk by n key id x more w m slots is (subst (λ g. IsFirst by g x.view w) same new))
