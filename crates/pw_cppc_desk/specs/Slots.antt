-- What lies in the slot, and which histories may be.
use Rattle.std.specs.Prelude.{◌≡◌, ◌≤◌, ◌+◌, ℕ, List, Option, None, length, sum_by}
use Rattle.pw_regs.specs.declared.registers.Registers.{Ghosts as Registers}
use Rattle.pw_regs.specs.Seen.{RegistersSeen, registers_seen}
use Rattle.pw_regs.specs.Doing.{Did}
use Rattle.pw_cppc.specs.declared.plan.CppcPlan.{CppcPlan}
use Rattle.pw_cppc.specs.Requests.{opening_bound, ops_bound}
use Rattle.pw_cppc.specs.declared.entry.CppcEntry.{CppcEntry}
use Rattle.pw_cppc.specs.History.{Legal, request_of, run_ops, stopped_at}
use Rattle.pw_cppc_desk.specs.Ledgered.{IsLedgerOf, Ledgered}

-- the slot with its value, where it is at home
abbrev pub Homes : Type 0 → Type 0
Homes R = List (mathlib.Core.Option.Option (Option (Ledgered R)))

-- what was given to open, which never changes: the plan, how many entries there may be, and the registers as they were
pub record Given : Type 0 where
  pub plan : CppcPlan
  pub capacity : ℕ
  pub regs : RegistersSeen

abbrev pub seat_of : CppcEntry → ℕ
seat_of e = e.seat

-- A history that can come about and has room.
pub record MayBe (given : Given) (entries : List CppcEntry) : Type 0 where
  pub legal : Legal given.plan entries
  pub room : length entries ≤ given.capacity

-- how many operations the start and the requests of these entries have at most
abbrev pub bound_of : CppcPlan → List CppcEntry → ℕ
bound_of P es = opening_bound P + sum_by (λ (e : CppcEntry). ops_bound P (request_of e)) es

-- What one turn holds is of what was given: the operations of the start and of its entries were done on the registers, up to one that
-- failed.
pub record IsHeld {R : Type 0} (by : Registers R) (given : Given) (w : Ledgered R) : Type 0 where
  pub of : IsLedgerOf given.plan w
  pub capacity : w.capacity ≡ given.capacity
  pub did : Did (bound_of given.plan w.entries) (run_ops given.plan None w.entries) (stopped_at None w.entries) given.regs
      (registers_seen by w.regs)
