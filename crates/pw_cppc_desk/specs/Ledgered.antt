-- What one turn holds, as contracts see it.
use Rattle.std.specs.Prelude.{◌≡◌, ◌≤◌, ℕ, List, length}
use Rattle.pw_cppc.specs.declared.plan.CppcPlan.{CppcPlan}
use Rattle.pw_cppc.specs.declared.request.CppcRequest.{CppcRequest}
use Rattle.pw_cppc.specs.Requests.{opening_bound, ops_bound}
use Rattle.pw_cppc.specs.declared.entry.CppcEntry.{CppcEntry}
use Rattle.pw_cppc.specs.declared.numbers.CppcNumbers.{CppcNumbers}
use Rattle.pw_cppc.specs.History.{Legal, replay}

-- What processors ask for and allow, the entries in order, how many there may be, for how many operations of the start or of one
-- request there is room, and the registers.
pub record Ledgered (R : Type 0) : Type 0 where
  pub numbers : CppcNumbers
  pub entries : List CppcEntry
  pub capacity : ℕ
  pub room : ℕ
  pub regs : R

-- It is of this plan: its entries are a history that can come about, its numbers are those that it leaves, and there is room for the
-- operations of the start and of any request.
pub record IsLedgerOf {R : Type 0} (P : CppcPlan) (w : Ledgered R) : Type 0 where
  pub legal : Legal P w.entries
  pub within : length w.entries ≤ w.capacity
  pub opening : opening_bound P ≤ w.room
  pub requests : (q : CppcRequest) → ops_bound P q ≤ w.room
  pub numbers : w.numbers ≡ replay P w.entries
