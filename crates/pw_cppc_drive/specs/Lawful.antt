-- What a run of requests for performance by workers comes to.
use Rattle.std.specs.Prelude.{◌≡◌, ◌<◌, ◌⊎◌, ℕ, List, [], length, Option, Some, None}
use Rattle.pw_regs.specs.declared.registers.Registers.{Ghosts as Registers}
use Rattle.pw_regs.specs.Seen.{registers_seen}
use Rattle.pw_books.specs.Asked.{IsRunOf, Telling}
use Rattle.pw_books.specs.Seats.{SeatsTell}
use Rattle.pw_cppc.specs.declared.plan.CppcPlan.{CppcPlan}
use Rattle.pw_cppc.specs.declared.request.CppcRequest.{CppcRequest}
use Rattle.pw_cppc.specs.Requests.{cpu_of, opening_bound}
use Rattle.pw_cppc.specs.declared.entry.CppcEntry.{CppcEntry}
use Rattle.pw_cppc.specs.History.{Legal, request_of}
use Rattle.pw_cppc.specs.Operations.{opening_ops}
use Rattle.pw_cppc_drive.specs.Driven.{OperatesFor}

-- what is told of an entry and of a request
abbrev pub telling : Telling CppcEntry CppcRequest
telling = record { seat = λ e. e.seat; request = request_of; fault = λ e. e.fault; cpu = cpu_of }

-- What may come of requests, each processor's in their order: the opening was ended by a fault after k of its operations, and nothing
-- was asked; or the plan was opened, and there is a history of them.
abbrev pub Lawful : CppcPlan → List CppcRequest → Option ℕ → List CppcEntry → Type 0
Lawful P asked (Some k) es = (k < length (opening_ops P)) × (es ≡ [])
Lawful P asked None es = Legal P es × IsRunOf telling asked es

-- two entries have the same seat exactly where they have the same processor
abbrev pub TellSeats : List CppcEntry → Type 0
TellSeats es = SeatsTell (λ (e : CppcEntry). e.seat) (λ (e : CppcEntry). e.cpu) es

module _ {R : Type 0} (by : Registers R) where
  -- the registers are as after the opening and no request
  abbrev pub Opened : CppcPlan → R → R → Type 0
  Opened P regs now = OperatesFor P (opening_bound P) None [] (registers_seen by regs) (registers_seen by now)

  -- where there was no memory, or no number for a seat: they are so, or as they were
  abbrev pub GivesBack : CppcPlan → R → R → Type 0
  GivesBack P regs back = (back ≡ regs) ⊎ Opened P regs back
