-- What a run of a script by workers comes to.
use Rattle.std.specs.Prelude.{◌≡◌, ◌≤◌, ◌⊎◌, ℕ, List, [], Option, Some, None}
use Rattle.pw_plan.specs.declared.plan.Plan.{Plan}
use Rattle.pw_plan.specs.Requests.{opening_bound}
use Rattle.pw_model.specs.declared.entry.HistoryEntry.{HistoryEntry}
use Rattle.pw_model.specs.History.{replies}
use Rattle.pw_model.specs.Operations.{opening_ops}
use Rattle.pw_regs.specs.declared.registers.Registers.{Ghosts as Registers}
use Rattle.pw_regs.specs.Seen.{Operated, RegistersSeen, registers_seen}
use Rattle.pw_script.specs.declared.script.Line.{Line}
use Rattle.pw_script.specs.Lawful.{Lawful}
use Rattle.pw_script.specs.Reading.{operations, requests_of}
use Rattle.pw_books.specs.Seats.{SeatsTell}
use Rattle.pw_drive.specs.Driven.{OperatesFor}
use Rattle.pw_drive.specs.declared.workers.Drove.{Drove}
use Rattle.pw_drive.specs.declared.workers.Drove.TheVariants.{Closed, Opening}

-- two entries have the same seat exactly where they have the same processor
abbrev pub TellSeats : List HistoryEntry → Type 0
TellSeats es = SeatsTell (λ (e : HistoryEntry). e.seat) (λ (e : HistoryEntry). e.cpu) es

-- The history is one that the lines allow, in which each processor has a seat of its own, and its operations were done.
pub record Runs (P : Plan) (lines : List Line) (opening : Option ℕ) (es : List HistoryEntry) (old new : RegistersSeen) : Type 0 where
  pub lawful : Lawful P (requests_of lines) opening es
  pub seats : TellSeats es
  -- where the registers promise room for the operations of all lines, none fails
  pub operates : OperatesFor P (operations P lines) opening es old new

-- The opening alone was done.
pub record Opens (P : Plan) (old new : RegistersSeen) : Type 0 where
  pub same_told : new.told ≡ old.told
  pub count : old.faults ≤ new.faults
  pub log : Operated old new (opening_ops P)
  -- none failed where they promise room for it
  pub promised : opening_bound P ≤ old.room → new.faults ≡ old.faults

-- the replies of a closed coordinator's history are known, in the order of its entries
abbrev pub Replies : {R : Type 0} → Plan → Drove R → Type 0
Replies P (Closed c told) = told ≡ replies P c.sealed.entries
Replies P (Opening done same left) = Unit {0}

module _ {R : Type 0} (by : Registers R) where
  -- The plan is that which was given; what the closed coordinator has is such a run, or the opening was ended by a fault.
  abbrev pub Drives : Plan → List Line → R → Drove R → Type 0
  Drives P lines regs (Closed c told) =
      (c.sealed.plan ≡ P) × Runs P lines None c.sealed.entries (registers_seen by regs) (registers_seen by c.regs)
  Drives P lines regs (Opening done same left) =
      (same ≡ P) × Runs P lines (Some done) [] (registers_seen by regs) (registers_seen by left)

  -- where there was no memory: the registers are as they were, or they saw the opening and nothing else
  abbrev pub GivesBack : Plan → R → R → Type 0
  GivesBack P regs back = (back ≡ regs) ⊎ Opens P (registers_seen by regs) (registers_seen by back)
