-- A request between its two steps.
use Rattle.std.specs.Prelude.{◌≡◌, ◌≢◌, ℕ, ◌+◌, List, [], Result, Ok, Err, length}
use Rattle.acpi_values.specs.declared.operation.Op.{Op}
use Rattle.pw_plan.specs.declared.request.Request.{Request}
use Rattle.pw_plan.specs.Requests.{Has}
use Rattle.pw_model.specs.declared.reply.Reply.{Reply}
use Rattle.pw_model.specs.History.{Faultless}
use Rattle.pw_model.specs.Records.{record_count}
use Rattle.pw_machine.specs.declared.view.View.{View}
use Rattle.pw_machine.specs.Machine.{Given}
use Rattle.pw_machine.specs.Walk.{over, walk}
use Rattle.pw_regs.specs.declared.registers.Registers.{Ghosts as Registers}
use Rattle.pw_journal.specs.Journaled.{Journaled}
use Rattle.pw_rule.specs.Plays.{Mine}
use Rattle.pw_rule.specs.Promises.{Promise}
use Rattle.pw_turns.specs.Climb.{Climbs}
use Rattle.pw_turns.specs.HeldRecords.{AreHeld, in_hands}
use Rattle.pw_turns.specs.Steps.{LedOut}
use Rattle.pw_turns.specs.declared.held_record.HeldRecord.{HeldRecord}
use Rattle.pw_turns.specs.declared.requests.Try.{Try}
use Rattle.pw_turns.specs.declared.requests.Try.TheVariants.{Answer, Busy, Full, RegisterFault, Stopped}

-- what a request is told of which all operations were done, or a register failed after so many
abbrev pub told_by : Reply → Result Unit ℕ → Try
told_by reply (Ok done) = Answer reply
told_by reply (Err k) = RegisterFault k

-- it made no entry
abbrev pub MakesNone : Try → Type 0
MakesNone (Answer reply) = ⊥
MakesNone (Busy turn holder) = Unit {0}
MakesNone (Full capacity) = Unit {0}
MakesNone (RegisterFault done) = ⊥
MakesNone (Stopped at) = Unit {0}

-- the fault of its entry
abbrev pub fault_by : Result Unit ℕ → ℕ
fault_by (Ok done) = 0
fault_by (Err k) = k + 1

module _ {R : Type 0} (given : Given) (q : Request) where
  -- The request was told this, and its records, taken from the view v on, are still in hand.
  pub record IsReady (v : View) (records : List (HeldRecord R)) (told : Try) (n : Mine R) : Type 0 where
    pub top : View
    pub held : AreHeld given q v records top
    pub hands : n.1 ≡ in_hands records []
    pub tells : Climbs given top q told n.0

module _ {R : Type 0} (by : Registers R) (promise : Promise) (given : Given) (q : Request) where
  -- The seat has the journal, in which one more entry has room, and none was a fault.
  pub record Leads (m : Mine R) (j : Journaled R) (n : Mine R) : Type 0 where
    pub led : LedOut by promise given q (record_count given.plan) m j n
    pub faultless : Faultless j.entries
    pub room : length j.entries ≢ given.capacity

module _ {R : Type 0} (by : Registers R) (promise : Promise) (given : Given) (q : Request) (reply : Reply) (ops : List Op)
    (number : ℕ) where
  -- The seat has the journal and the request's records, by which it is answered this by these operations.
  pub record Awaits (m : Mine R) (j : Journaled R) (n : Mine R) : Type 0 where
    pub leads : Leads by promise given q m j n
    pub has : Has given.plan q
    pub none_out : m.0.out ≡ []
    pub own : number ≡ m.0.number
    pub over : walk given.plan q m.0.held ≡ over reply ops

module _ {R : Type 0} (by : Registers R) (promise : Promise) (given : Given) (q : Request) (number : ℕ) where
  -- From the view v the request came to have all its turns: its records, these, and the journal.
  pub record Reaches (v : View) (reply : Reply) (ops : List Op) (records : List (HeldRecord R)) (j : Journaled R) (n : Mine R)
      : Type 0 where
    pub top : Mine R
    pub held : AreHeld given q v records top.0
    pub hands : top.1 ≡ in_hands records []
    pub awaits : Awaits by promise given q reply ops number top j n
