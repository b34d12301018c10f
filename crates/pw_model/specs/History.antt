-- Histories: what was asked, one request after the other.
use Rattle.std.specs.Prelude.{◌≡◌, ◌≢◌, ◌==◌, ◌<◌, ◌≤◌, ℕ, Option, List, length, if◌then◌else◌}
use Rattle.acpi_values.specs.declared.operation.Op.{Op}
use Rattle.pw_kind.specs.Coordination.{Coordination}
use Rattle.pw_kind.specs.History as histories
use Rattle.pw_plan.specs.declared.plan.Plan.{Plan}
use Rattle.pw_plan.specs.declared.request.Request.{Request}
use Rattle.pw_plan.specs.declared.request.Request.TheVariants.{Idle, Wake, Perf, Throttle, PerfLimit, ThrottleLimit}
use Rattle.pw_model.specs.declared.entry.HistoryEntry.{HistoryEntry}
use Rattle.pw_model.specs.declared.reply.Reply.{Reply}
use Rattle.pw_model.specs.declared.state.State.{State}
use Rattle.pw_model.specs.States.{any_latency, opening}
use Rattle.pw_model.specs.Answers.{after, answer}
use Rattle.pw_model.specs.Operations.{ops_of}

-- the request of an entry, whose code is 1 to 6
abbrev pub request_of : HistoryEntry → Request
request_of e =
    if e.code == 1 then Idle e.cpu e.argument e.tolerance else
    if e.code == 2 then Wake e.cpu else
    if e.code == 3 then Perf e.cpu e.argument else
    if e.code == 4 then Throttle e.cpu e.argument else
    if e.code == 5 then PerfLimit e.cpu e.argument else
    ThrottleLimit e.cpu e.argument

-- the entry of a request that a seat made
abbrev pub entry_of : ℕ → Request → HistoryEntry
entry_of seat (Idle p s t) = record { seat = seat; cpu = p; code = 1; argument = s; tolerance = t; fault = 0 }
entry_of seat (Wake p) = record { seat = seat; cpu = p; code = 2; argument = 0; tolerance = any_latency; fault = 0 }
entry_of seat (Perf p i) = record { seat = seat; cpu = p; code = 3; argument = i; tolerance = any_latency; fault = 0 }
entry_of seat (Throttle p i) = record { seat = seat; cpu = p; code = 4; argument = i; tolerance = any_latency; fault = 0 }
entry_of seat (PerfLimit p n) = record { seat = seat; cpu = p; code = 5; argument = n; tolerance = any_latency; fault = 0 }
entry_of seat (ThrottleLimit p n) = record { seat = seat; cpu = p; code = 6; argument = n; tolerance = any_latency; fault = 0 }

-- an entry that states a request, of a processor of the plan
pub record StatesRequest (P : Plan) (e : HistoryEntry) : Type 0 where
  pub cpu : e.cpu < length P.cpus
  pub code_from : 1 ≤ e.code
  pub code_to : e.code ≤ 6

-- one in which what its request doesn't use has a value of its own besides
pub record IsEntry (P : Plan) (e : HistoryEntry) : Type 0 where
  pub states : StatesRequest P e
  pub wake : e.code ≡ 2 → e.argument ≡ 0
  pub others : e.code ≢ 1 → e.tolerance ≡ any_latency

-- Coordination of processor power: `pw_kind/specs/History.antt` says what histories leave, answer and operate, and which there are.
abbrev pub power : Coordination Plan Request Reply HistoryEntry State
power = record {
  request = request_of;
  fault = λ e. e.fault;
  IsEntry = IsEntry;
  opening = opening;
  answer = answer;
  ops = ops_of;
  after = after;
}

abbrev pub after_entry : Plan → State → HistoryEntry → State
after_entry = histories.after_entry power

abbrev pub replay_from : Plan → State → List HistoryEntry → State
replay_from = histories.replay_from power

abbrev pub replay : Plan → List HistoryEntry → State
replay = histories.replay power

abbrev pub entry_reply : Plan → State → HistoryEntry → List Reply
entry_reply = histories.entry_reply power

abbrev pub replies_from : Plan → State → List HistoryEntry → List Reply
replies_from = histories.replies_from power

abbrev pub replies : Plan → List HistoryEntry → List Reply
replies = histories.replies power

abbrev pub entry_ops : Plan → State → HistoryEntry → List Op
entry_ops = histories.entry_ops power

abbrev pub ops_from : Plan → State → List HistoryEntry → List Op
ops_from = histories.ops_from power

abbrev pub history_ops : Plan → List HistoryEntry → List Op
history_ops = histories.history_ops power

abbrev pub Faultless : List HistoryEntry → Type 0
Faultless = histories.Faultless power

abbrev pub fault_at : List HistoryEntry → Option ℕ
fault_at = histories.fault_at power

abbrev pub FaultIsLast : List HistoryEntry → Type 0
FaultIsLast = histories.FaultIsLast power

abbrev pub WellFormed : Plan → List HistoryEntry → Type 0
WellFormed = histories.WellFormed power

abbrev pub FaultFits : Plan → State → HistoryEntry → Type 0
FaultFits = histories.FaultFits power

abbrev pub FaultsFit : Plan → State → List HistoryEntry → Type 0
FaultsFit = histories.FaultsFit power

abbrev pub Legal : Plan → List HistoryEntry → Type 0
Legal = histories.Legal power

abbrev pub MayFollow : Plan → List HistoryEntry → HistoryEntry → Type 0
MayFollow = histories.MayFollow power

abbrev pub StopsAt : Plan → List HistoryEntry → ℕ → Type 0
StopsAt = histories.StopsAt power
