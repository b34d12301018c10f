-- Histories: what was asked, one request after the other.
use Rattle.std.specs.Prelude.{◌≡◌, ◌==◌, ◌<◌, ◌≤◌, ℕ, Option, Some, None, List, [], ◌++◌, length, map, take, if◌then◌else◌}
use Rattle.acpi_values.specs.declared.operation.Op.{Op}
use Rattle.pw_kind.specs.Coordination.{Coordination}
use Rattle.pw_kind.specs.History as histories
use Rattle.pw_cppc.specs.declared.plan.CppcPlan.{CppcPlan}
use Rattle.pw_cppc.specs.declared.request.CppcRequest.{CppcRequest}
use Rattle.pw_cppc.specs.declared.request.CppcRequest.TheVariants.{Desired, Minimum, Maximum}
use Rattle.pw_cppc.specs.declared.entry.CppcEntry.{CppcEntry}
use Rattle.pw_cppc.specs.declared.numbers.CppcNumbers.{CppcNumbers}
use Rattle.pw_cppc.specs.declared.reply.CppcReply.{CppcReply}
use Rattle.pw_cppc.specs.States.{opening}
use Rattle.pw_cppc.specs.Answers.{after, answer}
use Rattle.pw_cppc.specs.Operations.{opening_ops, ops_of}

-- the request of an entry, whose code is 1 to 3
abbrev pub request_of : CppcEntry → CppcRequest
request_of e =
    if e.code == 1 then Desired e.cpu e.argument else
    if e.code == 2 then Minimum e.cpu e.argument else
    Maximum e.cpu e.argument

-- the entry of a request that a seat made
abbrev pub entry_of : ℕ → CppcRequest → CppcEntry
entry_of seat (Desired p v) = record { seat = seat; cpu = p; code = 1; argument = v; fault = 0 }
entry_of seat (Minimum p v) = record { seat = seat; cpu = p; code = 2; argument = v; fault = 0 }
entry_of seat (Maximum p v) = record { seat = seat; cpu = p; code = 3; argument = v; fault = 0 }

-- an entry that states a request of a processor of the plan
pub record StatesRequest (P : CppcPlan) (e : CppcEntry) : Type 0 where
  pub cpu : e.cpu < length P.cpus
  pub code_from : 1 ≤ e.code
  pub code_to : e.code ≤ 3

-- Coordination of desired performance: `pw_kind/specs/History.antt` says what histories leave, answer and operate, and which there are.
abbrev pub performance : Coordination CppcPlan CppcRequest CppcReply CppcEntry CppcNumbers
performance = record {
  request = request_of;
  fault = λ e. e.fault;
  IsEntry = StatesRequest;
  opening = opening;
  answer = answer;
  ops = ops_of;
  after = after;
}

abbrev pub after_entry : CppcPlan → CppcNumbers → CppcEntry → CppcNumbers
after_entry = histories.after_entry performance

abbrev pub replay_from : CppcPlan → CppcNumbers → List CppcEntry → CppcNumbers
replay_from = histories.replay_from performance

abbrev pub replay : CppcPlan → List CppcEntry → CppcNumbers
replay = histories.replay performance

abbrev pub replies_from : CppcPlan → CppcNumbers → List CppcEntry → List CppcReply
replies_from = histories.replies_from performance

abbrev pub replies : CppcPlan → List CppcEntry → List CppcReply
replies = histories.replies performance

abbrev pub entry_ops : CppcPlan → CppcNumbers → CppcEntry → List Op
entry_ops = histories.entry_ops performance

abbrev pub ops_from : CppcPlan → CppcNumbers → List CppcEntry → List Op
ops_from = histories.ops_from performance

abbrev pub history_ops : CppcPlan → List CppcEntry → List Op
history_ops = histories.history_ops performance

abbrev pub Faultless : List CppcEntry → Type 0
Faultless = histories.Faultless performance

abbrev pub fault_at : List CppcEntry → Option ℕ
fault_at = histories.fault_at performance

abbrev pub Legal : CppcPlan → List CppcEntry → Type 0
Legal = histories.Legal performance

abbrev pub MayFollow : CppcPlan → List CppcEntry → CppcEntry → Type 0
MayFollow = histories.MayFollow performance

-- # What is asked for

-- the requests of entries
abbrev pub requests : List CppcEntry → List CppcRequest
requests es = map request_of es

-- A history of these requests in their order: its requests are a beginning of theirs, all of them where no entry is a fault.
pub record IsSerialRunOf (P : CppcPlan) (asked : List CppcRequest) (es : List CppcEntry) : Type 0 where
  pub legal : Legal P es
  pub rest : List CppcRequest
  pub begins : asked ≡ requests es ++ rest
  pub whole : Faultless es → requests es ≡ asked

-- What may come of requests in their order: the opening was ended by a fault after k of its operations, and nothing was asked; or the
-- plan was opened, and there is a history of them.
abbrev pub LawfulSerial : CppcPlan → List CppcRequest → Option ℕ → List CppcEntry → Type 0
LawfulSerial P asked (Some k) es = (k < length (opening_ops P)) × (es ≡ [])
LawfulSerial P asked None es = IsSerialRunOf P asked es

-- # Operations of a run

-- where a fault ended the opening, those before it
abbrev pub run_ops : CppcPlan → Option ℕ → List CppcEntry → List Op
run_ops P (Some k) es = take k (opening_ops P)
run_ops P None es = opening_ops P ++ history_ops P es

-- where a register failed: how many operations of the opening, or of the last request, were done before
abbrev pub stopped_at : Option ℕ → List CppcEntry → Option ℕ
stopped_at (Some k) es = Some k
stopped_at None es = fault_at es
