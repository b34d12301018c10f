-- A serial run as it goes: what each request does, and what the lines have come to.
use Rattle.std.specs.Prelude.{◌≡◌, ◌++◌, ◌∷◌, [], ℕ, List, take, Option, Some, None}
use Rattle.std.specs.List.{AllByRecursion, sum_by}
use Rattle.acpi_values.specs.declared.operation.Op.{Op}
use Rattle.pw_plan.specs.declared.plan.Plan.{Plan}
use Rattle.pw_plan.specs.declared.request.Request.{Request}
use Rattle.pw_plan.specs.Requests.{ops_bound}
use Rattle.pw_model.specs.declared.entry.HistoryEntry.{HistoryEntry}
use Rattle.pw_model.specs.History.{Faultless, Legal, entry_ops, fault_at, history_ops, replay, request_of}
use Rattle.pw_model.specs.Operations.{opening_ops}
use Rattle.pw_model.specs.Locality.{AllTold}
use Rattle.pw_regs.specs.Seen.{RegistersSeen}
use Rattle.pw_script.specs.declared.script.Line.{Line as line}
use Rattle.pw_script.specs.Lawful.{IsSerialRunOf}
use Rattle.pw_script.specs.Reading.{requests_of}
use Rattle.pw_drive.specs.declared.records.Records.{Records}
use Rattle.pw_regs.specs.Doing.{Did}
use Rattle.pw_drive.specs.Keeping.{AreRecordsOf, part_in}

-- the operations at the start: of those that a fault ended the ones before it
abbrev pub opening_done : Plan → Option ℕ → List Op
opening_done P (Some k) = take k (opening_ops P)
opening_done P None = opening_ops P

-- The plan's records hold what the state does that this history leaves.
pub record Keeps (P : Plan) (es : List HistoryEntry) (R : Records) : Type 0 where
  pub of : AreRecordsOf P R
  pub told : AllTold P (replay P es) (part_in R)

-- They do, and no register failed in this history.
pub record Stands (P : Plan) (es : List HistoryEntry) (R : Records) : Type 0 where
  pub legal : Legal P es
  pub faultless : Faultless es
  pub keeps : Keeps P es R

-- A request was made: its entry follows, and its operations were done.
pub record Turned (P : Plan) (q : Request) (es fs : List HistoryEntry) (old new : RegistersSeen) : Type 0 where
  pub entry : HistoryEntry
  pub is : fs ≡ es ++ entry ∷ []
  pub seat : entry.seat ≡ 0
  pub request : request_of entry ≡ q
  pub legal : Legal P fs
  pub did : Did (ops_bound P q) (entry_ops P (replay P es) entry) (fault_at fs) old new

-- how many operations the requests of lines have at most
abbrev pub lines_bound : Plan → List line → ℕ
lines_bound P lines = sum_by (λ (l : line). ops_bound P l.request) lines

-- The requests of lines were made in their order, up to a fault.
pub record Ran (P : Plan) (lines : List line) (es : List HistoryEntry) (old new : RegistersSeen) : Type 0 where
  pub serial : IsSerialRunOf P (requests_of lines) es
  pub seats : AllByRecursion (λ (e : HistoryEntry). e.seat ≡ 0) es
  pub did : Did (lines_bound P lines) (history_ops P es) (fault_at es) old new
