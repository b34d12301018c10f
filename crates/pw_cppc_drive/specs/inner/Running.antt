-- A run as it goes: what each request does, and what the lines have come to.
use Rattle.std.specs.Prelude.{◌≡◌, ◌++◌, ◌∷◌, [], ℕ, List}
use Rattle.std.specs.List.{AllByRecursion, sum_by}
use Rattle.pw_regs.specs.Seen.{RegistersSeen}
use Rattle.pw_regs.specs.Doing.{Did}
use Rattle.pw_cppc.specs.declared.plan.CppcPlan.{CppcPlan}
use Rattle.pw_cppc.specs.declared.request.CppcRequest.{CppcRequest}
use Rattle.pw_cppc.specs.Requests.{ops_bound}
use Rattle.pw_cppc.specs.declared.entry.CppcEntry.{CppcEntry}
use Rattle.pw_cppc.specs.History.{IsSerialRunOf, Legal, entry_ops, fault_at, history_ops, replay, request_of}
use Rattle.pw_cppc_drive.specs.declared.script.CppcLine.{CppcLine as line}
use Rattle.pw_cppc_drive.specs.Reading.{requests_of}

-- A request was made: its entry follows, and its operations were done.
pub record Turned (P : CppcPlan) (q : CppcRequest) (es fs : List CppcEntry) (old new : RegistersSeen) : Type 0 where
  pub entry : CppcEntry
  pub is : fs ≡ es ++ entry ∷ []
  pub seat : entry.seat ≡ 0
  pub request : request_of entry ≡ q
  pub legal : Legal P fs
  pub did : Did (ops_bound P q) (entry_ops P (replay P es) entry) (fault_at fs) old new

-- how many operations the requests of lines have at most
abbrev pub lines_bound : CppcPlan → List line → ℕ
lines_bound P lines = sum_by (λ (l : line). ops_bound P l.request) lines

-- The requests of lines were made in their order, up to a fault.
pub record Ran (P : CppcPlan) (lines : List line) (es : List CppcEntry) (old new : RegistersSeen) : Type 0 where
  pub serial : IsSerialRunOf P (requests_of lines) es
  pub seats : AllByRecursion (λ (e : CppcEntry). e.seat ≡ 0) es
  pub did : Did (lines_bound P lines) (history_ops P es) (fault_at es) old new
