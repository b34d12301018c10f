-- What lines allow as a history that can be summed up.
use Rattle.std.proofs.Common.{◌≡◌, ℕ, List, Option, Some, None}
use Rattle.pw_plan.specs.declared.plan.Plan.{Plan}
use Rattle.pw_plan.specs.declared.request.Request.{Request}
use Rattle.pw_model.specs.declared.entry.HistoryEntry.{HistoryEntry}
use Rattle.pw_model.specs.History.{Faultless, Legal}
use Rattle.pw_model.proofs.Joining.{fault_none, legal-empty}
use Rattle.pw_script.specs.Lawful.{Lawful}
use Rattle.pw_drive.specs.Driven.{stopped_at}

pub run_legal : (P : Plan) (asked : List Request) (opening : Option ℕ) (es : List HistoryEntry) → Lawful P asked opening es → Legal P es
run_legal P asked (Some k) es run = rw run.1 (legal-empty P)
run_legal P asked None es run = run.legal

pub run_faultless : (opening : Option ℕ) (es : List HistoryEntry) → stopped_at opening es ≡ None → Faultless es
run_faultless (Some k) es e = absurd (cc)
run_faultless None es e = fault_none es e
