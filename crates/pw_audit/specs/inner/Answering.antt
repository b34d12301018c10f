-- An answer for each kind, of what an audit finds in a text.
use Rattle.std.specs.Prelude.{ℕ, List, Option, Result, Ok, Err}
use Rattle.pw_cppc.specs.declared.entry.CppcEntry.{CppcEntry}
use Rattle.pw_model.specs.declared.entry.HistoryEntry.{HistoryEntry}
use Rattle.pw_audit.specs.declared.answer.Audit.{Audit}
use Rattle.pw_audit.specs.declared.answer.AuditFault.{AuditFault}
use Rattle.pw_audit.specs.declared.answer.CppcAudit.{CppcAudit}

abbrev pub answer_by : {Entry A : Type 0} → (Option ℕ → List Entry → A) → Result (Option ℕ × List Entry) AuditFault → Result A AuditFault
answer_by make (Ok (o, entries)) = Ok (make o entries)
answer_by make (Err fault) = Err fault

abbrev pub power_audit : Option ℕ → List HistoryEntry → Audit
power_audit o entries = record { opening = o; entries = entries }

abbrev pub performance_audit : Option ℕ → List CppcEntry → CppcAudit
performance_audit o entries = record { opening = o; entries = entries }
