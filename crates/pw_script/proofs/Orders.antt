-- A history in the order of the lines.
use Rattle.std.proofs.Common.{◌∙◌, List, None, Option, Some, ap, ℕ}
use Rattle.std.proofs.lemmas.List.Elements.{filter-append}
use Rattle.pw_plan.specs.declared.plan.Plan.{Plan}
use Rattle.pw_plan.specs.declared.request.Request.{Request}
use Rattle.pw_model.specs.declared.entry.HistoryEntry.{HistoryEntry}
use Rattle.pw_notice.specs.Limits.{is_of, own, requests}
use Rattle.pw_script.specs.Lawful.{IsRunOf, IsSerialRunOf, Lawful, LawfulSerial}

serial_run : (P : Plan) (asked : List Request) (es : List HistoryEntry) → IsSerialRunOf P asked es → IsRunOf P asked es
serial_run P asked es run =
    let b = run.begins in
    record {
      legal = run.legal;
      begins = λ p lt. record { rest = own p b.rest; is = ap (own p) b.is ∙ filter-append (is_of p) (requests es) b.rest };
      whole = λ none p lt. ap (own p) (run.whole none);
    }

pub serial_lawful : (P : Plan) (asked : List Request) (fault : Option ℕ) (es : List HistoryEntry) → LawfulSerial P asked fault es → Lawful P asked fault es
serial_lawful P asked None es run = serial_run P asked es run
serial_lawful P asked (Some k) es h = h
