-- Histories of requests in their order.
use Rattle.std.proofs.Common.{ℕ, List, Option, Some, None}
use Rattle.pw_books.proofs.Runs.{serial-run}
use Rattle.pw_cppc.specs.declared.plan.CppcPlan.{CppcPlan}
use Rattle.pw_cppc.specs.declared.request.CppcRequest.{CppcRequest}
use Rattle.pw_cppc.specs.declared.entry.CppcEntry.{CppcEntry}
use Rattle.pw_cppc.specs.History.{LawfulSerial}
use Rattle.pw_cppc_drive.specs.Lawful.{Lawful, telling}

pub serial-lawful : (P : CppcPlan) (asked : List CppcRequest) (opening : Option ℕ) (es : List CppcEntry) → LawfulSerial P asked opening es → Lawful P asked opening es
serial-lawful P asked (Some k) es serial = serial
serial-lawful P asked None es serial = (serial.legal, serial-run telling asked serial.rest es serial.begins serial.whole)
