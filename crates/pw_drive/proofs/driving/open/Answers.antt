use Rattle.std.proofs.Common.{◌≡◌, ◌++◌, ◌∙◌, List, Option, ap, arith, subst, sym, ℕ}
use Rattle.acpi_values.specs.declared.operation.Op.{Op}
use Rattle.pw_base.specs.Room.{Bounded}
use Rattle.pw_model.specs.Operations.{opening_ops}
use Rattle.pw_plan.specs.Requests.{opening_bound}
use Rattle.pw_regs.specs.Seen.{registers_seen}
use Rattle.pw_regs.specs.Doing.{Did}
use Rattle.pw_drive.specs.inner.Running.{opening_done}
use Rattle.pw_regs.proofs.Operating.{did_by}
use Rattle.pw_drive.proofs.Requesting.{opening_did, opening_few}
use Rattle.pw_drive.proofs.driving.open.Goals as goal

pub operate-requires-clause-few : goal.operate-requires-clause-few
operate-requires-clause-few g c =
    let P = c.args.plan.now in
    let is : c.list.result.now ≡ opening_ops P = c.list.ensures ∙ ap (λ (b : Bounded Op). b.elements) c.open_all.ensures ∙ ap (λ (ops : List Op). ops ++ opening_ops P) c.requires.none in
    let count = opening_few P c.list.result.now is in
    omega (arith, count, c.requires.room, c.requires.few)

pub returns-clause-did : goal.returns-clause-did
returns-clause-did g c =
    let P = c.args.plan.now in
    let ops = c.list.result.now in
    let old = registers_seen g.R.Registers c.args.journal.now.regs in
    let new = registers_seen g.R.Registers c.operate.new.self.regs in
    let is : ops ≡ opening_ops P = c.list.ensures ∙ ap (λ (b : Bounded Op). b.elements) c.open_all.ensures ∙ ap (λ (os : List Op). os ++ opening_ops P) c.requires.none in
    let e = c.operate.ensures in
    let did = did_by ops c.operate.result old new e.keeps.same_told e.keeps.count e.done e.part e.failed e.promised e.steady e.left in
    subst (λ (o : Option ℕ). Did (opening_bound P) (opening_done P o) o old new) (sym c.err.ensures.value) (opening_did P ops c.operate.result old new is did)
