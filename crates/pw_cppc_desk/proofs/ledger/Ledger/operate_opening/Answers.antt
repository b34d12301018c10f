use Rattle.std.proofs.Common.{◌∙◌, ap, arith, subst}
use Rattle.std.specs.Result.{result_err}
use Rattle.acpi_values.specs.declared.operation.Op.{Op}
use Rattle.pw_base.specs.Room.{Bounded}
use Rattle.pw_regs.specs.Seen.{registers_seen}
use Rattle.pw_regs.specs.Doing.{Did}
use Rattle.pw_cppc.specs.Requests.{opening_bound}
use Rattle.pw_cppc.specs.Operations.{opening_ops}
use Rattle.pw_cppc_desk.specs.Entries.{done_of}
use Rattle.pw_cppc_desk.specs.Ledgered.{Ledgered}
use Rattle.pw_cppc_desk.proofs.Bounds.{did_most, opening_few, opening_within, put_in}
use Rattle.pw_cppc_desk.proofs.Ledgers.{same_ledger}
use Rattle.pw_cppc_desk.proofs.ledger.Ledger.operate_opening.Goals as goal

pub operate_all-requires : goal.operate_all-requires
operate_all-requires g c =
    let P = c.args.plan.now in let ops = c.list.result.now in
    let is = c.list.ensures ∙ put_in (opening_ops P) c.clear.new.self c.open_all.new.ops c.open_all.ensures (ap (λ (b : Bounded Op). b.elements) c.clear.ensures) in
    record { few = omega (arith, opening_few P ops is, c.requires.of.opening, ap (λ (w : Ledgered g.row.R.Denot). w.room) c.self.view_is, c.self.invariant.1) }

pub returns-clause-of : goal.returns-clause-of
returns-clause-of g c =
    let same = c.self.view_is in
    same_ledger c.args.plan.now c.args.self.now _ c.requires.of (ap (λ (w : Ledgered g.row.R.Denot). w.numbers) same) (ap (λ (w : Ledgered g.row.R.Denot). w.entries) same)
    (ap (λ (w : Ledgered g.row.R.Denot). w.capacity) same)
    (ap (λ (b : Bounded Op). b.capacity) (c.open_all.ensures) ∙ ap (λ (b : Bounded Op). b.capacity) c.clear.ensures ∙ ap (λ (w : Ledgered g.row.R.Denot). w.room) same)

pub returns-clause-did : goal.returns-clause-did
returns-clause-did g c =
    let P = c.args.plan.now in let ops = c.list.result.now in let e = c.operate_all.ensures in let seen = registers_seen g.R.Registers in
    let is = c.list.ensures ∙ put_in (opening_ops P) c.clear.new.self c.open_all.new.ops c.open_all.ensures (ap (λ (b : Bounded Op). b.elements) c.clear.ensures) in
    let did = did_most (opening_bound P) (opening_ops P) ops c.operate_all.result (seen c.self.inside.regs) (seen c.operate_all.new.regs) is (opening_within P)
    e.keeps.same_told e.keeps.count e.done e.part e.failed e.promised e.steady e.left in
    subst (λ (r : g.row.R.Denot). Did (opening_bound P) (done_of c.operate_all.result (opening_ops P)) (result_err c.operate_all.result) (seen r) (seen c.operate_all.new.regs))
    (ap (λ (w : Ledgered g.row.R.Denot). w.regs) c.self.view_is) did
