use Rattle.std.proofs.Common.{◌≡◌, ◌+◌, ◌++◌, ◌∷◌, [], ◌∙◌, ap, arith, length, subst}
use Rattle.std.specs.Result.{result_err}
use Rattle.acpi_values.specs.declared.operation.Op.{Op}
use Rattle.pw_base.specs.Room.{Bounded}
use Rattle.pw_regs.specs.Seen.{registers_seen}
use Rattle.pw_regs.specs.Doing.{Did}
use Rattle.pw_cppc.specs.Requests.{ops_bound}
use Rattle.pw_cppc.specs.Answers.{after}
use Rattle.pw_cppc.specs.History.{replay}
use Rattle.pw_cppc.specs.Operations.{ops_of}
use Rattle.pw_cppc.proofs.NumberBounds.{ops_of-le}
use Rattle.pw_cppc_desk.specs.Entries.{done_of, entry_as}
use Rattle.pw_cppc_desk.specs.Ledgered.{Ledgered}
use Rattle.pw_cppc_desk.proofs.Bounds.{did_most, few_ops, put_in}
use Rattle.pw_cppc_desk.proofs.Ledgers.{numbers_fit, ledger_done, ledger_stopped}
use Rattle.pw_cppc_desk.proofs.ledger.Ledger.make.Goals as goal

pub step-reply-requires-clause-fits : goal.step-reply-requires-clause-fits
step-reply-requires-clause-fits g c =
    rw (ap (λ (w : Ledgered g.row.R.Denot). w.numbers) c.self.view_is) (numbers_fit c.args.plan.now c.args.self.now c.requires.of c.requires.faultless c.args.request c.requires.has)

pub operate_all-requires : goal.operate_all-requires
operate_all-requires g c =
    let P = c.args.plan.now in let q = c.args.request in let S = c.self.inside.state in let ops = c.list.result.now in
    let is = c.list.ensures ∙ put_in (ops_of P S q) c.clear.new.self c.step-reply.new.ops c.step-reply.ensures.list (ap (λ (b : Bounded Op). b.elements) c.clear.ensures) in
    record { few = omega (arith, few_ops P S q ops is, c.requires.of.requests q, ap (λ (w : Ledgered g.row.R.Denot). w.room) c.self.view_is, c.self.invariant.1) }

pub overflow_add-done : goal.overflow_add-done
overflow_add-done g c =
    let P = c.args.plan.now in let q = c.args.request in let S = c.self.inside.state in let ops = c.list.result.now in
    let is = c.list.ensures ∙ put_in (ops_of P S q) c.clear.new.self c.step-reply.new.ops c.step-reply.ensures.list (ap (λ (b : Bounded Op). b.elements) c.clear.ensures) in
    omega (arith, c.in-Err.ensures.within, few_ops P S q ops is, c.requires.of.requests q, ap (λ (w : Ledgered g.row.R.Denot). w.room) c.self.view_is, c.self.invariant.1)

pub returns-in-Ok-clause-of : goal.returns-in-Ok-clause-of
returns-in-Ok-clause-of g c =
    let same = c.self.view_is in let noted = c.note.ensures in let q = c.args.request in let P = c.args.plan.now in
    ledger_done P c.args.self.now c.requires.of c.requires.faultless q c.requires.has c.args.seat c.note.new.self
    (ap (λ (w : Ledgered g.row.R.Denot). w.capacity) noted ∙ ap (λ (w : Ledgered g.row.R.Denot). w.capacity) same)
    (ap (λ (w : Ledgered g.row.R.Denot). w.room) noted ∙ ap (λ (b : Bounded Op). b.capacity) c.step-reply.ensures.list ∙ ap (λ (b : Bounded Op). b.capacity) c.clear.ensures
    ∙ ap (λ (w : Ledgered g.row.R.Denot). w.room) same)
    c.requires.room
    (ap (λ (w : Ledgered g.row.R.Denot). w.entries) noted ∙ ap (λ (w : Ledgered g.row.R.Denot). w.entries ++ entry_as c.args.seat q 0 ∷ []) same)
    (ap (λ (w : Ledgered g.row.R.Denot). w.numbers) noted ∙ c.step-reply.ensures.after ∙ ap (λ (w : Ledgered g.row.R.Denot). after P w.numbers q) same)

pub returns-in-Err-clause-of : goal.returns-in-Err-clause-of
returns-in-Err-clause-of g c =
    let same = c.self.view_is in let noted = c.note-in-Err.ensures in let q = c.args.request in let P = c.args.plan.now in let S = c.self.inside.state in
    let is = c.list.ensures ∙ put_in (ops_of P S q) c.clear.new.self c.step-reply.new.ops c.step-reply.ensures.list (ap (λ (b : Bounded Op). b.elements) c.clear.ensures) in
    let old = ap (λ (w : Ledgered g.row.R.Denot). w.numbers) same ∙ c.requires.of.numbers in
    let count : length c.list.result.now ≡ length (ops_of P (replay P c.args.self.now.entries) q) = ap length (is ∙ ap (λ T. ops_of P T q) old) in
    ledger_stopped P c.args.self.now c.requires.of c.requires.faultless q c.requires.has c.args.seat c.note-in-Err.new.self
    (ap (λ (w : Ledgered g.row.R.Denot). w.capacity) noted ∙ ap (λ (w : Ledgered g.row.R.Denot). w.capacity) same)
    (ap (λ (w : Ledgered g.row.R.Denot). w.room) noted ∙ ap (λ (b : Bounded Op). b.capacity) c.step-reply.ensures.list ∙ ap (λ (b : Bounded Op). b.capacity) c.clear.ensures
    ∙ ap (λ (w : Ledgered g.row.R.Denot). w.room) same)
    c.requires.room c.in-Err.done (omega (arith, c.in-Err.ensures.within, count))
    (ap (λ (w : Ledgered g.row.R.Denot). w.entries) noted ∙ ap (λ (w : Ledgered g.row.R.Denot). w.entries ++ entry_as c.args.seat q (c.in-Err.done + 1) ∷ []) same)
    (ap (λ (w : Ledgered g.row.R.Denot). w.numbers) noted ∙ c.set_back.ensures S c.step-reply.ensures.after c.number_of-old.ensures ∙ ap (λ (w : Ledgered g.row.R.Denot). w.numbers) same)

pub returns-in-Ok-clause-did : goal.returns-in-Ok-clause-did
returns-in-Ok-clause-did g c =
    let P = c.args.plan.now in let q = c.args.request in let S = c.self.inside.state in let ops = c.list.result.now in let e = c.operate_all.ensures in
    let seen = registers_seen g.R.Registers in
    let is = c.list.ensures ∙ put_in (ops_of P S q) c.clear.new.self c.step-reply.new.ops c.step-reply.ensures.list (ap (λ (b : Bounded Op). b.elements) c.clear.ensures) in
    let old = ap (λ (w : Ledgered g.row.R.Denot). w.numbers) c.self.view_is ∙ c.requires.of.numbers in
    let asked = ops_of P (replay P c.args.self.now.entries) q in
    let did = did_most (ops_bound P q) asked ops c.operate_all.result (seen c.self.inside.regs) (seen c.operate_all.new.regs)
    (is ∙ ap (λ T. ops_of P T q) old) (ops_of-le P (replay P c.args.self.now.entries) q)
    e.keeps.same_told e.keeps.count e.done e.part e.failed e.promised e.steady e.left in
    let on = subst (λ (r : g.row.R.Denot). Did (ops_bound P q) (done_of c.operate_all.result asked) (result_err c.operate_all.result) (seen r) (seen c.operate_all.new.regs))
    (ap (λ (w : Ledgered g.row.R.Denot). w.regs) c.self.view_is) did in
    rw (ap (λ (w : Ledgered g.row.R.Denot). w.regs) c.note.ensures) (rw c.in-Ok.is at on)

pub returns-in-Err-clause-did : goal.returns-in-Err-clause-did
returns-in-Err-clause-did g c =
    let P = c.args.plan.now in let q = c.args.request in let S = c.self.inside.state in let ops = c.list.result.now in let e = c.operate_all.ensures in
    let seen = registers_seen g.R.Registers in
    let is = c.list.ensures ∙ put_in (ops_of P S q) c.clear.new.self c.step-reply.new.ops c.step-reply.ensures.list (ap (λ (b : Bounded Op). b.elements) c.clear.ensures) in
    let old = ap (λ (w : Ledgered g.row.R.Denot). w.numbers) c.self.view_is ∙ c.requires.of.numbers in
    let asked = ops_of P (replay P c.args.self.now.entries) q in
    let did = did_most (ops_bound P q) asked ops c.operate_all.result (seen c.self.inside.regs) (seen c.operate_all.new.regs)
    (is ∙ ap (λ T. ops_of P T q) old) (ops_of-le P (replay P c.args.self.now.entries) q)
    e.keeps.same_told e.keeps.count e.done e.part e.failed e.promised e.steady e.left in
    let on = subst (λ (r : g.row.R.Denot). Did (ops_bound P q) (done_of c.operate_all.result asked) (result_err c.operate_all.result) (seen r) (seen c.operate_all.new.regs))
    (ap (λ (w : Ledgered g.row.R.Denot). w.regs) c.self.view_is) did in
    rw (ap (λ (w : Ledgered g.row.R.Denot). w.regs) c.note-in-Err.ensures) (rw c.in-Err.is at on)
