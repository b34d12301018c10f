use Rattle.std.proofs.Common.{rules, ◌≡◌, ◌≤◌, ◌∙◌, ap, arith, length, subst, sym}
use Rattle.pw_plan.specs.Requests.{opening_bound}
use Rattle.pw_model.specs.Operations.{opening_ops}
use Rattle.pw_model.proofs.Bounds.{opening_ops-length}
use Rattle.pw_journal.specs.Journaled.{Journaled}
use Rattle.pw_rule.specs.Rule.{given_of, promise_of}
use Rattle.pw_rule.proofs.Promises.{promised_first}
use Rattle.pw_turns.specs.Opens.{FailsAfter}
use Rattle.pw_turns.proofs.Openings.{fails_after}
use Rattle.pw_turns.proofs.coordinator.Coordinator.start.Goals as goal

pub returns-in-Err-clause-fault : goal.returns-in-Err-clause-fault
returns-in-Err-clause-fault g c =
    let by = g.R.Registers in let e = rw c.get_mut.ensures.value at c.in-Err.ensures in let key = c.args.self.table.shared.key in
    let before : c.args.journal.regs ≡ key.regs.value = ap (λ (j : Journaled g.row.R.Denot). j.regs) c.requires.empty in
    let list : c.list.result.now ≡ opening_ops c.args.self.plan = c.list.ensures ∙ c.requires.list in (
      c.give_up-plan.ensures,
      subst (FailsAfter by c.args.self.plan key.regs.value c.in-Err.done) (sym c.registers_of-regs.ensures)
          (subst (λ r. FailsAfter by c.args.self.plan r c.in-Err.done c.operate.new.self.regs) before
          (fails_after by c.args.self.plan c.list.result.now list c.args.journal.regs c.operate.new.self.regs c.in-Err.done
          e.within e.keeps.same_told e.part e.keeps.count e.failed e.promised)),
    )

pub returns-in-Ok-clause-view : goal.returns-in-Ok-clause-view
returns-in-Ok-clause-view g c =
    let by = g.R.Registers in let e = rw c.get_mut.ensures.value at c.in-Ok.ensures in let key = c.args.self.table.shared.key in
    let before : c.args.journal.regs ≡ key.regs.value = ap (λ (j : Journaled g.row.R.Denot). j.regs) c.requires.empty in
    let list : length c.list.result.now ≡ length (opening_ops c.args.self.plan) = ap length (c.list.ensures ∙ c.requires.list) in
    record {
      count = by.faults c.operate.new.self.regs;
      least = subst (λ r. by.faults r ≤ by.faults c.operate.new.self.regs) before e.keeps.count;
      steady = λ enough. e.steady (omega (arith, enough, list, opening_ops-length c.args.self.plan, ap by.room before)) ∙ ap by.faults before;
      is = c.first_seat-seat.ensures.view;
    }

pub first_seat-seat-requires-clause-begun : goal.first_seat-seat-requires-clause-begun
first_seat-seat-requires-clause-begun g c =
    let by = g.R.Registers in let e = rw c.get_mut.ensures.value at c.in-Ok.ensures in let key = c.args.self.table.shared.key in
    let before : c.args.journal.regs ≡ key.regs.value = ap (λ (j : Journaled g.row.R.Denot). j.regs) c.requires.empty in
    let few : length c.list.result.now ≡ opening_bound key.plan =
    ap length (c.list.ensures ∙ c.requires.list) ∙ opening_ops-length c.args.self.plan ∙ ap opening_bound (sym c.args.self.planned) in record {
      entries = e.entries;
      capacity = search rules;
      same_told = search rules;
      ops = search rules;
      count = search rules;
      promised = promised_first by (promise_of by key) (given_of by key) (length c.list.result.now) c.args.journal.regs c.operate.new.self.regs
          few (ap by.room before) (ap by.faults before) e.left e.steady;
    }
