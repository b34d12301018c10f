use Rattle.std.proofs.Common.{refl, sym, ap, ◌∙◌, ◌≡◌, ◌∷◌, [], subst, arith, ◌+◌, ◌≤◌, ◌<◌, ◌++◌, length, take, List}
use Rattle.atomic_table.specs.Table.{rest}
use Rattle.acpi_values.specs.declared.operation.Op.{Op}
use Rattle.pw_model.specs.History.{replay}
use Rattle.pw_machine.specs.declared.view.View.{View}
use Rattle.pw_rule.specs.Plays.{mine}
use Rattle.pw_rule.specs.Rule.{given_of, promise_of}
use Rattle.pw_journal.specs.contracts.reported.ReportedRegistersRegisters.TheImpl.{ghosts}
use Rattle.pw_turns.specs.Asked.{entry_as}
use Rattle.pw_turns.specs.Begun.{fault_by}
use Rattle.pw_turns.proofs.Entries.{entry_without_fault, ops_done, ops_failed}
use Rattle.pw_turns.proofs.Climbing.{grown_is, is_led, made, ops_are, reply_is}
use Rattle.pw_turns.proofs.Said.{if_err, more_as, on_err, on_ok}
use Rattle.pw_turns.proofs.two_steps.Coordinator+ReportedRegisters+K.enter.Goals as goal

pub commit_for-requires-clause-grown : goal.commit_for-requires-clause-grown
commit_for-requires-clause-grown g c =
    let by = ghosts in let key = c.args.self.now.table.shared.key in let promise = promise_of by key in let given = given_of by key in
    let q = c.args.request in let n = mine c.args.raw.now.me in let j = c.args.journal in let m = c.requires.awaits.0 in let a = c.requires.awaits.1 in let l = a.leads.led in
    let ops = ops_are by promise given _ q m j n l given.plan c.args.reply c.args.ops.now refl a.has a.over in
    let number : n.0.number ≡ m.0.number = ap (λ (v : View). v.number) (is_led by promise given _ q m j n l) in
    let own : c.args.number ≡ n.0.number = a.own ∙ sym number in
    let e = rw c.get_mut.ensures.value at c.report.ensures in
    let regs = on_ok c.args.done _ c.in-Ok.is e.done in
    let entry = on_ok c.args.done _ c.in-Ok.is e.entry in
    grown_is by promise given _ q m j n l n.0.number 0 number a.has a.none_out a.leads.faultless (omega arith) c.report.new.self (λ z. absurd (z refl))
    a.leads.room (entry ∙ ap (λ e. j.entries ++ e ∷ []) (entry_without_fault c.args.number q ∙ ap (λ n. entry_as n q 0) own)) e.capacity e.count refl
    (λ t. ap (λ r. r.log) regs ∙ ap (λ x. j.regs.log ++ x) (ops ∙ sym (ops_done given.plan (replay given.plan j.entries) n.0.number q)))
    c.args.ops.now ops (omega arith) (λ z. ap (λ r. r.faults) regs) (λ z. absurd (z refl))

pub commit_for-requires-in-Err-clause-grown : goal.commit_for-requires-in-Err-clause-grown
commit_for-requires-in-Err-clause-grown g c =
    let by = ghosts in let key = c.args.self.now.table.shared.key in let promise = promise_of by key in let given = given_of by key in
    let q = c.args.request in let n = mine c.args.raw.now.me in let j = c.args.journal in let m = c.requires.awaits.0 in let a = c.requires.awaits.1 in let l = a.leads.led in
    let ops = ops_are by promise given _ q m j n l given.plan c.args.reply c.args.ops.now refl a.has a.over in
    let number : n.0.number ≡ m.0.number = ap (λ (v : View). v.number) (is_led by promise given _ q m j n l) in
    let own : c.args.number ≡ n.0.number = a.own ∙ sym number in
    let e = rw c.get_mut.ensures.value at c.report.ensures in let k = c.in-Err.k in
    let within = if_err (λ k. k < length c.args.ops.now) c.args.done k c.in-Err.is c.requires.within in
    let less : k + 1 ≤ length c.args.ops.now = omega (arith, within) in
    let part = if_err (λ k. c.report.new.self.regs.log ≡ j.regs.log ++ take k c.args.ops.now) c.args.done k c.in-Err.is e.part in
    let fault = if_err (λ k. c.report.new.self.entries ≡ j.entries ++ entry_as c.args.number q (k + 1) ∷ []) c.args.done k c.in-Err.is e.fault in
    grown_is by promise given _ q m j n l n.0.number (k + 1) number a.has a.none_out a.leads.faultless (subst (λ (x : List Op). k + 1 ≤ length x) ops less) c.report.new.self
    (λ z. on_err c.args.done k c.in-Err.is e.failed)
    a.leads.room (fault ∙ ap (λ n. j.entries ++ entry_as n q (k + 1) ∷ []) own) e.capacity e.count refl
    (λ t. part ∙ ap (λ x. j.regs.log ++ x) (ap (take k) ops ∙ sym (ops_failed given.plan (replay given.plan j.entries) n.0.number q k)))
    c.args.ops.now ops (omega arith) (λ z. absurd (omega (arith, z, within))) (λ z. omega (arith, within))

pub returns-in-Ok-clause-told : goal.returns-in-Ok-clause-told
returns-in-Ok-clause-told g c = λ m a.
    let by = ghosts in let self = c.args.self.now in let key = self.table.shared.key in let promise = promise_of by key in let given = given_of by key in
    let q = c.args.request in let n = mine c.args.raw.now.me in let j = c.args.journal in let l = a.leads.led in
    let number : n.0.number ≡ m.0.number = ap (λ (v : View). v.number) (is_led by promise given _ q m j n l) in (
      (
        made by promise given _ q m j n l n.0.number 0 number a.has a.none_out a.leads.faultless (omega arith) c.report.new.self (λ z. absurd (z refl))
            a.leads.room self.plan self.planned c.commit_for.new.raw.me.0.view (ap (λ m. m.0) c.commit_for.ensures.view),
        reply_is by promise given _ q m j n l given.plan c.args.reply c.args.ops.now refl a.has a.over,
      ),
      ap (λ m. m.1) c.commit_for.ensures.view ∙ ap rest l.1,
    )

pub returns-in-Err-clause-told : goal.returns-in-Err-clause-told
returns-in-Err-clause-told g c = λ m a.
    let by = ghosts in let self = c.args.self.now in let key = self.table.shared.key in let promise = promise_of by key in let given = given_of by key in
    let q = c.args.request in let n = mine c.args.raw.now.me in let j = c.args.journal in let l = a.leads.led in
    let ops = ops_are by promise given _ q m j n l given.plan c.args.reply c.args.ops.now refl a.has a.over in
    let number : n.0.number ≡ m.0.number = ap (λ (v : View). v.number) (is_led by promise given _ q m j n l) in
    let e = rw c.get_mut.ensures.value at c.report.ensures in let k = c.in-Err.k in
    let within = if_err (λ k. k < length c.args.ops.now) c.args.done k c.in-Err.is c.requires.within in
    let less : k + 1 ≤ length c.args.ops.now = omega (arith, within) in (
      (
        made by promise given _ q m j n l n.0.number (k + 1) number a.has a.none_out a.leads.faultless (subst (λ (x : List Op). k + 1 ≤ length x) ops less) c.report.new.self
            (λ z. on_err c.args.done k c.in-Err.is e.failed) a.leads.room self.plan self.planned c.commit_for-in-Err.new.raw.me.0.view
            (ap (λ m. m.0) c.commit_for-in-Err.ensures.view),
        subst (λ (x : List Op). k < length x) ops within,
      ),
      ap (λ m. m.1) c.commit_for-in-Err.ensures.view ∙ ap rest l.1,
    )

pub returns-in-Ok-clause-seen : goal.returns-in-Ok-clause-seen
returns-in-Ok-clause-seen g c =
    let by = ghosts in let key = c.args.self.now.table.shared.key in let promise = promise_of by key in let given = given_of by key in
    let q = c.args.request in let n = mine c.args.raw.now.me in let j = c.args.journal in let m = c.requires.awaits.0 in let a = c.requires.awaits.1 in let l = a.leads.led in
    let led = is_led by promise given _ q m j n l in
    let own : n.0.number ≡ c.args.number = ap (λ (v : View). v.number) led ∙ sym a.own in
    ap (λ m. m.0.seen) c.commit_for.ensures.view
    ∙ (λ i. (led i).seen ++ entry_as (own i) q 0 ∷ [])
    ∙ ap (λ f. j.entries ++ entry_as c.args.number q f ∷ []) (sym (ap fault_by c.in-Ok.is))

pub returns-in-Err-clause-seen : goal.returns-in-Err-clause-seen
returns-in-Err-clause-seen g c =
    let by = ghosts in let key = c.args.self.now.table.shared.key in let promise = promise_of by key in let given = given_of by key in
    let q = c.args.request in let n = mine c.args.raw.now.me in let j = c.args.journal in let m = c.requires.awaits.0 in let a = c.requires.awaits.1 in let l = a.leads.led in
    let led = is_led by promise given _ q m j n l in
    let own : n.0.number ≡ c.args.number = ap (λ (v : View). v.number) led ∙ sym a.own in
    ap (λ m. m.0.seen) c.commit_for-in-Err.ensures.view
    ∙ (λ i. (led i).seen ++ entry_as (own i) q (c.in-Err.k + 1) ∷ [])
    ∙ ap (λ f. j.entries ++ entry_as c.args.number q f ∷ []) (sym (ap fault_by c.in-Err.is))

pub returns-in-Ok-clause-own : goal.returns-in-Ok-clause-own
returns-in-Ok-clause-own g c =
    let by = ghosts in let key = c.args.self.now.table.shared.key in let promise = promise_of by key in let given = given_of by key in
    let q = c.args.request in let n = mine c.args.raw.now.me in let j = c.args.journal in let m = c.requires.awaits.0 in let a = c.requires.awaits.1 in let l = a.leads.led in
    let own : n.0.number ≡ c.args.number = ap (λ (v : View). v.number) (is_led by promise given _ q m j n l) ∙ sym a.own in
    more_as n.0.number c.args.number q 0 (fault_by c.args.done) c.report.new.self.regs.faults c.args.raw.now.me.0.own c.commit_for.new.raw.me.0.own own
    (sym (ap fault_by c.in-Ok.is)) c.commit_for.ensures.own

pub returns-in-Err-clause-own : goal.returns-in-Err-clause-own
returns-in-Err-clause-own g c =
    let by = ghosts in let key = c.args.self.now.table.shared.key in let promise = promise_of by key in let given = given_of by key in
    let q = c.args.request in let n = mine c.args.raw.now.me in let j = c.args.journal in let m = c.requires.awaits.0 in let a = c.requires.awaits.1 in let l = a.leads.led in
    let own : n.0.number ≡ c.args.number = ap (λ (v : View). v.number) (is_led by promise given _ q m j n l) ∙ sym a.own in
    more_as n.0.number c.args.number q (c.in-Err.k + 1) (fault_by c.args.done) c.report.new.self.regs.faults c.args.raw.now.me.0.own
    c.commit_for-in-Err.new.raw.me.0.own own (sym (ap fault_by c.in-Err.is)) c.commit_for-in-Err.ensures.own
