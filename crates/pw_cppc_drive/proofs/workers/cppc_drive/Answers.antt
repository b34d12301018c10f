use Rattle.std.proofs.Common.{◌∙◌, ap, inr, length, rules, subst, sym}
use Rattle.pw_cppc_drive.specs.Reading.{requests_of}
use Rattle.pw_cppc_drive.specs.Lawful.{Opened, TellSeats}
use Rattle.pw_cppc_drive.specs.inner.Lists.{AreLists, AreListsFor}
use Rattle.pw_cppc_drive.proofs.Drawn.{failed_at, lists_for, ran_at}
use Rattle.pw_cppc_drive.proofs.workers.cppc_drive.Goals as goal

pub run-requires-clause-parts : goal.run-requires-clause-parts
run-requires-clause-parts g c κs within = ap (λ v. v.parts) c.in-Ok-open.ensures.view.is

pub run-requires-clause-silent : goal.run-requires-clause-silent
run-requires-clause-silent g c κs within = ap (λ v. v.book) c.in-Ok-open.ensures.view.is

pub run-requires-clause-lists : goal.run-requires-clause-lists
run-requires-clause-lists g c κs within =
    let lines = c.args.script.now.lines in
    let lists = c.in-Ok.lists.items in
    subst (λ P. AreListsFor P lists) (sym c.in-Ok-open.ensures.plan)
    (lists_for c.args.plan lines lists c.requires.has (subst (λ ls. AreLists (requests_of ls) (length c.args.plan.cpus) lists) c.as_slice-lines.ensures c.in-Ok.ensures.lists))

pub returns-in-Ok-run-clause-plan : goal.returns-in-Ok-run-clause-plan
returns-in-Ok-run-clause-plan g c = c.in-Ok-run.ensures.plan ∙ c.in-Ok-open.ensures.plan

pub returns-in-Ok-run-clause-lawful : goal.returns-in-Ok-run-clause-lawful
returns-in-Ok-run-clause-lawful g c =
    let desk = c.in-Ok-open.desk in
    let closed = c.in-Ok-run.closed in
    let lists = c.in-Ok.lists.items in
    (ran_at g.R.Registers c.args.plan c.args.script.now.lines c.args.regs desk.plan desk.table.shared.key.regs.value desk.capacity lists closed.entries closed.regs
    c.in-Ok-open.ensures.plan c.in-Ok-open.ensures.given (search rules) c.requires.has
    (subst (λ ls. AreLists (requests_of ls) (length c.args.plan.cpus) lists) c.as_slice-lines.ensures c.in-Ok.ensures.lists) c.in-Ok-run.ensures.made).lawful

pub returns-in-Ok-run-clause-seats : goal.returns-in-Ok-run-clause-seats
returns-in-Ok-run-clause-seats g c =
    let desk = c.in-Ok-open.desk in
    let closed = c.in-Ok-run.closed in
    let lists = c.in-Ok.lists.items in
    (ran_at g.R.Registers c.args.plan c.args.script.now.lines c.args.regs desk.plan desk.table.shared.key.regs.value desk.capacity lists closed.entries closed.regs
    c.in-Ok-open.ensures.plan c.in-Ok-open.ensures.given (search rules) c.requires.has
    (subst (λ ls. AreLists (requests_of ls) (length c.args.plan.cpus) lists) c.as_slice-lines.ensures c.in-Ok.ensures.lists) c.in-Ok-run.ensures.made).seats

pub returns-in-Ok-run-clause-operates : goal.returns-in-Ok-run-clause-operates
returns-in-Ok-run-clause-operates g c =
    let desk = c.in-Ok-open.desk in
    let closed = c.in-Ok-run.closed in
    let lists = c.in-Ok.lists.items in
    (ran_at g.R.Registers c.args.plan c.args.script.now.lines c.args.regs desk.plan desk.table.shared.key.regs.value desk.capacity lists closed.entries closed.regs
    c.in-Ok-open.ensures.plan c.in-Ok-open.ensures.given (search rules) c.requires.has
    (subst (λ ls. AreLists (requests_of ls) (length c.args.plan.cpus) lists) c.as_slice-lines.ensures c.in-Ok.ensures.lists) c.in-Ok-run.ensures.made).operates

pub returns-in-Ok-open-clause-given_back : goal.returns-in-Ok-open-clause-given_back
returns-in-Ok-open-clause-given_back g c =
    let by = g.R.Registers in
    let desk = c.in-Ok-open.desk in
    let back = c.in-Err.regs in
    inr (subst (λ P. Opened by P c.args.regs back) c.in-Ok-open.ensures.plan
    (subst (λ given. Opened by desk.plan given back) c.in-Ok-open.ensures.given c.in-Err.ensures.given_back))

pub returns-in-Err-RegisterFault-clause-lawful : goal.returns-in-Err-RegisterFault-clause-lawful
returns-in-Err-RegisterFault-clause-lawful g c =
    let failed = rw c.in-Err-RegisterFault.field-0-is at c.in-Err-RegisterFault.ensures.fault in
    (failed.1.within, c.from_vec.ensures ∙ c.new.ensures.items)

pub returns-in-Err-RegisterFault-clause-seats : goal.returns-in-Err-RegisterFault-clause-seats
returns-in-Err-RegisterFault-clause-seats g c = subst TellSeats (sym (c.from_vec.ensures ∙ c.new.ensures.items)) tt

pub returns-in-Err-RegisterFault-clause-operates : goal.returns-in-Err-RegisterFault-clause-operates
returns-in-Err-RegisterFault-clause-operates g c =
    let failed = rw c.in-Err-RegisterFault.field-0-is at c.in-Err-RegisterFault.ensures.fault in
    failed_at g.R.Registers c.args.plan c.args.script.now.lines c.args.regs c.in-Err-RegisterFault.done c.in-Err-RegisterFault.regs failed.1
