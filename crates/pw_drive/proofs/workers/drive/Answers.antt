use Rattle.std.proofs.Common.{◌∙◌, ap, arith, inr, length, refl, rules, subst, sym}
use Rattle.pw_rule.specs.Rule.{given_of, promise_of}
use Rattle.pw_script.specs.Reading.{requests_of}
use Rattle.pw_drive.specs.inner.Lists.{AreLists, AreListsFor}
use Rattle.pw_drive.proofs.Drawn.{few, inside, lists_for, opens, runs, told}
use Rattle.pw_drive.proofs.workers.drive.Goals as goal

pub run-requires-clause-lists : goal.run-requires-clause-lists
run-requires-clause-lists g c κs within =
    let lines = c.args.script.now.lines in
    let lists = c.in-Ok.prepared.lists.items in
    subst (λ P. AreListsFor P lists) (sym c.in-Ok-open.ensures.plan)
    (lists_for c.args.plan lines lists c.requires.has (subst (λ ls. AreLists (requests_of ls) (length c.args.plan.cpus) lists) c.as_slice-lines.ensures c.in-Ok.ensures.lists))

pub returns-in-Ok-run-clause-drove : goal.returns-in-Ok-run-clause-drove
returns-in-Ok-run-clause-drove g c =
    let by = g.R.Registers in
    let P = c.args.plan in
    let lines = c.args.script.now.lines in
    let lists = c.in-Ok.prepared.lists.items in
    let key = c.in-Ok-open.coordinator.table.shared.key in
    let closed = c.in-Ok-run.closed in
    let are = subst (λ ls. AreLists (requests_of ls) (length P.cpus) lists) c.as_slice-lines.ensures c.in-Ok.ensures.lists in (
      c.in-Ok-run.ensures.plan ∙ c.in-Ok-open.ensures.plan,
      runs by P lines _ (search rules) c.args.regs (promise_of by key) (given_of by key) lists c.run.new.each.items closed.sealed.entries closed.regs
          c.in-Ok-open.ensures.told c.in-Ok-open.ensures.room c.in-Ok-open.ensures.given c.requires.has are c.in-Ok-run.ensures.made,
    )

pub returns-in-Ok-open-clause-given_back : goal.returns-in-Ok-open-clause-given_back
returns-in-Ok-open-clause-given_back g c =
    let by = g.R.Registers in
    let key = c.in-Ok-open.coordinator.table.shared.key in
    inr (opens by c.args.plan c.args.script.now.lines _ (search rules) c.args.regs (promise_of by key) (given_of by key) c.in-Err.regs
    c.in-Ok-open.ensures.told c.in-Ok-open.ensures.room c.in-Ok-open.ensures.given c.in-Err.ensures.given_back)

pub in_order-replies-requires-clause-each : goal.in_order-replies-requires-clause-each
in_order-replies-requires-clause-each g c =
    let by = g.R.Registers in
    let P = c.args.plan in
    let lines = c.args.script.now.lines in
    let lists = c.in-Ok.prepared.lists.items in
    let key = c.in-Ok-open.coordinator.table.shared.key in
    let closed = c.in-Ok-run.closed in
    let are = subst (λ ls. AreLists (requests_of ls) (length P.cpus) lists) c.as_slice-lines.ensures c.in-Ok.ensures.lists in
    rw (c.sealed.ensures, c.in-Ok-run.ensures.plan ∙ c.in-Ok-open.ensures.plan)
    (told by P lines _ (search rules) c.args.regs (promise_of by key) (given_of by key) lists c.run.new.each.items closed.sealed.entries closed.regs
    c.in-Ok-open.ensures.given c.requires.has are c.in-Ok-run.ensures.made)

pub in_order-replies-requires-clause-inside : goal.in_order-replies-requires-clause-inside
in_order-replies-requires-clause-inside g c =
    let by = g.R.Registers in
    let P = c.args.plan in
    let lines = c.args.script.now.lines in
    let lists = c.in-Ok.prepared.lists.items in
    let key = c.in-Ok-open.coordinator.table.shared.key in
    let closed = c.in-Ok-run.closed in
    let are = subst (λ ls. AreLists (requests_of ls) (length P.cpus) lists) c.as_slice-lines.ensures c.in-Ok.ensures.lists in
    rw c.sealed.ensures
    (inside by P lines _ (search rules) c.args.regs (promise_of by key) (given_of by key) lists c.run.new.each.items closed.sealed.entries closed.regs
    c.in-Ok-open.ensures.given c.requires.has are c.in-Ok-run.ensures.made)

pub in_order-replies-requires-clause-room : goal.in_order-replies-requires-clause-room
in_order-replies-requires-clause-room g c =
    let by = g.R.Registers in
    let P = c.args.plan in
    let lines = c.args.script.now.lines in
    let key = c.in-Ok-open.coordinator.table.shared.key in
    let closed = c.in-Ok-run.closed in
    let enough = c.in-Ok.ensures.enough in
    let same = ap length c.as_slice-lines.ensures in
    let within = few by P lines _ (search rules) c.args.regs (promise_of by key) (given_of by key) c.in-Ok.prepared.lists.items c.run.new.each.items closed.sealed.entries closed.regs
    c.in-Ok-open.ensures.given c.in-Ok-run.ensures.made in
    rw c.sealed.ensures (omega (arith, enough, same, within))

pub returns-in-Ok-run-clause-replies : goal.returns-in-Ok-run-clause-replies
returns-in-Ok-run-clause-replies g c =
    c.in_order-replies.ensures ∙ rw (c.sealed.ensures, c.in-Ok-run.ensures.plan ∙ c.in-Ok-open.ensures.plan) refl
