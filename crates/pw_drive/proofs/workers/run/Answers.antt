use Rattle.std.proofs.Common.{◌∙◌, ap, arith, length, subst, sym}
use Rattle.pw_drive.proofs.Lining.{where_ok}
use Rattle.pw_rule.specs.Rule.{given_of, promise_of}
use Rattle.pw_turns.specs.Views.{view_in}
use Rattle.pw_drive.specs.inner.Runs.{LeavesNone}
use Rattle.pw_drive.proofs.Beginning.{all_became, all_ended}
use Rattle.pw_drive.proofs.Ending.{all_ready, ended_inside, ended_members, leaves_none, makes, seated_inside}
use Rattle.pw_drive.proofs.workers.run.Goals as goal

pub returns-then-is_err-clause-given_back : goal.returns-then-is_err-clause-given_back
returns-then-is_err-clause-given_back g c =
    let key = c.args.coordinator.table.shared.key in
    let by = g.R.Registers in
    subst (LeavesNone by (promise_of by key) (given_of by key)) (sym (ap (λ p. p.1) c.into_parts-sealed.ensures))
    (leaves_none by (promise_of by key) (given_of by key) c.args.coordinator.table.shared.table_id c.args.lists.items c.seat_all.new.workers.items
    (view_in c.seat_all.new.first.badge.views) c.end.result.sealed.entries c.end.result.regs (c.seat_all.ensures.book ∙ c.requires.silent) c.seat_all.ensures.seated c.end.ensures.ends)

pub work_all-done-requires-clause-ready : goal.work_all-done-requires-clause-ready
work_all-done-requires-clause-ready g c κs within =
    all_ready c.args.coordinator.table.shared.table_id c.args.coordinator.plan c.args.lists.items c.seat_all.new.workers.items c.requires.lists c.seat_all.ensures.seated.each

pub work_all-done-requires-clause-room : goal.work_all-done-requires-clause-room
work_all-done-requires-clause-room g c κs within =
    let few = c.seat_all.ensures.few in
    let begun = c.requires.more.0 in
    let done = c.requires.more.1 in
    (omega (arith, few, begun), omega (arith, few, done))

pub end-requires-2-clause-parts : goal.end-requires-2-clause-parts
end-requires-2-clause-parts g c =
    let id = c.args.coordinator.table.shared.table_id in
    let given = given_of g.R.Registers c.args.coordinator.table.shared.key in
    let many = all_ended id given c.seat_all.new.workers.items c.work_all-done.result.items c.work_all-done.ensures in
    let parts = c.seat_all.ensures.parts in
    omega (arith, many, parts)

pub end-requires-2-clause-workers : goal.end-requires-2-clause-workers
end-requires-2-clause-workers g c =
    let id = c.args.coordinator.table.shared.table_id in
    let given = given_of g.R.Registers c.args.coordinator.table.shared.key in
    let vs = c.seat_all.new.workers.items in
    let ws = c.work_all-done.result.items in
    ended_members id given c.args.lists.items vs ws (all_became id given vs ws c.work_all-done.ensures) c.seat_all.ensures.seated.each

pub returns-clause-made : goal.returns-clause-made
returns-clause-made g c =
    let key = c.args.coordinator.table.shared.key in
    let by = g.R.Registers in
    let id = c.args.coordinator.table.shared.table_id in
    let given = given_of by key in
    let vs = c.seat_all.new.workers.items in
    let ws = c.work_all-done.result.items in
    let v = view_in c.seat_all.new.first.badge.views in
    let goes = sym c.is_err.ensures.value ∙ c.if-is_err.false in
    makes by (promise_of by key) given id c.args.lists.items c.seat_all.new.each.items vs ws v c.end-2.result.sealed.entries c.end-2.result.regs (c.seat_all.ensures.book ∙ c.requires.silent)
    c.seat_all.ensures.seated (where_ok c.seat_all.result goes c.seat_all.ensures.all) (all_became id given vs ws c.work_all-done.ensures) c.seat_all.ensures.empty c.end-2.ensures.ends
    c.end-2.new.each.items c.end-2.ensures.handed

pub end-requires-clause-inside : goal.end-requires-clause-inside
end-requires-clause-inside g c =
    seated_inside c.args.coordinator.table.shared.table_id c.args.lists.items (length c.seat_all.new.each.items) c.seat_all.ensures.empty.size c.seat_all.new.workers.items
    c.seat_all.ensures.seated.each

pub end-requires-2-clause-inside : goal.end-requires-2-clause-inside
end-requires-2-clause-inside g c =
    let id = c.args.coordinator.table.shared.table_id in
    let given = given_of g.R.Registers c.args.coordinator.table.shared.key in
    let vs = c.seat_all.new.workers.items in
    let ws = c.work_all-done.result.items in
    ended_inside id given c.args.lists.items (length c.seat_all.new.each.items) c.seat_all.ensures.empty.size vs ws (all_became id given vs ws c.work_all-done.ensures)
    c.seat_all.ensures.seated.each
