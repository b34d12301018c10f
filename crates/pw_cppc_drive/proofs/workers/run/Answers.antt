use Rattle.std.proofs.Common.{◌≡◌, ◌+◌, ◌∙◌, List, ap, drop, length, rules, subst, sym}
use Rattle.std.specs.List.{AllByRecursion}
use Rattle.pw_cppc_desk.specs.Views.{view_in}
use Rattle.pw_books.proofs.Ended.{all_became_behind, written_back}
use Rattle.pw_cppc_drive.specs.declared.working.Worker.{Worker}
use Rattle.pw_cppc_drive.specs.inner.Gathered.{EndsWith, IsMember}
use Rattle.pw_cppc_drive.specs.inner.Workers.{HasEnded, IsReady}
use Rattle.pw_cppc_drive.proofs.Ending.{all_ready, ended_members, makes, opened, seated_members}
use Rattle.pw_cppc_drive.proofs.workers.run.Goals as goal

pub end-closed-requires-clause-workers : goal.end-closed-requires-clause-workers
end-closed-requires-clause-workers g c =
    seated_members c.args.desk.table.shared.table_id c.args.lists.items c.seat_all.new.workers.items c.seat_all.ensures.seated.each

pub returns-then-not-seat_all-clause-given_back : goal.returns-then-not-seat_all-clause-given_back
returns-then-not-seat_all-clause-given_back g c =
    let desk = c.args.desk in
    opened g.R.Registers desk.plan desk.capacity desk.table.shared.key.regs.value desk.table.shared.table_id c.args.lists.items c.seat_all.new.workers.items
    (view_in c.seat_all.new.first.badge.views) c.end-closed.result.entries c.end-closed.result.regs (c.seat_all.ensures.book ∙ c.requires.silent) c.seat_all.ensures.seated c.end-closed.ensures.ends

pub work_all-requires-after_bounds : goal.work_all-requires-after_bounds
work_all-requires-after_bounds g c κs within =
    let id = c.args.desk.table.shared.table_id in
    let P = c.args.desk.plan in
    subst (AllByRecursion (IsReady id P)) (sym c.as_mut_slice.ensures.value)
    (all_ready id P c.args.lists.items c.seat_all.new.workers.items c.requires.lists c.seat_all.ensures.seated.each)

pub end-requires-clause-parts : goal.end-requires-clause-parts
end-requires-clause-parts g c =
    let vs = c.seat_all.new.workers.items in
    let ws = c.work_all.new.workers in
    let there = c.as_mut_slice.ensures.value in
    let size = c.work_all.ensures.size ∙ ap length there in
    let back = written_back ws (drop (length ws) vs) c.seat_all.new.workers.len (size ∙ sym (ap length there) ∙ c.as_mut_slice.ensures.len) in
    subst (λ (l : List Worker). (view_in c.seat_all.new.first.badge.views).parts + length l ≡ 65536) (sym back) (rw (← size) at c.seat_all.ensures.parts)

pub end-requires-clause-workers : goal.end-requires-clause-workers
end-requires-clause-workers g c =
    let desk = c.args.desk in
    let id = desk.table.shared.table_id in
    let vs = c.seat_all.new.workers.items in
    let ws = c.work_all.new.workers in
    let there = c.as_mut_slice.ensures.value in
    let size = c.work_all.ensures.size ∙ ap length there in
    subst (AllByRecursion (IsMember id)) (sym (written_back ws (drop (length ws) vs) c.seat_all.new.workers.len (size ∙ sym (ap length there) ∙ c.as_mut_slice.ensures.len)))
    (ended_members id desk.capacity c.args.lists.items vs ws (all_became_behind (HasEnded id desk.capacity) vs ws c.as_mut_slice.result.now there c.work_all.ensures.size c.work_all.ensures.ended)
    c.seat_all.ensures.seated.each)

pub returns-clause-made : goal.returns-clause-made
returns-clause-made g c =
    let desk = c.args.desk in
    let id = desk.table.shared.table_id in
    let given = desk.table.shared.key.regs.value in
    let vs = c.seat_all.new.workers.items in
    let ws = c.work_all.new.workers in
    let there = c.as_mut_slice.ensures.value in
    let size = c.work_all.ensures.size ∙ ap length there in
    let v = view_in c.seat_all.new.first.badge.views in
    let back = written_back ws (drop (length ws) vs) c.seat_all.new.workers.len (size ∙ sym (ap length there) ∙ c.as_mut_slice.ensures.len) in
    makes g.R.Registers desk.plan desk.capacity given id c.args.lists.items vs ws v c.end.result.entries c.end.result.regs (c.seat_all.ensures.book ∙ c.requires.silent)
    c.seat_all.ensures.seated (c.seat_all.ensures.all (search rules))
    (all_became_behind (HasEnded id desk.capacity) vs ws c.as_mut_slice.result.now there c.work_all.ensures.size c.work_all.ensures.ended)
    (subst (λ (l : List Worker). EndsWith g.R.Registers desk.plan desk.capacity given v l c.end.result.entries c.end.result.regs) back c.end.ensures.ends)
