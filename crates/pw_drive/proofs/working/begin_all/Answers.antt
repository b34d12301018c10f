use Rattle.std.proofs.Common.{◌≡◌, ◌∷◌, ◌++◌, ◌∙◌, [], ap, append-nil, append_assoc, arith, length, rules, subst, sym}
use Rattle.std.proofs.lemmas.List.{length-append}
use Rattle.std.specs.List.{AllByRecursion}
use Rattle.std.specs.Vec.Iter.{into_iter_items}
use Rattle.pw_rule.specs.Rule.{given_of}
use Rattle.pw_drive.specs.inner.Begun.{AllWillEnd}
use Rattle.pw_drive.specs.inner.Workers.{IsReady}
use Rattle.pw_drive.proofs.Beginning.{none_left}
use Rattle.pw_drive.proofs.working.begin_all.Goals as goal

pub loop-worker-preserved : goal.loop-worker-preserved
loop-worker-preserved g c =
    let l = c.loop-worker in
    let id = c.args.coordinator.now.table.shared.table_id in
    let given = given_of g.R.Registers c.args.coordinator.now.table.shared.key in
    let step = c.in-Some.ensures.steps in
    let b = c.begin.result in
    let pushed = c.push_reserved.ensures in
    record {
      ready = (subst (AllByRecursion (IsReady id c.args.coordinator.now.plan)) step.0 l.invariant.ready).1;
      room = let before = l.invariant.room in let one = ap length step.0 in let more = ap length pushed.items ∙ length-append l.begun.items (b ∷ []) in let same = pushed.capacity in
          omega (arith, before, one, more, same);
      goes_on = λ bs will. subst (AllWillEnd g.R.Registers id given c.args.workers.items) (sym (append_assoc l.begun.items (b ∷ []) bs) ∙ ap (λ l. l ++ bs) (sym pushed.items))
          (l.invariant.goes_on (b ∷ bs) (subst (λ vs. AllWillEnd g.R.Registers id given vs (b ∷ bs)) (sym step.0) (c.begin.ensures, will)));
    }

pub returns : goal.returns
returns g c =
    let l = c.loop-worker in
    let id = c.args.coordinator.now.table.shared.table_id in
    let given = given_of g.R.Registers c.args.coordinator.now.table.shared.key in
    let none : length (into_iter_items l.worker-iterator) ≡ 0 = search rules in
    subst (AllWillEnd g.R.Registers id given c.args.workers.items) (append-nil l.begun.items)
    (l.invariant.goes_on [] (none_left (AllWillEnd g.R.Registers id given) (into_iter_items l.worker-iterator) none tt))
