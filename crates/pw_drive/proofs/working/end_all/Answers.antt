use Rattle.std.proofs.Common.{◌≡◌, ◌∷◌, ◌++◌, ◌∙◌, [], ap, append-nil, append_assoc, arith, length, rules, subst, sym}
use Rattle.std.proofs.lemmas.List.{length-append}
use Rattle.std.specs.Vec.Iter.{into_iter_items}
use Rattle.pw_drive.proofs.Beginning.{AreEnds, have_ended, none_left}
use Rattle.pw_drive.proofs.working.end_all.Goals as goal

pub loop-one-preserved : goal.loop-one-preserved
loop-one-preserved g c =
    let l = c.loop-one in
    let left = into_iter_items c.next.new.self in
    let step = c.in-Some.ensures.steps in
    let w = c.ended.result in
    let pushed = c.push_reserved.ensures in
    record {
      room = let before = l.invariant.room in let one = ap length step.0 in let more = ap length pushed.items ∙ length-append l.done.items (w ∷ []) in let same = pushed.capacity in
          omega (arith, before, one, more, same);
      goes_on = λ ws are. subst (AreEnds g.R.Registers c.args.begun.items) (sym (append_assoc l.done.items (w ∷ []) ws) ∙ ap (λ l. l ++ ws) (sym pushed.items))
          (l.invariant.goes_on (w ∷ ws) (subst (λ bs. AreEnds g.R.Registers bs (w ∷ ws)) (sym step.0) (c.ended.ensures, are)));
    }

pub returns : goal.returns
returns g c id given vs will =
    let l = c.loop-one in
    let none : length (into_iter_items l.one-iterator) ≡ 0 = search rules in
    have_ended g.R.Registers id given vs c.args.begun.items l.done.items will
    (subst (AreEnds g.R.Registers c.args.begun.items) (append-nil l.done.items)
    (l.invariant.goes_on [] (none_left (AreEnds g.R.Registers) (into_iter_items l.one-iterator) none tt)))
