use Rattle.std.proofs.Common.{ap, false, true, refl, rules}
use Rattle.pw_machine.specs.Steps.{find_record_held, take_record}
use Rattle.pw_turns.proofs.Going.{walked_none, walked_on, walked_one}
use Rattle.pw_turns.proofs.Again.{again_first, again_met}
use Rattle.pw_turns.proofs.waiting.WaitingTaking.obtain_record.Goals as goal

pub loop-init : goal.loop-init
loop-init g c =
    let r = c.requires in (refl, again_first c.args.coordinator.now.plan c.args.raw.now.me.0.view c.args.request r.asks, refl, r.met, walked_none true c.args.request c.args.raw.now.me.0.own)

pub loop-preserved : goal.loop-preserved
loop-preserved g c = (
  search rules,
  again_met c.args.raw.now.me.0.view c.args.request c.loop.raw.me.0.view c.lock_record.new.raw.me.0.view c.args.turn c.in-Err.holder c.loop.invariant.1
      (ap (λ m. m.0) c.in-Err.ensures.view.0.0),
  search rules,
  search rules,
  let k = find_record_held c.args.turn c.args.request false in let o = c.loop.raw.me.0.own in let o1 = c.lock_record.new.raw.me.0.own in
      walked_on true c.args.request c.args.raw.now.me.0.own o o1 c.loop.invariant.4 (walked_one true c.args.request k o o1 (refl, refl, refl) c.in-Err.ensures.own),
)

pub returns-in-Ok-clause-own : goal.returns-in-Ok-clause-own
returns-in-Ok-clause-own g c =
    let t = c.in-Ok.ensures.own in
    let o = c.loop.raw.me.0.own in let o1 = c.lock_record.new.raw.me.0.own in
    walked_on true c.args.request c.args.raw.now.me.0.own o o1 c.loop.invariant.4
    (walked_one true c.args.request (take_record c.args.turn c.args.request t.0) o o1 refl t.1)
