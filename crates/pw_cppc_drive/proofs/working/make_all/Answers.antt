use Rattle.std.proofs.Common.{◌∙◌, refl, sym}
use Rattle.pw_cppc_desk.specs.Views.{view_in}
use Rattle.pw_cppc_drive.proofs.WorkersMaking.{ends_here, goes_on, same_parts}
use Rattle.pw_cppc_drive.proofs.working.make_all.Goals as goal

pub returns-then-not-was_answered-clause-made : goal.returns-then-not-was_answered-clause-made
returns-then-not-was_answered-clause-made g c =
    let l = c.loop-request in
    let desk = c.args.desk.now in
    ends_here desk.plan desk.capacity c.args.requests.now l.request-index _ c.loop-request-test.true _ refl (view_in l.seat.badge.views)
    (view_in c.request-done.new.seat.badge.views) l.invariant.asked c.request-done.result c.request-done.ensures.told (sym c.was_answered.ensures ∙ c.if-not-was_answered.true)

pub loop-request-preserved : goal.loop-request-preserved
loop-request-preserved g c =
    let l = c.loop-request in
    let desk = c.args.desk.now in
    let v = view_in l.seat.badge.views in
    let w = view_in c.request-done.new.seat.badge.views in
    record {
      owns = c.request-done.ensures.owns;
      parts = same_parts desk.plan desk.capacity c.args.requests.now l.request-index _ c.loop-request-test.true _ refl v w l.invariant.asked c.request-done.result c.request-done.ensures.told
          ∙ l.invariant.parts;
      asked = goes_on desk.plan desk.capacity c.args.requests.now l.request-index _ c.loop-request-test.true _ refl v w l.invariant.asked c.request-done.result c.request-done.ensures.told
          (sym c.was_answered.ensures ∙ c.if-not-was_answered.false);
    }
