use Rattle.std.proofs.Common.{ap, sym, subst, arith}
use Rattle.pw_machine.specs.declared.view.View.{View}
use Rattle.pw_rule.specs.Rule.{given_of}
use Rattle.pw_turns.specs.Climb.{Climbs}
use Rattle.pw_turns.specs.Steps.{Since, met_on}
use Rattle.pw_turns.specs.Told.{Told}
use Rattle.pw_turns.specs.Views.{view_in}
use Rattle.pw_plan.proofs.RequestBounds.{bound_small}
use Rattle.pw_model.specs.Records.{record_count}
use Rattle.pw_turns.specs.Went.{own_in}
use Rattle.pw_turns.proofs.Going.{went_by}
use Rattle.pw_turns.proofs.Tells.{lists_by, tells_it}
use Rattle.pw_turns.proofs.coordinator.Coordinator.ask.Goals as goal

pub begin-place-requires-clause-room : goal.begin-place-requires-clause-room
begin-place-requires-clause-room g c = let small = bound_small c.args.self.now.plan c.args.request in let o = c.requires.owns in rw c.clear.ensures (omega (arith, small, o.1))

pub climb-told-requires-clause-room : goal.climb-told-requires-clause-room
climb-told-requires-clause-room g c =
    let small = bound_small c.args.self.now.plan c.args.request in let o = c.requires.owns in rw (c.begin-place.ensures.capacity, c.clear.ensures) (omega (arith, small, o.1))

pub returns-clause-told : goal.returns-clause-told
returns-clause-told g c =
    let given = given_of g.R.Registers c.args.self.now.table.shared.key in let q = c.args.request in let v = view_in c.args.seat.now.badge.views in
    let is = ap view_in c.out-raw.ensures.view in let back = ap view_in c.into_badge.ensures.2 in let r = g.T.Taking.tried c.climb-told.result in
    let s = subst (λ (v : View). Since g.T.Taking.waits v (λ u. Climbs given u q r c.climb-told.new.raw.me.0.view)) (sym is) c.climb-told.ensures.told in
    let u = met_on s.pair s.count v in record {
      pair = s.pair;
      count = s.count;
      on = s.on;
      so = subst (λ (w : View). Told given u q r w) (sym back) (tells_it given u q c.args.seat.now.idle r c.climb-told.new.raw.me.0.view s.so);
    }

pub returns-clause-steps : goal.returns-clause-steps
returns-clause-steps g c =
    let v = view_in c.args.seat.now.badge.views in
    went_by g.T.Taking.waits (record_count c.args.self.now.plan) c.args.request (g.T.Taking.tried c.climb-told.result) c.args.seat.now.number v.number
    c.out-raw.result.me.0.own (own_in c.args.seat.now.badge.views) c.climb-told.new.raw.me.0.own (own_in c.into_badge.result.views) c.args.seat.now.numbered.0
    (ap own_in c.out-raw.ensures.view) (ap own_in c.into_badge.ensures.2) c.climb-told.ensures.own

pub returns-clause-lists : goal.returns-clause-lists
returns-clause-lists g c =
    let given = given_of g.R.Registers c.args.self.now.table.shared.key in let v = view_in c.args.seat.now.badge.views in
    lists_by given c.args.request (g.T.Taking.tried c.climb-told.result) c.climb-told.new.ops.elements c.args.seat.now.number v.number
    c.climb-told.new.raw.me.0.view.seen (view_in c.into_badge.result.views).seen c.args.seat.now.numbered.0
    (ap (λ (v : View). v.seen) (ap view_in c.into_badge.ensures.2)) c.climb-told.ensures.lists
