use Rattle.std.proofs.Common.{rules, ap, sym, ◌∙◌, subst, arith, length}
use Rattle.pw_model.specs.Records.{record_count}
use Rattle.pw_machine.specs.declared.view.View.{View}
use Rattle.pw_books.specs.Books.{Begins}
use Rattle.pw_rule.specs.Plays.{mine}
use Rattle.pw_rule.specs.Rule.{given_of, promise_of}
use Rattle.pw_plan.proofs.RequestBounds.{bound_small}
use Rattle.pw_turns.specs.Begun.{IsReady}
use Rattle.pw_turns.specs.Climb.{Climbs}
use Rattle.pw_turns.specs.Steps.{met_on}
use Rattle.pw_turns.specs.Told.{Told}
use Rattle.pw_turns.specs.Views.{IsAtRest, view_in}
use Rattle.pw_turns.specs.Went.{own_in}
use Rattle.pw_turns.specs.declared.requests.Try.{Try}
use Rattle.pw_turns.proofs.Going.{began_by, went_back, went_by}
use Rattle.pw_turns.proofs.Holding.{begin_tells, rank_low, reaches_keeps}
use Rattle.pw_turns.proofs.Tells.{keeps_met, rests, same, tells_it}
use Rattle.pw_turns.proofs.coordinator.Coordinator.start_with.Goals as goal

pub begin-place-requires-clause-room : goal.begin-place-requires-clause-room
begin-place-requires-clause-room g c = let small = bound_small c.args.self.now.plan c.args.request in let o = c.requires.owns in rw c.clear.ensures (omega (arith, small, o.1))

pub reach-requires-clause-room : goal.reach-requires-clause-room
reach-requires-clause-room g c =
    let small = bound_small c.args.self.now.plan c.args.request in let o = c.requires.owns in rw (c.begin-place.ensures.capacity, c.clear.ensures) (omega (arith, small, o.1))

pub reach-requires-clause-records : goal.reach-requires-clause-records
reach-requires-clause-records g c =
    let low = rank_low c.args.self.now.plan c.args.request c.begin-place.result _ c.begin-place.ensures.place in let room = c.requires.room in omega (arith, low, room)

pub returns-in-Ok-clause-begun : goal.returns-in-Ok-clause-begun
returns-in-Ok-clause-begun g c =
    let by = g.R.Registers in let self = c.args.self.now in let key = self.table.shared.key in let promise = promise_of by key in let given = given_of by key in
    let q = c.args.request in let seat = c.args.seat in let v = c.out-raw.result.me.0.view in
    let is = ap view_in c.out-raw.ensures.view in let r = c.in-Ok.ensures.reaches in rw is (record {
      pair = r.pair;
      count = r.count;
      on = r.on;
      so = record {
        table = search rules;
        reaches = r.so;
        seen = c.in-Ok.ensures.found;
        number = (seat.numbered.0 ∙ ap (λ (v : View). v.number) is, seat.numbered.1);
        parts = (seat.shared.0 ∙ ap (λ (v : View). v.parts) is, seat.shared.1);
        met = keeps_met c.reach.new.met c.reach.new.raw.me.0.view (met_on r.pair r.count v) c.reach.ensures.met
            (reaches_keeps by promise given q seat.number (met_on r.pair r.count v) _ _ _ _ (mine c.reach.new.raw.me) r.so);
        rest = subst IsAtRest is seat.idle;
        ops = search rules;
        room = search rules;
      };
    })

pub returns-in-Ok-clause-asked : goal.returns-in-Ok-clause-asked
returns-in-Ok-clause-asked g c =
    let self = c.args.self.now in let key = self.table.shared.key in let is = ap view_in c.out-raw.ensures.view in let r = c.in-Ok.ensures.reaches in
    let t = begin_tells g.R.Registers (promise_of g.R.Registers key) (given_of g.R.Registers key) c.args.request c.args.seat.number
    (met_on r.pair r.count c.out-raw.result.me.0.view) self.plan self.planned _ _ _ _ _ r.so in record {
      legal = t.0;
      begins = subst (λ (v : View). Begins c.in-Ok.field-0.journal.entries v.seen) (sym is) t.1;
      faultless = t.2;
      reply = t.3;
      ops = t.4;
    }

pub returns-in-Ok-clause-began : goal.returns-in-Ok-clause-began
returns-in-Ok-clause-began g c =
    began_by g.T.Taking.waits c.args.request c.out-raw.result.me.0.own (own_in c.args.seat.badge.views) c.reach.new.raw.me.0.own (ap own_in c.out-raw.ensures.view) c.in-Ok.ensures.own

pub give_back-requires-clause-told : goal.give_back-requires-clause-told
give_back-requires-clause-told g c =
    let given = given_of g.R.Registers c.args.self.now.table.shared.key in let q = c.args.request in let e = c.in-Err.ensures.told in
    let v = met_on e.pair e.count c.out-raw.result.me.0.view in
    (v, subst (λ (r : Try). IsReady given q v c.reach.new.records.items r (mine c.reach.new.raw.me)) (sym c.as_try.ensures) e.so)

pub seated-seat-requires : goal.seated-seat-requires
seated-seat-requires g c =
    let given = given_of g.R.Registers c.args.self.now.table.shared.key in let q = c.args.request in let e = c.in-Err.ensures.told in let seat = c.args.seat in
    let is = ap view_in c.out-raw.ensures.view in let v = met_on e.pair e.count c.out-raw.result.me.0.view in let w = c.give_back.new.raw.me.0.view in
    let r = c.as_try.result in let at_rest : IsAtRest v = subst IsAtRest is seat.idle in
    let climbs = c.give_back.ensures.told v
    (subst (λ (r : Try). IsReady given q v c.reach.new.records.items r (mine c.reach.new.raw.me)) (sym c.as_try.ensures) e.so) in
    let s = same given v q at_rest r w climbs in record {
      none_in_hand = c.give_back.ensures.slots;
      number = (seat.numbered.0 ∙ ap (λ (v : View). v.number) is ∙ sym s.0, seat.numbered.1);
      parts = (seat.shared.0 ∙ ap (λ (v : View). v.parts) is ∙ sym s.1, seat.shared.1);
      seen = c.in-Err.ensures.seen ∙ sym (ap length c.give_back.ensures.seen);
      met = keeps_met c.reach.new.met c.reach.new.raw.me.0.view w c.reach.ensures.met c.give_back.ensures.met;
      rest = rests given v q at_rest r w climbs;
    }

pub returns-clause-told : goal.returns-clause-told
returns-clause-told g c =
    let given = given_of g.R.Registers c.args.self.now.table.shared.key in let q = c.args.request in let e = c.in-Err.ensures.told in
    let is = ap view_in c.out-raw.ensures.view in let v = met_on e.pair e.count c.out-raw.result.me.0.view in let w = c.give_back.new.raw.me.0.view in
    let climbs = c.give_back.ensures.told v
    (subst (λ (r : Try). IsReady given q v c.reach.new.records.items r (mine c.reach.new.raw.me)) (sym c.as_try.ensures) e.so) in
    let r = g.T.Taking.tried c.in-Err.told in let told = subst (λ (r : Try). Climbs given v q r w) c.as_try.ensures climbs in rw is (record {
      pair = e.pair;
      count = e.count;
      on = e.on;
      so = subst (λ (w : View). Told given v q r w) (sym (ap view_in c.seated-seat.ensures.view))
          (tells_it given v q (subst IsAtRest is c.args.seat.idle) r w told);
    })

pub returns-clause-steps : goal.returns-clause-steps
returns-clause-steps g c =
    let v = view_in c.args.seat.badge.views in let last = record_count c.args.self.now.plan in let r = g.T.Taking.tried c.in-Err.told in
    went_by g.T.Taking.waits last c.args.request r c.args.seat.number v.number c.out-raw.result.me.0.own (own_in c.args.seat.badge.views)
    c.give_back.new.raw.me.0.own (own_in c.seated-seat.result.badge.views) c.args.seat.numbered.0 (ap own_in c.out-raw.ensures.view) (ap own_in c.seated-seat.ensures.view)
    (went_back g.T.Taking.waits c.args.request last c.args.seat.number r c.out-raw.result.me.0.own c.reach.new.raw.me.0.own c.give_back.new.raw.me.0.own
    c.in-Err.ensures.own c.give_back.ensures.own)
