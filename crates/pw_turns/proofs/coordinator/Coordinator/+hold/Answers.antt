use Rattle.std.proofs.Common.{rules, refl, ap, sym, ◌∙◌, subst, arith, ◌≡◌, ◌<◌, append-nil, [], Ok, Err}
use Rattle.pw_model.specs.Records.{record_count}
use Rattle.pw_machine.specs.declared.view.View.{View}
use Rattle.pw_machine.specs.Steps.{Asks, taken}
use Rattle.pw_machine.specs.Walk.{left, next_turn, over, walk}
use Rattle.pw_rule.specs.Plays.{Mine, mine}
use Rattle.pw_rule.specs.Rule.{given_of}
use Rattle.pw_walker.specs.Places.{walk_of}
use Rattle.pw_turns.specs.Contents.{FitsIn, TakesPlace}
use Rattle.pw_turns.specs.Steps.{content_part, met_on}
use Rattle.pw_turns.specs.inner.Taking.{Holds, told_in}
use Rattle.pw_turns.proofs.Again.{since_now}
use Rattle.pw_turns.proofs.Climbing.{asks_taken}
use Rattle.pw_turns.proofs.Finishing.{asks_met}
use Rattle.pw_turns.proofs.Frames.{falls, walks}
use Rattle.pw_turns.proofs.Going.{held_on, walked_none}
use Rattle.pw_turns.proofs.Holding.{holds_more, since_taken}
use Rattle.pw_turns.proofs.InHand.{takes_turn, turn_low}
use Rattle.pw_turns.proofs.Nexts.{next_is}
use Rattle.pw_turns.proofs.coordinator.Coordinator.+hold.Goals as goal

pub returns-in-Over-clause-held : goal.returns-in-Over-clause-held
returns-in-Over-clause-held g t c =
    let self = c.args.self.now in let given = given_of g.R.Registers self.table.shared.key in let q = c.args.request in let m = mine c.args.raw.now.me in
    let ops = c.args.ops.now.elements in let all = c.args.records.now.items in
    let stands : walk self.plan q m.0.held ≡ over c.in-Over.reply ops = c.requires.walk ∙ ap (λ p. walk_of p ops) c.in-Over.is in
    since_now g.T.Taking.waits m.0 (λ u. Holds given q (u, m.1) all (Ok c.in-Over.reply) ops all m) (record {
      more = [];
      top = m.0;
      records = sym (append-nil all);
      held = refl;
      hands = refl;
      tells = (
        refl,
        subst (λ P. walk P q m.0.held ≡ over c.in-Over.reply ops) (sym self.planned) stands,
        subst (λ P. Asks P m.0 q) (sym self.planned) c.requires.asks.0,
        c.requires.asks.1,
      );
    })

pub returns-in-Over-clause-own : goal.returns-in-Over-clause-own
returns-in-Over-clause-own g t c = walked_none g.T.Taking.waits c.args.request c.args.raw.now.me.0.own

pub obtain_record-requires : goal.obtain_record-requires
obtain_record-requires g t c =
    let P = c.args.self.now.plan in let q = c.args.request in let ops = c.args.ops.now.elements in let place = c.args.place in
    let turn = c.next_turn-turn.ensures ops in record {
      id = search rules;
      asks = c.requires.asks.0;
      turn = subst (λ n. n < record_count P) (sym turn) (turn_low P q ops place c.requires.place c.in_default.not-Over);
      next = next_is P c.args.raw.now.me.0.view q c.next_turn-turn.result c.requires.place.has (ap (next_turn P) c.requires.walk ∙ sym turn);
      number = c.requires.number;
      met = c.requires.met;
    }

pub hold-requires : goal.hold-requires
hold-requires g t c κs within =
    let P = c.args.self.now.plan in let q = c.args.request in let turn = c.next_turn-turn.result in
    let on = c.in-Ok.ensures.took in let o = on.so in let v = met_on on.pair on.count c.args.raw.now.me.0.view in
    let is = ap (λ m. m.0) o.is in let x = content_part c.in-Ok.content in let s = c.step_content-next.ensures in
    let f = falls P q c.args.place c.step_content-next.result.0 c.args.ops.now.elements c.step_content-next.new.ops.elements x c.requires.place c.in_default.not-Over s.walk in
    let room = c.requires.records in let size = c.push_reserved.ensures.len in let keeps = c.push_reserved.ensures.capacity in (
      omega (arith, f, c.decreases),
      (
        search rules,
        (
          search rules,
          (
            search rules,
            (
              search rules,
              (
                search rules,
                (
                  search rules,
                  (
                    (
                      subst (λ (v : View). Asks P v q) (sym is) (asks_taken P v q turn x (asks_met P c.args.raw.now.me.0.view q on.pair on.count c.requires.asks.0)),
                      ap (λ (v : View). v.out) is ∙ c.requires.asks.1,
                    ),
                    (
                      s.place,
                      (
                        walks P q v c.obtain_record.new.raw.me.0.view turn x (walk_of c.args.place c.args.ops.now.elements) _ is c.requires.walk s.walk,
                        (search rules, (omega (arith, f, room, size, keeps), search rules)),
                      ),
                    ),
                  ),
                ),
              ),
            ),
          ),
        ),
      ),
    )

pub returns : goal.returns
returns g t c =
    let self = c.args.self.now in let P = self.plan in let given = given_of g.R.Registers self.table.shared.key in
    let q = c.args.request in let v = c.args.raw.now.me.0.view in let turn = c.next_turn-turn.result in let ops = c.args.ops.now.elements in
    let w = c.in-Ok.ensures.took in let o = w.so in let x = content_part c.in-Ok.content in
    let s = c.step_content-next.ensures in let y = c.step_content-next.new.content in
    let n = c.next_turn-turn.ensures ops in
    let low = subst (λ n. n < record_count P) (sym n) (turn_low P q ops c.args.place c.requires.place c.in_default.not-Over) in
    let moved = s.part ∙ ap (λ w. left P q w x) (sym c.requires.walk) ∙ ap (λ P. left P q (walk P q v.held) x) (sym self.planned) in
    let same = subst (λ P. TakesPlace P c.in-Ok.content y) (sym self.planned) s.same in
    let n1 : Mine g.row.R.Denot = mine c.obtain_record.new.raw.me in
    let since = since_taken g.T.Taking.waits v n1.0 turn q x w.pair w.count w.on (ap (λ m. m.0) o.is)
    (λ (u : View). Holds given q (u, n1.1) c.push_reserved.new.self.items (told_in g.T.Taking.tried c.hold.result) c.hold.new.ops.elements c.hold.new.records.items (mine c.hold.new.raw.me))
    c.hold.ensures.held in
    let u = met_on since.pair since.count v in record {
      id = search rules;
      capacity = search rules;
      room = c.hold.ensures.room ∙ c.push_reserved.ensures.capacity;
      met = search rules;
      held = record {
        pair = since.pair;
        count = since.count;
        on = since.on;
        so = holds_more given q (u, c.args.raw.now.me.1) c.args.records.now.items c.push_reserved.new.self.items
            (record { turn = turn; content = y; old = c.step_content-next.result.1 }) x record {
              fresh = o.new;
              none_out = c.requires.asks.1;
              low = subst (λ P. turn < record_count P) (sym self.planned) low;
              holds = takes_turn given.plan turn c.in-Ok.content y o.holds same;
              fits = subst (λ P. FitsIn P y c.step_content-next.result.1) (sym self.planned) s.fits;
              moved = moved;
              back = s.back;
            } (taken turn q x u, n1.1) (ap (λ l. (taken turn q x u, l)) (ap (λ m. m.1) o.is)) c.push_reserved.ensures.items
            (told_in g.T.Taking.tried c.hold.result) c.hold.new.ops.elements c.hold.new.records.items (mine c.hold.new.raw.me) since.so;
      };
      own = held_on g.T.Taking.waits (record_count P) c.args.number q g.T.Taking.tried c.args.raw.now.me.0.own c.obtain_record.new.raw.me.0.own
          c.hold.new.raw.me.0.own c.in-Ok.ensures.own c.hold.result c.hold.ensures.own;
    }

pub returns-in-Err-clause-held : goal.returns-in-Err-clause-held
returns-in-Err-clause-held g t c =
    let self = c.args.self.now in let given = given_of g.R.Registers self.table.shared.key in let q = c.args.request in let m = mine c.args.raw.now.me in
    let all = c.args.records.now.items in let n = mine c.obtain_record.new.raw.me in
    since_now g.T.Taking.waits m.0 (λ u. Holds given q (u, m.1) all (Err (g.T.Taking.tried c.in-Err.told)) c.args.ops.now.elements all n) (record {
      more = [];
      top = m.0;
      records = sym (append-nil all);
      held = refl;
      hands = c.in-Err.ensures.slots;
      tells = c.in-Err.ensures.told;
    })
