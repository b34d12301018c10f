use Rattle.std.proofs.Common.{ap, sym, ◌∙◌, subst, ◌≡◌, ◌++◌, length, []}
use Rattle.pw_plan.specs.Requests.{Has}
use Rattle.pw_model.specs.Records.{record_count}
use Rattle.pw_machine.specs.declared.view.View.{View}
use Rattle.pw_machine.specs.Walk.{next_turn, over, walk}
use Rattle.pw_rule.specs.Plays.{mine}
use Rattle.pw_rule.specs.Rule.{given_of}
use Rattle.pw_turns.specs.HeldRecords.{AreHeld, in_hands}
use Rattle.pw_turns.specs.Steps.{met_on}
use Rattle.pw_turns.proofs.Going.{began_after, turned_after}
use Rattle.pw_turns.proofs.Holding.{held_met, held_number, held_seen, on_after}
use Rattle.pw_turns.proofs.Nexts.{next_is}
use Rattle.pw_books.proofs.Books.{nil_of}
use Rattle.pw_turns.proofs.coordinator.Coordinator.reach.Goals as goal

pub lead-requires-clause-number : goal.lead-requires-clause-number
lead-requires-clause-number g c =
    let given = given_of g.R.Registers c.args.self.now.table.shared.key in let q = c.args.request in let s = c.in-Ok.ensures.held in let h = s.so in
    (c.requires.number.0 ∙ sym (ap (λ (v : View). v.number) h.tells.0 ∙ held_number given q (met_on s.pair s.count c.args.raw.now.me.0.view) h.top h.more h.held), c.requires.number.1)

pub lead-requires-clause-next : goal.lead-requires-clause-next
lead-requires-clause-next g c =
    let self = c.args.self.now in let P = self.plan in let q = c.args.request in let n = mine c.hold.new.raw.me in let h = c.in-Ok.ensures.held.so in
    let done : walk P q n.0.held ≡ over c.in-Ok.reply c.hold.new.ops.elements =
    subst (λ P. walk P q n.0.held ≡ over c.in-Ok.reply c.hold.new.ops.elements) self.planned
    (ap (λ (v : View). walk self.table.shared.key.plan q v.held) h.tells.0 ∙ h.tells.1) in
    next_is P n.0 q (record_count P) c.requires.place.has (ap (next_turn P) done)

pub returns-in-Ok-lead-clause-reaches : goal.returns-in-Ok-lead-clause-reaches
returns-in-Ok-lead-clause-reaches g c =
    let self = c.args.self.now in let given = given_of g.R.Registers self.table.shared.key in let q = c.args.request in let v = c.args.raw.now.me.0.view in
    let n = mine c.hold.new.raw.me in let s = c.in-Ok.ensures.held in let h = s.so in let l = c.in-Ok-lead.ensures.leads in
    let all : c.hold.new.records.items ≡ h.more = h.records ∙ ap (λ l. l ++ h.more) (nil_of c.args.records.now.items c.requires.empty) in
    let held = subst (λ u. AreHeld given q (met_on s.pair s.count v) c.hold.new.records.items u) (sym h.tells.0)
    (subst (λ l. AreHeld given q (met_on s.pair s.count v) l h.top) (sym all) h.held) in record {
      pair = l.pair;
      count = l.count;
      on = on_after given q g.T.Taking.waits v n.0 c.hold.new.records.items s.pair l.pair s.count l.count s.on held l.on;
      so = record {
        top = (met_on l.pair l.count n.0, n.1);
        held = held_met given q l.pair l.count (met_on s.pair s.count v) n.0 c.hold.new.records.items held;
        hands = h.hands ∙ ap (λ m. in_hands h.more m) c.requires.none ∙ ap (λ l. in_hands l []) (sym all);
        awaits = record {
          leads = l.so;
          has = subst (λ P. Has P q) (sym self.planned) c.requires.place.has;
          none_out = ap (λ (v : View). v.out) h.tells.0 ∙ h.tells.3;
          own = c.requires.number.0 ∙ sym (ap (λ (v : View). v.number) h.tells.0 ∙ held_number given q (met_on s.pair s.count v) h.top h.more h.held);
          over = ap (λ (v : View). walk given.plan q v.held) h.tells.0 ∙ h.tells.1;
        };
      };
    }

pub returns-in-Err-lead-clause-told : goal.returns-in-Err-lead-clause-told
returns-in-Err-lead-clause-told g c =
    let self = c.args.self.now in let given = given_of g.R.Registers self.table.shared.key in let q = c.args.request in let v = c.args.raw.now.me.0.view in
    let n = mine c.hold.new.raw.me in let s = c.in-Ok.ensures.held in let h = s.so in let e = c.in-Err-lead.ensures.told in
    let all : c.hold.new.records.items ≡ h.more = h.records ∙ ap (λ l. l ++ h.more) (nil_of c.args.records.now.items c.requires.empty) in
    let held = subst (λ u. AreHeld given q (met_on s.pair s.count v) c.hold.new.records.items u) (sym h.tells.0)
    (subst (λ l. AreHeld given q (met_on s.pair s.count v) l h.top) (sym all) h.held) in record {
      pair = e.pair;
      count = e.count;
      on = on_after given q g.T.Taking.waits v n.0 c.hold.new.records.items s.pair e.pair s.count e.count s.on held e.on;
      so = record {
        top = met_on e.pair e.count n.0;
        held = held_met given q e.pair e.count (met_on s.pair s.count v) n.0 c.hold.new.records.items held;
        hands = c.in-Err-lead.ensures.slots ∙ (h.hands ∙ ap (λ m. in_hands h.more m) c.requires.none ∙ ap (λ l. in_hands l []) (sym all));
        tells = e.so;
      };
    }

pub returns-in-Ok-lead-clause-own : goal.returns-in-Ok-lead-clause-own
returns-in-Ok-lead-clause-own g c =
    began_after g.T.Taking.waits c.args.request c.args.raw.now.me.0.own c.hold.new.raw.me.0.own c.lead.new.raw.me.0.own c.in-Ok.ensures.own c.in-Ok-lead.ensures.own

pub returns-in-Err-lead-clause-own : goal.returns-in-Err-lead-clause-own
returns-in-Err-lead-clause-own g c =
    turned_after g.T.Taking.waits c.args.request _ c.args.number _ c.args.raw.now.me.0.own c.hold.new.raw.me.0.own c.lead.new.raw.me.0.own
    c.in-Ok.ensures.own c.in-Err-lead.ensures.own

pub lead-requires-clause-seen : goal.lead-requires-clause-seen
lead-requires-clause-seen g c =
    let given = given_of g.R.Registers c.args.self.now.table.shared.key in let q = c.args.request in let s = c.in-Ok.ensures.held in let h = s.so in
    c.requires.seen
    ∙ sym (ap length (ap (λ (v : View). v.seen) h.tells.0 ∙ held_seen given q (met_on s.pair s.count c.args.raw.now.me.0.view) h.top h.more h.held))

pub returns-in-Err-clause-told : goal.returns-in-Err-clause-told
returns-in-Err-clause-told g c =
    let given = given_of g.R.Registers c.args.self.now.table.shared.key in let q = c.args.request in let s = c.in-Err.ensures.held in let h = s.so in
    let v = met_on s.pair s.count c.args.raw.now.me.0.view in
    let all : c.hold.new.records.items ≡ h.more = h.records ∙ ap (λ l. l ++ h.more) (nil_of c.args.records.now.items c.requires.empty) in record {
      pair = s.pair;
      count = s.count;
      on = s.on;
      so = record {
        top = h.top;
        held = subst (λ l. AreHeld given q v l h.top) (sym all) h.held;
        hands = h.hands ∙ ap (λ m. in_hands h.more m) c.requires.none ∙ ap (λ l. in_hands l []) (sym all);
        tells = h.tells.0;
      };
    }

pub returns-in-Err-clause-seen : goal.returns-in-Err-clause-seen
returns-in-Err-clause-seen g c =
    let given = given_of g.R.Registers c.args.self.now.table.shared.key in let q = c.args.request in let s = c.in-Err.ensures.held in let h = s.so in
    c.requires.seen ∙ sym (ap length (h.tells.2 ∙ held_seen given q (met_on s.pair s.count c.args.raw.now.me.0.view) h.top h.more h.held))

pub returns-in-Err-clause-none : goal.returns-in-Err-clause-none
returns-in-Err-clause-none g c = c.in-Err.ensures.held.so.tells.1
