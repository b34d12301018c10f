use Rattle.std.proofs.Common.{rules, refl, ap, sym, ◌∙◌, subst, arith, ◌∷◌, [], length, length-append}
use Rattle.pw_machine.specs.declared.view.View.{View}
use Rattle.pw_rule.specs.Plays.{mine}
use Rattle.pw_rule.specs.Rule.{given_of, promise_of}
use Rattle.pw_journal.specs.contracts.reported.ReportedRegistersRegisters.TheImpl.{ghosts}
use Rattle.pw_turns.specs.Asked.{entry_as}
use Rattle.pw_turns.specs.Begun.{Awaits, fault_by}
use Rattle.pw_turns.specs.Listed.{Lists}
use Rattle.pw_turns.specs.Steps.{met_on}
use Rattle.pw_turns.specs.Told.{Told}
use Rattle.pw_turns.specs.TwoSteps.{IsBegun}
use Rattle.pw_turns.specs.Views.{view_in}
use Rattle.pw_turns.specs.Went.{own_in}
use Rattle.pw_turns.specs.declared.requests.Try.{Try}
use Rattle.pw_turns.proofs.Climbing.{ops_are}
use Rattle.pw_turns.proofs.Finishing.{finishes_told}
use Rattle.pw_turns.proofs.Going.{ended_by, ends_so}
use Rattle.pw_turns.proofs.Said.{keeps_told, lists_said, said, said_is}
use Rattle.pw_turns.proofs.Tells.{keeps_met, rests, same, tells_it}
use Rattle.pw_turns.proofs.two_steps.Coordinator+ReportedRegisters+K.end_begun.Goals as goal

pub seated-seat-requires : goal.seated-seat-requires
seated-seat-requires g c =
    let by = ghosts in let key = c.args.self.now.table.shared.key in let given = given_of by key in let begun = c.args.begun in let q = begun.request in
    let v = c.requires.begun.0 in let b = c.requires.begun.1 in let r = c.enter-told.result in let w = c.give_back.new.raw.me.0.view in
    let awaits = subst (λ l. Awaits by (promise_of by key) given q begun.reply l begun.number b.reaches.top begun.journal (mine begun.raw.me))
    (sym c.listed-list.ensures.list) b.reaches.awaits in
    let e = c.enter-told.ensures.told b.reaches.top awaits in
    let climbs = c.give_back.ensures.told v (record { top = b.reaches.top.0; held = b.reaches.held; hands = e.1 ∙ b.reaches.hands; tells = e.0 }) in
    let s = same given v q b.rest r w climbs in
    let told = subst (λ (r : Try). Told given v q r w) c.enter-told.ensures.is (tells_it given v q b.rest r w climbs) in
    let seen = c.give_back.ensures.seen ∙ c.enter-told.ensures.seen in
    let long = ap length seen in let append = length-append begun.journal.entries (entry_as begun.number q (fault_by c.args.done) ∷ []) in let was = b.seen in record {
      none_in_hand = c.give_back.ensures.slots;
      number = (b.number.0 ∙ sym s.0, b.number.1);
      parts = (b.parts.0 ∙ sym s.1, b.parts.1);
      seen = omega (arith, long, append, was);
      met = keeps_met begun.met v w b.met (keeps_told given v q begun.reply c.args.done w told);
      rest = rests given v q b.rest r w climbs;
    }

pub returns : goal.returns
returns g c =
    let by = ghosts in let key = c.args.self.now.table.shared.key in let given = given_of by key in let begun = c.args.begun in let q = begun.request in
    let r = c.enter-told.result in let w = c.give_back.new.raw.me.0.view in let views = c.seated-seat.ensures.view in let back = ap view_in views in
    let was = c.requires.begun.1 in let j = begun.journal in
    let told : (v : View) → IsBegun by key c.args.self.now.table.shared.table_id v begun → Told given v q r (view_in c.seated-seat.result.badge.views) = λ v b. (
    let awaits = subst (λ l. Awaits by (promise_of by key) given q begun.reply l begun.number b.reaches.top begun.journal (mine begun.raw.me))
    (sym c.listed-list.ensures.list) b.reaches.awaits in
    let e = c.enter-told.ensures.told b.reaches.top awaits in
    let climbs = c.give_back.ensures.told v (record { top = b.reaches.top.0; held = b.reaches.held; hands = e.1 ∙ b.reaches.hands; tells = e.0 }) in
    subst (λ (w : View). Told given v q r w) (sym back) (tells_it given v q b.rest r w climbs)
    ) in
    let seen = ap (λ (v : View). v.seen) back ∙ c.give_back.ensures.seen ∙ c.enter-told.ensures.seen in
    let a = was.reaches.awaits in
    let ops = ops_are by (promise_of by key) given _ q was.reaches.top j (mine begun.raw.me) a.leads.led given.plan begun.reply begun.ops.elements refl a.has a.over in record {
      owns = search rules;
      room = rw c.give_back.ensures.room was.room;
      is = c.enter-told.ensures.is;
      seen = seen;
      told = told;
      finished = λ v s. (
        said begun.reply c.args.done,
        c.enter-told.ensures.is ∙ said_is begun.reply c.args.done,
        finishes_told given v q s.pair s.count s.on (said begun.reply c.args.done) (view_in c.seated-seat.result.badge.views)
            (subst (λ (r : Try). Told given (met_on s.pair s.count v) q r (view_in c.seated-seat.result.badge.views))
            (c.enter-told.ensures.is ∙ said_is begun.reply c.args.done) (told (met_on s.pair s.count v) s.so)),
      );
      ended = ended_by begun.number q (fault_by c.args.done) begun.raw.me.0.own c.give_back.new.raw.me.0.own (own_in c.seated-seat.result.badge.views) (ap own_in views)
          (ends_so begun.number q (fault_by c.args.done) c.enter-told.ensures.own.0 begun.raw.me.0.own c.enter-told.new.raw.me.0.own c.give_back.new.raw.me.0.own
          c.enter-told.ensures.own.1 c.give_back.ensures.own);
      lists = rw c.seated-seat.ensures.ops
          (subst (λ (r : Try). Lists given begun.number q r (view_in c.seated-seat.result.badge.views).seen begun.ops.elements) (sym c.enter-told.ensures.is)
          (lists_said given begun.number q begun.reply c.args.done j.entries (view_in c.seated-seat.result.badge.views).seen begun.ops.elements seen ops));
    }
