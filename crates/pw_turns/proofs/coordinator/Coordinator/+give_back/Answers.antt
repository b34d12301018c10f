use Rattle.std.proofs.Common.{rules, ap, sym, ◌∙◌, subst, arith, ◌<◌, ◌∷◌, None}
use Rattle.atomic_table.specs.Table.{rest}
use Rattle.pw_plan.specs.Requests.{Has}
use Rattle.pw_model.specs.Records.{record_count}
use Rattle.pw_rule.specs.Contents.{IsRecordOf}
use Rattle.pw_rule.specs.Plays.{mine}
use Rattle.pw_rule.specs.Rule.{given_of}
use Rattle.pw_turns.specs.Contents.{FitsIn}
use Rattle.pw_turns.specs.Steps.{content_part}
use Rattle.pw_turns.proofs.Going.{gave_first, gave_none}
use Rattle.pw_turns.proofs.Holding.{hands_are, last, last_free, others_ready}
use Rattle.pw_turns.proofs.InHand.{content_of, takes_turn}
use Rattle.pw_turns.proofs.coordinator.Coordinator.+give_back.Goals as goal

pub settle-requires-clause-of : goal.settle-requires-clause-of
settle-requires-clause-of g t c =
    let self = c.args.self.now in let P = self.plan in let q = c.args._request in let given = given_of g.R.Registers self.table.shared.key in let h = c.in-Some.held in
    let has = subst (λ P. Has P q) (sym self.planned) c.requires.has in
    let l = last given q has c.requires.told.0 c.args.records.now.items c.pop.new.self.items h c.in-Some.ensures.items c.args.told (mine c.args.raw.now.me) c.requires.told.1 in
    content_of P h.turn h.content (content_part h.content) (subst (λ P. IsRecordOf P h.turn (content_part h.content) h.content) self.planned l.is.holds)

pub settle-requires-clause-fits : goal.settle-requires-clause-fits
settle-requires-clause-fits g t c =
    let self = c.args.self.now in let q = c.args._request in let given = given_of g.R.Registers self.table.shared.key in let h = c.in-Some.held in
    let has = subst (λ P. Has P q) (sym self.planned) c.requires.has in
    let l = last given q has c.requires.told.0 c.args.records.now.items c.pop.new.self.items h c.in-Some.ensures.items c.args.told (mine c.args.raw.now.me) c.requires.told.1 in
    subst (λ P. FitsIn P h.content h.old) self.planned l.is.fits

pub unlock_record-requires : goal.unlock_record-requires
unlock_record-requires g t c =
    let self = c.args.self.now in let P = self.plan in let q = c.args._request in let given = given_of g.R.Registers self.table.shared.key in let h = c.in-Some.held in
    let has = subst (λ P. Has P q) (sym self.planned) c.requires.has in let items = c.in-Some.ensures.items in let m = mine c.args.raw.now.me in
    let l = last given q has c.requires.told.0 c.args.records.now.items c.pop.new.self.items h items c.args.told m c.requires.told.1 in
    let hands = hands_are given q has c.requires.told.0 c.args.records.now.items c.pop.new.self.items h items c.args.told m c.requires.told.1 in
    let free = last_free given q has c.requires.told.0 c.args.records.now.items c.pop.new.self.items h items c.args.told m c.requires.told.1
    (content_part c.settle.new.content) c.settle.ensures.part in record {
      id = search rules;
      turn = subst (λ P. h.turn < record_count P) self.planned l.is.low;
      out = hands ∙ ap (λ l. (h.turn, None) ∷ l) (sym (ap rest hands));
      holds = takes_turn P h.turn h.content c.settle.new.content
          (subst (λ P. IsRecordOf P h.turn (content_part h.content) h.content) self.planned l.is.holds) c.settle.ensures.same;
      noted = free.1;
      releasing = (free.0, free.2);
    }

pub give_back-requires : goal.give_back-requires
give_back-requires g t c κs within =
    let self = c.args.self.now in let q = c.args._request in let given = given_of g.R.Registers self.table.shared.key in let h = c.in-Some.held in
    let has = subst (λ P. Has P q) (sym self.planned) c.requires.has in let v = c.requires.told.0 in let m = mine c.args.raw.now.me in
    let hands = hands_are given q has v c.args.records.now.items c.pop.new.self.items h c.in-Some.ensures.items c.args.told m c.requires.told.1 in
    let back = c.unlock_record.ensures.view in let fewer = c.in-Some.ensures.len in
    let ready = others_ready given q has v c.args.records.now.items c.pop.new.self.items h c.in-Some.ensures.items c.args.told m c.requires.told.1
    (mine c.unlock_record.new.raw.me) (ap (λ m. m.0) back) (ap (λ m. m.1) back ∙ ap rest hands) in
    (omega (arith, fewer, c.decreases), (search rules, (search rules, (search rules, (search rules, (c.requires.has, (v, ready)))))))

pub returns-clause-told : goal.returns-clause-told
returns-clause-told g t c = λ v ready.
    let self = c.args.self.now in let q = c.args._request in let given = given_of g.R.Registers self.table.shared.key in let h = c.in-Some.held in
    let has = subst (λ P. Has P q) (sym self.planned) c.requires.has in let m = mine c.args.raw.now.me in
    let hands = hands_are given q has v c.args.records.now.items c.pop.new.self.items h c.in-Some.ensures.items c.args.told m ready in
    let back = c.unlock_record.ensures.view in
    c.give_back.ensures.told v (others_ready given q has v c.args.records.now.items c.pop.new.self.items h c.in-Some.ensures.items c.args.told m ready
    (mine c.unlock_record.new.raw.me) (ap (λ m. m.0) back) (ap (λ m. m.1) back ∙ ap rest hands))

pub returns-clause-seen : goal.returns-clause-seen
returns-clause-seen g t c = c.give_back.ensures.seen ∙ ap (λ m. m.0.seen) c.unlock_record.ensures.view

pub returns-clause-own : goal.returns-clause-own
returns-clause-own g t c =
    gave_first c.in-Some.held.turn c.args.raw.now.me.0.own c.unlock_record.new.raw.me.0.own c.give_back.new.raw.me.0.own c.unlock_record.ensures.own c.give_back.ensures.own

pub returns-clause-met : goal.returns-clause-met
returns-clause-met g t c =
    let k = c.give_back.ensures.met in
    (k.0 ∙ ap (λ m. m.0.met) c.unlock_record.ensures.view, k.1 ∙ ap (λ m. m.0.meets) c.unlock_record.ensures.view)

pub returns-in_default-clause-own : goal.returns-in_default-clause-own
returns-in_default-clause-own g t c = gave_none c.args.raw.now.me.0.own

pub wake-requires : goal.wake-requires
wake-requires g t c =
    let self = c.args.self.now in let q = c.args._request in let given = given_of g.R.Registers self.table.shared.key in let h = c.in-Some.held in
    let has = subst (λ P. Has P q) (sym self.planned) c.requires.has in
    let l = last given q has c.requires.told.0 c.args.records.now.items c.pop.new.self.items h c.in-Some.ensures.items c.args.told (mine c.args.raw.now.me) c.requires.told.1 in
    let low = subst (λ P. h.turn < record_count P) self.planned l.is.low in let words = self.words in let counted = self.counted.2 in omega (arith, low, words, counted)
