use Rattle.std.proofs.Common.{rules, ap, subst, refl}
use Rattle.pw_model.specs.History.{Faultless}
use Rattle.pw_rule.specs.Plays.{mine}
use Rattle.pw_rule.specs.Rule.{given_of, promise_of}
use Rattle.atomic_table.specs.Table.{rest}
use Rattle.pw_turns.proofs.Climbing.{found, found_is}
use Rattle.pw_turns.proofs.coordinator.Coordinator.look_in.Goals as goal

pub returns-in-Some-clause-told : goal.returns-in-Some-clause-told
returns-in-Some-clause-told g c = λ v l.
    let key = c.args.self.now.table.shared.key in
    let f = found g.R.Registers (promise_of g.R.Registers key) (given_of g.R.Registers key) _ c.args._request _ c.args.journal (mine c.args.raw.now.me)
    l c.unlock_journal_for.new.raw.me.0.view (ap (λ m. m.0) c.unlock_journal_for.ensures.view) in
    (f, search rules, search rules)

pub returns-then-seen-self-clause-told : goal.returns-then-seen-self-clause-told
returns-then-seen-self-clause-told g c = λ v l.
    let key = c.args.self.now.table.shared.key in
    let f = found g.R.Registers (promise_of g.R.Registers key) (given_of g.R.Registers key) _ c.args._request _ c.args.journal (mine c.args.raw.now.me)
    l c.unlock_journal_for-then-seen-self.new.raw.me.0.view (ap (λ m. m.0) c.unlock_journal_for-then-seen-self.ensures.view) in
    (f, search rules, search rules, subst (λ j. Faultless j.entries) c.get-2.ensures (c.fault_at.ensures.none.0 c.in_default.is))

pub returns-in-Some-clause-own : goal.returns-in-Some-clause-own
returns-in-Some-clause-own g c = (_, c.unlock_journal_for.ensures.own, (_, refl))

pub returns-then-seen-self-clause-own : goal.returns-then-seen-self-clause-own
returns-then-seen-self-clause-own g c = (_, c.unlock_journal_for-then-seen-self.ensures.own, (_, refl))

pub unlock_journal_for-requires-clause-found : goal.unlock_journal_for-requires-clause-found
unlock_journal_for-requires-clause-found g c =
    let key = c.args.self.now.table.shared.key in let r = c.requires.led in
    found_is g.R.Registers (promise_of g.R.Registers key) (given_of g.R.Registers key) _ c.args._request (r.0, rest c.args.raw.now.me.1) c.args.journal
    (mine c.args.raw.now.me) r.1 r.2 r.3

pub unlock_journal_for-requires-then-seen-self-clause-found : goal.unlock_journal_for-requires-then-seen-self-clause-found
unlock_journal_for-requires-then-seen-self-clause-found g c =
    let key = c.args.self.now.table.shared.key in let r = c.requires.led in
    found_is g.R.Registers (promise_of g.R.Registers key) (given_of g.R.Registers key) _ c.args._request (r.0, rest c.args.raw.now.me.1) c.args.journal
    (mine c.args.raw.now.me) r.1 r.2 r.3

pub returns-in-Some-clause-met : goal.returns-in-Some-clause-met
returns-in-Some-clause-met g c =
    (ap (λ m. m.0.met) c.unlock_journal_for.ensures.view, ap (λ m. m.0.meets) c.unlock_journal_for.ensures.view)

pub returns-then-seen-self-clause-met : goal.returns-then-seen-self-clause-met
returns-then-seen-self-clause-met g c =
    (ap (λ m. m.0.met) c.unlock_journal_for-then-seen-self.ensures.view, ap (λ m. m.0.meets) c.unlock_journal_for-then-seen-self.ensures.view)
