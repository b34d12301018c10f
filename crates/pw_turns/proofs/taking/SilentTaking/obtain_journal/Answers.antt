use Rattle.std.proofs.Common.{false, true, inl, inr, refl, ap, sym, subst}
use Rattle.pw_model.specs.Records.{record_count}
use Rattle.pw_machine.specs.declared.view.View.{View}
use Rattle.pw_machine.specs.Steps.{find_journal_held}
use Rattle.pw_rule.specs.Plays.{mine}
use Rattle.pw_rule.specs.Rule.{given_of, promise_of}
use Rattle.pw_turns.specs.Steps.{LedOut}
use Rattle.pw_turns.specs.inner.Taking.{GivesUp}
use Rattle.pw_turns.specs.declared.requests.Try.TheVariants.{Busy}
use Rattle.pw_turns.proofs.Again.{since_now}
use Rattle.pw_turns.proofs.Going.{began_at, turned_at}
use Rattle.pw_turns.proofs.taking.SilentTaking.obtain_journal.Goals as goal

pub returns-in-Ok-clause-led : goal.returns-in-Ok-clause-led
returns-in-Ok-clause-led g c =
    let by = g.R.Registers in let self = c.args.coordinator.now in let key = self.table.shared.key in let m = mine c.args.raw.now.me in
    since_now false m.0 (λ u. LedOut by (promise_of by key) (given_of by key) c.args.request (record_count self.plan) (u, m.1) c.in-Ok.journal
    (mine c.lock_journal.new.raw.me)) c.in-Ok.ensures.view

pub returns-in-Ok-clause-own : goal.returns-in-Ok-clause-own
returns-in-Ok-clause-own g c = began_at false c.args.request c.args.raw.now.me.0.own c.lock_journal.new.raw.me.0.own c.in-Ok.ensures.own

pub returns-in-Err-clause-told : goal.returns-in-Err-clause-told
returns-in-Err-clause-told g c =
    let self = c.args.coordinator.now in let given = given_of g.R.Registers self.table.shared.key in let v = c.args.raw.now.me.0.view in
    let w = c.lock_journal.new.raw.me.0.view in let e = c.in-Err.ensures.view in let back = ap (λ m. m.0) e.0 in
    subst (λ turn. GivesUp given v c.args.request (Busy turn c.in-Err.holder) w) (sym self.counted.2)
    ((back, e.1.stranger, e.1.not_alone, inl (ap record_count (sym self.planned)), e.1.given), tt, ap (λ (v : View). v.seen) back)

pub returns-in-Err-clause-slots : goal.returns-in-Err-clause-slots
returns-in-Err-clause-slots g c = ap (λ m. m.1) c.in-Err.ensures.view.0

pub returns-in-Err-clause-own : goal.returns-in-Err-clause-own
returns-in-Err-clause-own g c =
    let self = c.args.coordinator.now in let q = c.args.request in
    turned_at false q (record_count self.plan) c.args.number (Busy self.counts.records c.in-Err.holder) (find_journal_held q true)
    c.args.raw.now.me.0.own c.lock_journal.new.raw.me.0.own c.in-Err.ensures.own (inr (self.counted.2, refl))
