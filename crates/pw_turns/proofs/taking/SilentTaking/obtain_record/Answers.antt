use Rattle.std.proofs.Common.{false, true, inl, inr, refl, ap}
use Rattle.pw_model.specs.Records.{record_count}
use Rattle.pw_machine.specs.declared.view.View.{View}
use Rattle.pw_machine.specs.Steps.{find_record_held, take_record}
use Rattle.pw_rule.specs.Plays.{mine}
use Rattle.pw_rule.specs.Rule.{given_of}
use Rattle.pw_turns.specs.Steps.{TookOut}
use Rattle.pw_turns.specs.declared.requests.Try.TheVariants.{Busy}
use Rattle.pw_turns.proofs.Again.{since_now}
use Rattle.pw_turns.proofs.Going.{turned_at, walked_one}
use Rattle.pw_turns.proofs.taking.SilentTaking.obtain_record.Goals as goal

pub returns-in-Ok-clause-took : goal.returns-in-Ok-clause-took
returns-in-Ok-clause-took g c =
    let given = given_of g.R.Registers c.args.coordinator.now.table.shared.key in let m = mine c.args.raw.now.me in
    since_now false m.0 (λ u. TookOut given c.args.request (u, m.1) c.args.turn c.in-Ok.content (mine c.lock_record.new.raw.me)) c.in-Ok.ensures.view

pub returns-in-Ok-clause-own : goal.returns-in-Ok-clause-own
returns-in-Ok-clause-own g c =
    let t = c.in-Ok.ensures.own in let q = c.args.request in
    walked_one false q (take_record c.args.turn q t.0) c.args.raw.now.me.0.own c.lock_record.new.raw.me.0.own refl t.1

pub returns-in-Err-clause-told : goal.returns-in-Err-clause-told
returns-in-Err-clause-told g c =
    let e = c.in-Err.ensures.view in let back = ap (λ m. m.0) e.0.0 in
    ((back, e.0.1.stranger, e.0.1.not_alone, inr e.1, e.0.1.given), tt, ap (λ (v : View). v.seen) back)

pub returns-in-Err-clause-slots : goal.returns-in-Err-clause-slots
returns-in-Err-clause-slots g c = ap (λ m. m.1) c.in-Err.ensures.view.0.0

pub returns-in-Err-clause-own : goal.returns-in-Err-clause-own
returns-in-Err-clause-own g c =
    let q = c.args.request in
    turned_at false q (record_count c.args.coordinator.now.plan) c.args.number (Busy c.args.turn c.in-Err.holder) (find_record_held c.args.turn q true)
    c.args.raw.now.me.0.own c.lock_record.new.raw.me.0.own c.in-Err.ensures.own (inl (c.requires.turn, refl))
