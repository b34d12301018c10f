use Rattle.std.proofs.Common.{◌+◌, ◌∙◌, ℕ, List, Option, ap, inl, length, refl, subst, sym}
use Rattle.std.proofs.lemmas.List.{length_push, take_all}
use Rattle.pw_plan.specs.declared.request.Request.{Request}
use Rattle.pw_model.specs.declared.reply.Reply.{Reply}
use Rattle.pw_rule.specs.Rule.{given_of}
use Rattle.pw_turns.specs.Views.{view_in}
use Rattle.pw_books.proofs.Lines.{asked_none, worked_whole}
use Rattle.pw_books.specs.Workers.{HasAsked}
use Rattle.pw_drive.specs.inner.Replying.{KeepsReplies}
use Rattle.pw_drive.specs.inner.Telling.{telling}
use Rattle.pw_drive.proofs.Making.{ends_here, goes_on, same_parts}
use Rattle.pw_drive.proofs.Kept.{keeps, replied_none, with_reply}
use Rattle.pw_drive.proofs.working.make_all.Goals as goal

pub loop-request-init : goal.loop-request-init
loop-request-init g c =
    let given = given_of g.R.Registers c.args.coordinator.now.table.shared.key in
    record {
      owns = c.requires.owns;
      parts = refl;
      asked = rw c.requires.fresh (asked_none telling _);
      replied = replied_none given.plan (view_in c.args.seat.now.badge.views) c.args.replies.now.items c.requires.fresh c.requires.unseen c.requires.none;
      count = ap length c.requires.none;
      room = refl;
    }

pub returns-in_default-clause-made : goal.returns-in_default-clause-made
returns-in_default-clause-made g c =
    let l = c.loop-request in
    ends_here (given_of g.R.Registers c.args.coordinator.now.table.shared.key) c.args.requests.now l.request-index _ c.loop-request-test.true _ refl (view_in l.seat.badge.views)
    (view_in c.request-done.new.seat.badge.views) l.invariant.asked c.request-done.result c.request-done.ensures.told (sym c.reply_of.ensures ∙ c.in_default.is)

pub returns-in_default-clause-replied : goal.returns-in_default-clause-replied
returns-in_default-clause-replied g c =
    let l = c.loop-request in
    let given = given_of g.R.Registers c.args.coordinator.now.table.shared.key in
    let w = view_in c.request-done.new.seat.badge.views in
    subst (λ (o : Option Reply). KeepsReplies given.plan (with_reply l.replies.items o) w) (sym c.reply_of.ensures ∙ c.in_default.is)
    (keeps given (view_in l.seat.badge.views) _ w l.replies.items l.invariant.replied c.request-done.result c.request-done.ensures.told)

pub loop-request-preserved : goal.loop-request-preserved
loop-request-preserved g c =
    let l = c.loop-request in
    let given = given_of g.R.Registers c.args.coordinator.now.table.shared.key in
    let v = view_in l.seat.badge.views in
    let w = view_in c.request-done.new.seat.badge.views in
    let r = c.in-Some.reply in
    let some = sym c.reply_of.ensures ∙ c.in-Some.is in
    let more = c.push_reserved.ensures.items in
    record {
      owns = c.request-done.ensures.owns;
      parts = same_parts given c.args.requests.now l.request-index _ c.loop-request-test.true _ refl v w l.invariant.asked c.request-done.result c.request-done.ensures.told ∙ l.invariant.parts;
      asked = goes_on given c.args.requests.now l.request-index _ c.loop-request-test.true _ refl v w l.invariant.asked c.request-done.result r c.request-done.ensures.told some;
      replied = subst (λ (rs : List Reply). KeepsReplies given.plan rs w) (sym more) (subst (λ (o : Option Reply). KeepsReplies given.plan (with_reply l.replies.items o) w) some
          (keeps given v _ w l.replies.items l.invariant.replied c.request-done.result c.request-done.ensures.told));
      count = ap (length {A = Reply}) more ∙ length_push l.replies.items r ∙ ap (λ (n : ℕ). n + 1) l.invariant.count;
      room = c.push_reserved.ensures.capacity ∙ l.invariant.room;
    }

pub returns-clause-made : goal.returns-clause-made
returns-clause-made g c =
    let l = c.loop-request in
    let v = view_in l.seat.badge.views in
    inl (worked_whole telling c.args.requests.now v.number v.book v.seen
    (subst (λ (qs : List Request). HasAsked telling qs v.number v.book) (take_all l.request-index c.args.requests.now c.loop-request-test.false) l.invariant.asked))
