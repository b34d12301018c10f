use Rattle.std.proofs.Common.{◌<◌, ◌==◌, ◌∙◌, ◌∷◌, cond, ap, length, arith, List}
use Rattle.pw_audit.specs.inner.Queues.{left_of}
use Rattle.pw_audit.proofs.Queueing.{put_first}
use Rattle.pw_audit.proofs.queues.Queues.put.Goals as goal

pub returns-in_ok-push-clause-first : goal.returns-in_ok-push-clause-first
returns-in_ok-push-clause-first g c =
    let vs = c.self.inside.stacks.items in
    let i = c.args.cpu in
    let x = c.args.item in
    let v = c.index_mut.result.now in
    let w = c.push.new.self in
    let lt : i < length vs = omega (arith, c.len.ensures, c.if-cpu-len.true) in
    λ p below.
    put_first vs i p v w x lt c.index_mut.ensures.value c.in_ok-push.ensures.items
    ∙ ap (λ (qs : List (List _)). cond (i == p) (x ∷ left_of qs p) (left_of qs p)) c.self.view_is
