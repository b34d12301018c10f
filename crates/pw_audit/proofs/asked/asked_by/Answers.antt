use Rattle.std.proofs.Common.{◌≡◌, ◌==◌, ◌∙◌, ◌+◌, ◌-◌, ◌++◌, ◌∷◌, ◌<◌, ℕ, cond, length, subst, map, get_or, take, append-nil, ap, sym, arith}
use Rattle.std.proofs.Math.ListN.{get_or-map}
use Rattle.std.proofs.lemmas.List.{length-map, take_all}
use Rattle.pw_history.specs.Asked.{own}
use Rattle.pw_audit.specs.inner.Queues.{left_of}
use Rattle.pw_audit.proofs.Queueing.{request_put}
use Rattle.pw_audit.proofs.asked.asked_by.Goals as goal

pub loop-at-init : goal.loop-at-init
loop-at-init g c =
    let W = g.T.Audited.words in
    let lines = c.args.lines.now in
    let all = map g.T.Audited.ask lines in
    let size = length-map lines g.T.Audited.ask in
    record {
      within = omega arith;
      size = c.in_ok-asked.ensures.size;
      each = λ p lt.
          ap (λ q. own W p (take (length lines) all) ++ q) (c.in_ok-asked.ensures.none p) ∙ append-nil (own W p (take (length lines) all))
          ∙ ap (own W p) (take_all (length lines) all (omega (arith, size)));
    }

pub loop-at-preserved : goal.loop-at-preserved
loop-at-preserved g c =
    let W = g.T.Audited.words in
    let ask = g.T.Audited.ask in
    let lines = c.args.lines.now in
    let all = map ask lines in
    let n = c.loop-at.at - 1 in
    let some = c.loop-at-test.true in
    let within = c.loop-at.invariant.within in
    let lt : n < length all = omega (arith, length-map lines ask, some, within) in
    let next : n + 1 ≡ c.loop-at.at = omega (arith, some) in
    let item = c.index-lines-at.result in
    let d = ask item in
    let is : c.request_of-request.result ≡ get_or all n d = c.request_of-request.ensures ∙ ap ask c.index-lines-at.is ∙ sym (get_or-map ask lines n item) in
    record {
      within = omega arith;
      size = c.in_ok-put.ensures.size ∙ c.loop-at.invariant.size;
      each = λ p below. request_put W p n c.cpu.result all d (left_of c.loop-at.asked p) (left_of c.put.new.self p) lt
          (ap (λ (k : ℕ). own W p (take k all) ++ left_of c.loop-at.asked p) next ∙ c.loop-at.invariant.each p below) (c.cpu.ensures ∙ ap W.cpu is)
          (subst (λ q. left_of c.put.new.self p ≡ cond (c.cpu.result == p) (q ∷ left_of c.loop-at.asked p) (left_of c.loop-at.asked p)) is
          (c.in_ok-put.ensures.first p (omega (arith, below, c.loop-at.invariant.size))));
    }
