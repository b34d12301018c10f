use Rattle.std.proofs.Common.{◌≡◌, ◌<◌, [], ap, length, arith, subst, List}
use Rattle.std.specs.Prelude.{MatchOption}
use Rattle.std.specs.Vec.{vec_len}
use Rattle.std.proofs.lemmas.List.{length-map}
use Rattle.std.proofs.Math.ListN.{set}
use Rattle.pw_audit.specs.inner.Queues.{Takes, left_of}
use Rattle.pw_audit.proofs.Queueing.{queue_of, queues_of, take_told}
use Rattle.pw_audit.proofs.queues.Queues.take.Goals as goal

pub returns : goal.returns
returns g c =
    let vs = c.self.inside.stacks.items in
    let i = c.args.cpu in
    let v = c.index_mut.result.now in
    let w = c.pop.new.self in
    let size : length (queues_of vs) ≡ length c.args.self.now = ap (λ (qs : List (List _)). length qs) c.self.view_is in
    let lt : i < length vs = omega (arith, c.requires, size, length-map vs queue_of) in
    subst (λ (old : List (List _)). MatchOption c.pop.result (left_of old i ≡ []) (λ q. Takes old i q (queues_of (set vs i w)))) c.self.view_is
    (take_told vs i (vec_len v) (vec_len w) v w c.pop.result lt c.index_mut.ensures.value c.pop.ensures.items c.pop.ensures.rest c.pop.ensures.cases)
