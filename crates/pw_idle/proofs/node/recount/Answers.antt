use Rattle.std.proofs.Common.{◌≡◌, ◌<◌, ◌+◌, length, get_or, ap, ◌∙◌, arith, ◌≢◌, below_more, refl, length-set, get_or-set_other, get_or-set_same}
use Rattle.acpi_values.specs.Idle.{rows_of}
use Rattle.pw_plan.specs.declared.domain.Child.TheVariants.{Cpu}
use Rattle.pw_plan.specs.declared.parts.ContainerParts.{ContainerParts}
use Rattle.pw_plan.specs.Places.{children_at, container_at}
use Rattle.pw_model.specs.States.{running}
use Rattle.pw_idle.specs.Nodes.{allows_state, counted}
use Rattle.pw_idle.proofs.Counts.{allows_is, count_changed, count_lt, count_some}
use Rattle.pw_idle.proofs.node.recount.Goals as goal

pub changed-requires-clause-some : goal.changed-requires-clause-some
changed-requires-clause-some c =
    let P = c.args.plan.now in
    let n = c.args.node in
    let k = c.args.place in
    let a = c.loop-at.at in
    let vs = c.args.votes.now in
    let child = get_or (children_at P n) k (Cpu 0) in
    let own = ap (λ (x : ContainerParts). x.idle) c.container.ensures in
    let lt : a < length (rows_of (container_at P n).idle) = rw (← own, ← c.states-at-end.ensures) c.loop-at-test.true in
    let was : c.allows-was.result ≡ allows_state P n (a + 1) child (get_or vs k running) =
    allows_is P n c.allows-was.result c.table_of-table.result.now c.container.result.now.idle c.vote_at-old.result (get_or vs k running) c.row-latency.result child (a + 1)
    c.allows-was.ensures c.table_of-table.ensures c.vote_at-old.ensures c.row-latency.ensures own in
    let count : get_or c.as_slice.result.now a 0 ≡ counted (allows_state P n (a + 1)) (children_at P n) vs = ap (λ xs. get_or xs a 0) c.as_slice.ensures ∙ c.loop-at.invariant.left a (omega arith) lt
    in
    count_some P n vs k c.args.vote c.as_slice.result.now a 0 c.allows-was.result c.allows-now.result c.requires.holds c.requires.place was count

pub changed-requires-clause-room : goal.changed-requires-clause-room
changed-requires-clause-room c =
    let P = c.args.plan.now in
    let n = c.args.node in
    let k = c.args.place in
    let a = c.loop-at.at in
    let vs = c.args.votes.now in
    let child = get_or (children_at P n) k (Cpu 0) in
    let own = ap (λ (x : ContainerParts). x.idle) c.container.ensures in
    let lt : a < length (rows_of (container_at P n).idle) = rw (← own, ← c.states-at-end.ensures) c.loop-at-test.true in
    let was : c.allows-was.result ≡ allows_state P n (a + 1) child (get_or vs k running) =
    allows_is P n c.allows-was.result c.table_of-table.result.now c.container.result.now.idle c.vote_at-old.result (get_or vs k running) c.row-latency.result child (a + 1)
    c.allows-was.ensures c.table_of-table.ensures c.vote_at-old.ensures c.row-latency.ensures own in
    let count : get_or c.as_slice.result.now a 0 ≡ counted (allows_state P n (a + 1)) (children_at P n) vs = ap (λ xs. get_or xs a 0) c.as_slice.ensures ∙ c.loop-at.invariant.left a (omega arith) lt
    in
    count_lt P n vs k c.args.vote c.as_slice.result.now a 0 c.allows-was.result c.allows-now.result c.requires.holds c.requires.place was count

pub loop-at-preserved : goal.loop-at-preserved
loop-at-preserved c =
    let P = c.args.plan.now in
    let n = c.args.node in
    let k = c.args.place in
    let a = c.loop-at.at in
    let vs = c.args.votes.now in
    let child = get_or (children_at P n) k (Cpu 0) in
    let own = ap (λ (x : ContainerParts). x.idle) c.container.ensures in
    let lt : a < length (rows_of (container_at P n).idle) = rw (← own, ← c.states-at-end.ensures) c.loop-at-test.true in
    let was : c.allows-was.result ≡ allows_state P n (a + 1) child (get_or vs k running) =
    allows_is P n c.allows-was.result c.table_of-table.result.now c.container.result.now.idle c.vote_at-old.result (get_or vs k running) c.row-latency.result child (a + 1)
    c.allows-was.ensures c.table_of-table.ensures c.vote_at-old.ensures c.row-latency.ensures own in
    let count : get_or c.as_slice.result.now a 0 ≡ counted (allows_state P n (a + 1)) (children_at P n) vs = ap (λ xs. get_or xs a 0) c.as_slice.ensures ∙ c.loop-at.invariant.left a (omega arith) lt
    in
    let now : c.allows-now.result ≡ allows_state P n (a + 1) child c.args.vote =
    allows_is P n c.allows-now.result c.table_of-table.result.now c.container.result.now.idle c.args.vote c.args.vote c.row-latency.result child (a + 1)
    c.allows-now.ensures c.table_of-table.ensures refl c.row-latency.ensures own in
    let changed = count_changed P n vs k c.args.vote c.as_slice.result.now a c.changed.result c.allows-was.result c.allows-now.result c.requires.holds c.requires.place was count now c.changed.ensures
    in
    let ks = c.loop-at.allowing in
    let rows : length ks ≡ length (rows_of (container_at P n).idle) = c.loop-at.invariant.rows in
    record {
      rows = rw (c.set.ensures, length-set ks a c.changed.result) rows;
      done = below_more _ _ (λ j below. let ne : j ≢ a = omega arith in rw (c.set.ensures, get_or-set_other ks a j c.changed.result 0 ne) (c.loop-at.invariant.done j below))
          (rw (c.set.ensures, get_or-set_same ks a c.changed.result 0 (omega (arith, rows, lt))) changed);
      left = λ j above below. let ne : j ≢ a = omega arith in rw (c.set.ensures, get_or-set_other ks a j c.changed.result 0 ne) (c.loop-at.invariant.left j (omega arith) below);
    }
