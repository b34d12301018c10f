use Rattle.std.proofs.Common.{◌≡◌, ◌<◌, ◌-◌, ◌∙◌, ◌++◌, [], length, sym, ap, append_assoc, arith}
use Rattle.std.specs.List.{flat_map, range_with_len}
use Rattle.pw_plan.proofs.Ranges.{pushed_flat_map}
use Rattle.pw_text.proofs.Putting.{PutsText-as, PutsText-none, PutsText-stop, PutsText-then}
use Rattle.pw_generate.specs.inner.Ending.{state_behind, states_behind}
use Rattle.pw_generate.proofs.ends.put_states.Goals as goal

pub loop-node-init : goal.loop-node-init
loop-node-init g c =
    let P = c.args.plan.now in
    let whole : length P.containers - 0 ≡ length P.containers = omega arith in
    ([], PutsText-none c.args.sink.now c.args.page.now, ap (λ n. flat_map (state_behind P c.args.state.now) (range_with_len 0 n)) whole)

pub returns-in_err-put_behind : goal.returns-in_err-put_behind
returns-in_err-put_behind g c =
    let P = c.args.plan.now in
    let S = c.args.state.now in
    let n = c.loop-node.node in
    let so_far = c.loop-node.invariant in
    let lt : n < length P.containers = rw (← c.as_slice-node-end.ensures) c.loop-node-test.true in
    let next = pushed_flat_map so_far.0 (states_behind P S) n (length P.containers) lt (state_behind P S) so_far.2 in
    PutsText-as (states_behind P S) (sym (append_assoc so_far.0 (state_behind P S n) _) ∙ next)
    (PutsText-then so_far.1
    (PutsText-stop _ c.from_residual.result c.from_residual.ensures.0 (rw c.container_state.ensures at c.in_err-put_behind.ensures)))

pub loop-node-preserved : goal.loop-node-preserved
loop-node-preserved g c =
    let P = c.args.plan.now in
    let S = c.args.state.now in
    let n = c.loop-node.node in
    let so_far = c.loop-node.invariant in
    let lt : n < length P.containers = rw (← c.as_slice-node-end.ensures) c.loop-node-test.true in
    let next = pushed_flat_map so_far.0 (states_behind P S) n (length P.containers) lt (state_behind P S) so_far.2 in
    (so_far.0 ++ state_behind P S n, PutsText-then so_far.1 (rw c.container_state.ensures at c.in_ok-put_behind.ensures), next)
