use Rattle.std.proofs.Common.{◌≡◌, ◌≤◌, length, ap, ◌∙◌, arith}
use Rattle.pw_plan.specs.declared.domain.Group.{Group}
use Rattle.pw_plan.specs.Places.{group_at, group_of}
use Rattle.pw_model.specs.States.{with_change}
use Rattle.pw_core.proofs.Climbing.{chain_fits}
use Rattle.pw_core.proofs.Drawing.{idles_alone, idles_with, own_kept, own_ops, own_pushed, room_drawn, room_own, with_more}
use Rattle.pw_core.proofs.accepting.idle.Goals as goal
use Rattle.pw_core.proofs.accepting.idle.Goals.{then-chain-gt0, else-chain-gt0}

pub enter-requires-clause-states : goal.enter-requires-clause-states
enter-requires-clause-states c =
    (chain_fits c.args.plan.now (with_change c.args.state.now c.args.change) c.args.cpu c.chain_under-chain.result c.requires.cpu c.requires.fits c.chain_under-chain.ensures c.if-chain-gt0.true).fit

pub push-requires : goal.push-requires
push-requires c = room_own c.args.plan.now c.args.state.now (with_change c.args.state.now c.args.change) c.args.cpu c.args.ops.now c.requires.room

pub draw_along-requires-clause-room : goal.draw_along-requires-clause-room
draw_along-requires-clause-room c =
    let P = c.args.plan.now in
    let S = c.args.state.now in
    let T = with_change S c.args.change in
    let p = c.args.cpu in
    let ops = c.args.ops.now in
    let chain = c.chain_under-chain.result in
    let mid : c.if-chain-gt0.ops ≡ with_more ops (own_ops P T p) =
    elim c.if-chain-gt0.branch [
      | then-chain-gt0 w ↦ own_pushed P T p chain c.requires.cpu c.requires.fits c.chain_under-chain.ensures c.requires.table ops c.if-chain-gt0.ops w.enter.result w.if-chain-gt0.true w.enter.ensures
          (w.ops-is ∙ w.push.ensures)
      | else-chain-gt0 w ↦ own_kept P T p chain c.requires.cpu c.requires.fits c.chain_under-chain.ensures c.requires.table ops c.if-chain-gt0.ops c.requires.idles w.if-chain-gt0.false w.ops-is
    ] in
    let members : c.as_slice-members.result.now ≡ (group_at P (group_of P p)).members =
    c.as_slice-members.ensures ∙ ap (λ (g : Group). g.members) c.group.ensures ∙ ap (λ n. (group_at P n).members) (c.in-Some.ensures.place).0 in
    room_drawn P S T p ops c.requires.room c.if-chain-gt0.ops c.as_slice-members.result.now mid members

pub returns-in-Some-clause-list : goal.returns-in-Some-clause-list
returns-in-Some-clause-list c =
    let P = c.args.plan.now in
    let S = c.args.state.now in
    let T = with_change S c.args.change in
    let p = c.args.cpu in
    let ops = c.args.ops.now in
    let chain = c.chain_under-chain.result in
    let mid : c.if-chain-gt0.ops ≡ with_more ops (own_ops P T p) =
    elim c.if-chain-gt0.branch [
      | then-chain-gt0 w ↦ own_pushed P T p chain c.requires.cpu c.requires.fits c.chain_under-chain.ensures c.requires.table ops c.if-chain-gt0.ops w.enter.result w.if-chain-gt0.true w.enter.ensures
          (w.ops-is ∙ w.push.ensures)
      | else-chain-gt0 w ↦ own_kept P T p chain c.requires.cpu c.requires.fits c.chain_under-chain.ensures c.requires.table ops c.if-chain-gt0.ops c.requires.idles w.if-chain-gt0.false w.ops-is
    ] in
    let members : c.as_slice-members.result.now ≡ (group_at P (group_of P p)).members =
    c.as_slice-members.ensures ∙ ap (λ (g : Group). g.members) c.group.ensures ∙ ap (λ n. (group_at P n).members) (c.in-Some.ensures.place).0 in
    idles_with P S T p ops c.if-chain-gt0.ops c.draw_along.new.ops c.as_slice-members.result.now members mid c.draw_along.ensures

pub returns-in_default-clause-list : goal.returns-in_default-clause-list
returns-in_default-clause-list c =
    let P = c.args.plan.now in
    let S = c.args.state.now in
    let T = with_change S c.args.change in
    let p = c.args.cpu in
    let ops = c.args.ops.now in
    let chain = c.chain_under-chain.result in
    let mid : c.if-chain-gt0.ops ≡ with_more ops (own_ops P T p) =
    elim c.if-chain-gt0.branch [
      | then-chain-gt0 w ↦ own_pushed P T p chain c.requires.cpu c.requires.fits c.chain_under-chain.ensures c.requires.table ops c.if-chain-gt0.ops w.enter.result w.if-chain-gt0.true w.enter.ensures
          (w.ops-is ∙ w.push.ensures)
      | else-chain-gt0 w ↦ own_kept P T p chain c.requires.cpu c.requires.fits c.chain_under-chain.ensures c.requires.table ops c.if-chain-gt0.ops c.requires.idles w.if-chain-gt0.false w.ops-is
    ] in
    let e : group_of P p ≡ length P.groups = rw c.in_default.is at c.group_of.ensures.place in
    let none : length P.groups ≤ group_of P p = omega arith in
    idles_alone P S T p ops c.if-chain-gt0.ops none mid
