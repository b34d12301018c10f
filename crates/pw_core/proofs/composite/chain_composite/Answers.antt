use Rattle.std.proofs.Common.{◌≡◌, ◌<◌, length, arith, ap, ◌∙◌, refl, get_or}
use Rattle.acpi_values.specs.declared.idle.IdleRow.{IdleRow}
use Rattle.pw_plan.specs.Places.{row_at, container_at}
use Rattle.pw_model.specs.Composites.{add_entry, entered_register}
use Rattle.pw_core.specs.Chains.{states_in}
use Rattle.pw_core.proofs.Climbing.{length-states_in}
use Rattle.pw_core.proofs.Composing.{composes-None, composes-exists, composes-more, composes-state, state_at}
use Rattle.pw_core.proofs.composite.chain_composite.Goals as goal
use Rattle.pw_core.proofs.composite.chain_composite.Goals.{in-Some, in_default}

pub container-container-requires : goal.container-container-requires
container-container-requires c =
    let P = c.args.plan.now in
    let states = states_in c.args.chain.now in
    let h = rw c.in-Some.is at c.loop-place.invariant in
    let n : length states ≡ c.args.chain.now.len = length-states_in c.args.chain.now c.requires.chain in
    let lt : c.loop-place.place < length states = omega arith in
    composes-exists P (entered_register P c.args.cpu states) states c.loop-place.register c.loop-place.place c.in-Some.node lt h

pub row-requires-in-Some-clause-last : goal.row-requires-in-Some-clause-last
row-requires-in-Some-clause-last c =
    let P = c.args.plan.now in
    let states = states_in c.args.chain.now in
    let h = rw c.in-Some.is at c.loop-place.invariant in
    let n : length states ≡ c.args.chain.now.len = length-states_in c.args.chain.now c.requires.chain in
    let lt : c.loop-place.place < length states = omega arith in
    let s = composes-state P (entered_register P c.args.cpu states) states c.loop-place.register c.loop-place.place c.in-Some.node lt h in
    let e = state_at c.args.chain.now c.loop-place.place (omega arith) in
    rw (c.container-container.ensures, ← e) s.1

pub loop-place-preserved : goal.loop-place-preserved
loop-place-preserved c =
    let P = c.args.plan.now in
    let states = states_in c.args.chain.now in
    let n : length states ≡ c.args.chain.now.len = length-states_in c.args.chain.now c.requires.chain in
    let lt : c.loop-place.place < length states = omega arith in
    let e = state_at c.args.chain.now c.loop-place.place (omega arith) in
    elim c.match-next.branch [
      | in-Some w ↦
          let h = rw w.in-Some.is at c.loop-place.invariant in
          let m = composes-more P (entered_register P c.args.cpu states) states c.loop-place.register c.loop-place.place w.in-Some.node lt h in
          let r : w.row-in-Some.result ≡ row_at (container_at P w.in-Some.node).idle (get_or states c.loop-place.place 0) = rw (e, ← w.container-container.ensures) w.row-in-Some.ensures in
          let q : c.match-next.register ≡ add_entry c.loop-place.register (row_at (container_at P w.in-Some.node).idle (get_or states c.loop-place.place 0)).entry =
          w.register-is ∙ w.add_entry-register.ensures ∙ ap (λ (x : IdleRow). add_entry c.loop-place.register x.entry) r in
          let p : c.match-next.next ≡ (container_at P w.in-Some.node).parent = rw (w.next-is, w.container-container.ensures) refl in
          rw (q, p) m
      | in_default w ↦
          let h = rw w.in_default.is at c.loop-place.invariant in
          absurd (composes-None P (entered_register P c.args.cpu states) states c.loop-place.register c.loop-place.place lt h)
    ]
