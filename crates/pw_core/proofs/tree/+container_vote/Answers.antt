use Rattle.std.proofs.Common.{◌≡◌, ◌<◌, ◌==◌, ◌&&◌, nat_le, length, get_or, drop, cond, below_more, arith, ap, sym, ◌∙◌, []}
use Rattle.std.proofs.lemmas.Bool.Decides.{nat_tests}
use Rattle.std.proofs.lemmas.List.{drop_all}
use Rattle.std.specs.Prelude.{fold, min, map}
use Rattle.acpi_values.specs.Idle.{rows_of}
use Rattle.pw_plan.specs.declared.domain.Child.TheVariants.{Cpu, Container}
use Rattle.pw_plan.specs.Places.{children_at, container_at, row_at, table_of}
use Rattle.pw_model.specs.States.{any_latency, idling, running, with_change}
use Rattle.pw_model.specs.Containers.{child_vote, enables_to, greatest}
use Rattle.pw_model.proofs.Enabling.{container_vote-le, container_vote-none}
use Rattle.pw_model.proofs.Votes.{container_child}
use Rattle.pw_plan.specs.declared.parts.ContainerParts.{ContainerParts}
use Rattle.pw_plan.specs.declared.parts.CpuParts.{CpuParts}
use Rattle.pw_core.proofs.Voting.{IsAllowed, is_allowed, container_vote-by_least, has_begun, least_bearing, least_more, least_reach, nothing_left, runs}
use Rattle.pw_core.proofs.tree.+container_vote.Goals as goal
use Rattle.pw_core.proofs.tree.+container_vote.Goals.{in-Cpu, in-Container}

pub returns-then-is_empty : goal.returns-then-is_empty
unfolding any_latency
returns-then-is_empty t c =
    let none : length (children_at c.args.plan.now c.args.node) ≡ 0 = rw (← c.children_of-children.ensures) (grind (arith, nat_tests)) in
    sym (container_vote-none c.args.plan.now (with_change c.args.state.now c.args.change) c.args.node none)

pub container_vote-requires : goal.container_vote-requires
container_vote-requires t c =
    let cs = c.children_of-children.result.now in
    let lt : c.loop-child.child-index < length (children_at c.args.plan.now c.args.node) = rw (← c.children_of-children.ensures) c.loop-child-test.true in
    let below = container_child c.args.plan.now c.args.node c.loop-child.child-index c.in-Container.below (Cpu 0) lt (rw (← c.children_of-children.ensures) c.in-Container.is) in
    (omega (arith, below.0, below.1, c.decreases), (below.1, (c.requires.old, (c.requires.fits, c.requires.known))))

pub allowed-own-requires-in-Container : goal.allowed-own-requires-in-Container
allowed-own-requires-in-Container t c =
    rw (c.container.ensures, c.container_vote.ensures) (container_vote-le c.args.plan.now (with_change c.args.state.now c.args.change) c.in-Container.below)

pub loop-child-preserved : goal.loop-child-preserved
loop-child-preserved t c =
    let P = c.args.plan.now in
    let S = with_change c.args.state.now c.args.change in
    let cs = c.children_of-children.result.now in
    let i = c.loop-child.child-index in
    let own : IsAllowed P S (get_or cs i (Cpu 0)) c.match-child.own =
    elim c.match-child.branch [
      | in-Cpu w ↦ rw w.in-Cpu.is (is_allowed P S (Cpu w.in-Cpu.cpu) c.match-child.own w.cpu.result.now.idle w.cpu_vote.result
          (w.own-is ∙ w.allowed-own.ensures.value) (ap (λ (x : CpuParts). x.idle) w.cpu.ensures) w.cpu_vote.ensures w.allowed-own.ensures.fits)
      | in-Container w ↦ rw w.in-Container.is (is_allowed P S (Container w.in-Container.below) c.match-child.own w.container.result.now.idle w.container_vote.result
          (w.own-is ∙ w.allowed-own-in-Container.ensures.value) (ap (λ (x : ContainerParts). x.idle) w.container.ensures) w.container_vote.ensures w.allowed-own-in-Container.ensures.fits)
    ] in
    record {
      begun = λ e. absurd (omega arith);
      state = rw c.min.ensures (least_more (λ d. enables_to (table_of P d) (child_vote P S d)) cs i c.loop-child.least.state c.match-child.own.state
          (least_reach P S c.args.node) c.loop-child-test.true own.state c.loop-child.invariant.state);
      tolerance = rw c.min-in-loop-child.ensures (least_more (λ d. (child_vote P S d).tolerance) cs i c.loop-child.least.tolerance c.match-child.own.tolerance
          (least_bearing P S c.args.node) c.loop-child-test.true own.tolerance c.loop-child.invariant.tolerance);
      fits = below_more _ _ c.loop-child.invariant.fits own.fits;
    }

pub returns-then-least-eq0 : goal.returns-then-least-eq0
unfolding any_latency
returns-then-least-eq0 t c =
    let P = c.args.plan.now in
    let S = with_change c.args.state.now c.args.change in
    let cs = c.children_of-children.result.now in
    let some : 0 < length cs = grind (arith, nat_tests) in
    let later : 0 < c.loop-child.child-index = has_begun c.loop-child.child-index c.loop-child.least.state c.loop-child.invariant.begun c.if-least-eq0.true in
    let rest = map (λ d. enables_to (table_of P d) (child_vote P S d)) (drop c.loop-child.child-index cs) in
    let none = nothing_left c.loop-child.least.state (least_reach P S c.args.node) rest c.if-least-eq0.true c.loop-child.invariant.state in
    runs P S c.args.node (P.sound.small.container_rows c.args.node) (rw (← c.children_of-children.ensures) some)
    (rw (← c.children_of-children.ensures) (c.loop-child.invariant.fits 0 later)) none

pub returns : goal.returns
returns t c =
    let P = c.args.plan.now in
    let S = with_change c.args.state.now c.args.change in
    let n = c.args.node in
    let cs = c.children_of-children.result.now in
    let some : 0 < length cs = grind (arith, nat_tests) in
    let all : drop c.loop-child.child-index cs ≡ [] = drop_all c.loop-child.child-index cs c.loop-child-test.false in
    let reach : c.loop-child.least.state ≡ least_reach P S n =
    ap (λ ds. fold min c.loop-child.least.state (map (λ d. enables_to (table_of P d) (child_vote P S d)) ds)) (sym all) ∙ c.loop-child.invariant.state in
    let bearing : c.loop-child.least.tolerance ≡ least_bearing P S n =
    ap (λ ds. fold min c.loop-child.least.tolerance (map (λ d. (child_vote P S d).tolerance) ds)) (sym all) ∙ c.loop-child.invariant.tolerance in
    let is : c.deepest.result ≡ greatest (λ i. (row_at (container_at P n).idle i).enabled && (nat_le i (least_reach P S n) && nat_le (row_at (container_at P n).idle i).latency (least_bearing P S n)))
    (length (rows_of (container_at P n).idle)) =
    rw (← reach, ← bearing, ← c.container-2.ensures) c.deepest.ensures in
    c.vote_in.ensures
    ∙ ap (λ x. cond (c.deepest.result == 0) running (idling c.deepest.result x)) bearing
    ∙ sym (container_vote-by_least P S n (P.sound.small.container_rows n) (rw (← c.children_of-children.ensures) some)
    (rw (← c.children_of-children.ensures) (c.loop-child.invariant.fits 0 (omega arith))) c.deepest.result is)
