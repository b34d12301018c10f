use Rattle.std.proofs.Common.{Some, ap, length, arith}
use Rattle.pw_plan.specs.Parts.{container_in}
use Rattle.pw_plan.proofs.Lines.{parent_below, line_from-Some, line_within-length, line_within-None}
use Rattle.pw_plan.proofs.limits.depth_of.Goals as goal

pub overflow_add-depth : goal.overflow_add-depth
overflow_add-depth c =
    let cs = c.args.containers.now in
    let small = line_within-length cs (length cs) (Some c.args.node) in
    let count = rw c.in-Some.is at c.loop-next.invariant.count in
    let more = ap length (line_from-Some cs c.requires.fall c.in-Some.number (c.loop-next.invariant.within c.in-Some.number c.in-Some.is)) in
    omega (arith, small, count, more)

pub loop-next-smaller : goal.loop-next-smaller
loop-next-smaller c =
    let cs = c.args.containers.now in
    let more = ap length (line_from-Some cs c.requires.fall c.in-Some.number (c.loop-next.invariant.within c.in-Some.number c.in-Some.is)) in
    rw (c.in-Some.is, c.container_in.ensures) (omega (arith, more))

pub loop-next-preserved : goal.loop-next-preserved
loop-next-preserved c =
    let cs = c.args.containers.now in
    let within = c.loop-next.invariant.within c.in-Some.number c.in-Some.is in
    let count = rw c.in-Some.is at c.loop-next.invariant.count in
    let more = ap length (line_from-Some cs c.requires.fall c.in-Some.number within) in
    record {
      count = rw c.container_in.ensures (omega (arith, count, more));
      within = λ k e. let lt = parent_below c.in-Some.number k (container_in cs c.in-Some.number).parent (c.requires.fall c.in-Some.number within) (rw
          (← c.container_in.ensures) e) in omega (arith, lt, within);
    }

pub returns : goal.returns
returns c =
    let cs = c.args.containers.now in
    let count = rw c.in_default.is at c.loop-next.invariant.count in
    let none = ap length (line_within-None cs (length cs)) in
    omega (arith, count, none)
