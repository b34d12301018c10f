use Rattle.std.proofs.Common.{arith}
use Rattle.pw_plan.specs.declared.domain.DomainKind.TheVariants as kinds
use Rattle.pw_script.proofs.Counts.{counts_of}
use Rattle.pw_script.proofs.asking.limit_of.Goals as goal

pub overflow_cast-as_slice : goal.overflow_cast-as_slice
overflow_cast-as_slice g c =
    let h = counts_of c.args.plan.now c.args.state.now kinds.Perf c.args.cpu c.cpu-parts.result.now c.in-Some.scale c.requires.fits c.requires.cpu c.cpu-parts.ensures c.in-Some.is in
    let small = h.small in rw c.as_slice.ensures (omega arith)

pub perf_limit-requires-clause-some : goal.perf_limit-requires-clause-some
perf_limit-requires-clause-some g c =
    let h = counts_of c.args.plan.now c.args.state.now kinds.Perf c.args.cpu c.cpu-parts.result.now c.in-Some.scale c.requires.fits c.requires.cpu c.cpu-parts.ensures c.in-Some.is in
    rw c.as_slice.ensures h.some

pub perf_limit-requires-clause-current : goal.perf_limit-requires-clause-current
perf_limit-requires-clause-current g c =
    let h = counts_of c.args.plan.now c.args.state.now kinds.Perf c.args.cpu c.cpu-parts.result.now c.in-Some.scale c.requires.fits c.requires.cpu c.cpu-parts.ensures c.in-Some.is in
    rw (c.from.ensures, c.as_slice-in-Some.ensures, c.lists-lists.ensures, c.as_slice.ensures) h.within

pub overflow_cast-as_slice-in-Some-throttle : goal.overflow_cast-as_slice-in-Some-throttle
overflow_cast-as_slice-in-Some-throttle g c =
    let h = counts_of c.args.plan.now c.args.state.now kinds.Throttle c.args.cpu c.cpu-parts.result.now c.in-Some-throttle.scale c.requires.fits c.requires.cpu c.cpu-parts.ensures
    c.in-Some-throttle.is in
    let small = h.small in rw c.as_slice-in-Some-throttle.ensures (omega arith)

pub throttle_limit-requires-clause-some : goal.throttle_limit-requires-clause-some
throttle_limit-requires-clause-some g c =
    let h = counts_of c.args.plan.now c.args.state.now kinds.Throttle c.args.cpu c.cpu-parts.result.now c.in-Some-throttle.scale c.requires.fits c.requires.cpu c.cpu-parts.ensures
    c.in-Some-throttle.is in
    rw c.as_slice-in-Some-throttle.ensures h.some

pub throttle_limit-requires-clause-current : goal.throttle_limit-requires-clause-current
throttle_limit-requires-clause-current g c =
    let h = counts_of c.args.plan.now c.args.state.now kinds.Throttle c.args.cpu c.cpu-parts.result.now c.in-Some-throttle.scale c.requires.fits c.requires.cpu c.cpu-parts.ensures
    c.in-Some-throttle.is in
    rw (c.from-in-Some-throttle.ensures, c.as_slice-in-Some-throttle-2.ensures, c.lists-lists.ensures, c.as_slice-in-Some-throttle.ensures) h.within
