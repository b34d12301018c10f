use Rattle.std.proofs.Common.{◌∙◌, refl, sym}
use Rattle.pw_plan.specs.declared.domain.DomainKind.TheVariants as kinds
use Rattle.pw_plan.specs.declared.request.Request.TheVariants.{Perf, PerfLimit, Throttle, ThrottleLimit}
use Rattle.pw_model.proofs.Fitting.{ask_scale, domain_scale}
use Rattle.pw_walker.proofs.Beginnings.{scaled_stands}
use Rattle.pw_walker.proofs.beginning.begin.Goals as goal

pub returns-in-Perf-clause-place : goal.returns-in-Perf-clause-place
returns-in-Perf-clause-place c =
    let P = c.args.plan.now in
    let accepted = rw c.in-Perf.is at (sym c.fixed_answer.ensures ∙ c.in_default.is) in
    let has = rw c.in-Perf.is at c.requires.has in
    rw c.in-Perf.is (scaled_stands P (Perf c.in-Perf.cpu c.in-Perf.index) kinds.Perf c.domain_of.result accepted has c.args.ops.now.elements c.requires.none c.domain_of.ensures
    (ask_scale P kinds.Perf c.in-Perf.cpu c.in-Perf.index accepted) refl)

pub returns-in-Throttle-clause-place : goal.returns-in-Throttle-clause-place
returns-in-Throttle-clause-place c =
    let P = c.args.plan.now in
    let accepted = rw c.in-Throttle.is at (sym c.fixed_answer.ensures ∙ c.in_default.is) in
    let has = rw c.in-Throttle.is at c.requires.has in
    rw c.in-Throttle.is (scaled_stands P (Throttle c.in-Throttle.cpu c.in-Throttle.index) kinds.Throttle c.domain_of-in-Throttle.result accepted has c.args.ops.now.elements c.requires.none
    c.domain_of-in-Throttle.ensures (ask_scale P kinds.Throttle c.in-Throttle.cpu c.in-Throttle.index accepted) refl)

pub returns-in-PerfLimit-clause-place : goal.returns-in-PerfLimit-clause-place
returns-in-PerfLimit-clause-place c =
    let P = c.args.plan.now in
    let accepted = rw c.in-PerfLimit.is at (sym c.fixed_answer.ensures ∙ c.in_default.is) in
    let has = rw c.in-PerfLimit.is at c.requires.has in
    rw c.in-PerfLimit.is (scaled_stands P (PerfLimit c.in-PerfLimit.cpu c.in-PerfLimit.n) kinds.Perf c.domain_of-in-PerfLimit.result accepted has c.args.ops.now.elements c.requires.none
    c.domain_of-in-PerfLimit.ensures (domain_scale P kinds.Perf c.in-PerfLimit.cpu accepted) refl)

pub returns-in-ThrottleLimit-clause-place : goal.returns-in-ThrottleLimit-clause-place
returns-in-ThrottleLimit-clause-place c =
    let P = c.args.plan.now in
    let accepted = rw c.in-ThrottleLimit.is at (sym c.fixed_answer.ensures ∙ c.in_default.is) in
    let has = rw c.in-ThrottleLimit.is at c.requires.has in
    rw c.in-ThrottleLimit.is (scaled_stands P (ThrottleLimit c.in-ThrottleLimit.cpu c.in-ThrottleLimit.n) kinds.Throttle c.domain_of-in-ThrottleLimit.result accepted has
    c.args.ops.now.elements c.requires.none c.domain_of-in-ThrottleLimit.ensures (domain_scale P kinds.Throttle c.in-ThrottleLimit.cpu accepted) refl)
