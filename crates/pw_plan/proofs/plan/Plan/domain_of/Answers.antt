use Rattle.std.proofs.Common.{◌≡◌, ◌∙◌, ap, refl}
use Rattle.std.specs.List.{slice_get}
use Rattle.pw_plan.specs.declared.domain.DomainKind.TheVariants.{Perf, Throttle, Idle}
use Rattle.pw_plan.specs.declared.index.CpuIndex.{CpuIndex}
use Rattle.pw_plan.specs.Index.{first_membership, membership_in}
use Rattle.pw_plan.specs.Covering.{covers}
use Rattle.pw_plan.proofs.Memberships.{covers_has, first_idle, index_none, index_some, member_is, no_domain_of, membership_is}
use Rattle.pw_plan.proofs.plan.Plan.domain_of.Goals as goal

pub returns-in_err-index-clause-place : goal.returns-in_err-index-clause-place
returns-in_err-index-clause-place c =
    let P = c.args.self.now in
    rw c.from_residual.ensures (no_domain_of P c.args.cpu (index_none P c.args.cpu c.in_err-index.ensures) (covers c.args.kind c.args.cpu) (covers_has c.args.kind c.args.cpu))

pub returns-in-Perf-clause-place : goal.returns-in-Perf-clause-place
returns-in-Perf-clause-place c =
    let P = c.args.self.now in
    let is = index_some P c.args.cpu c.in_ok-index.index.now c.in_ok-index.ensures in
    rw c.in-Perf.is (membership_is (covers Perf c.args.cpu) P.domains (membership_in P.domains c.args.cpu) (λ k. refl) c.in_ok-index.index.now.perf (ap (λ (i : CpuIndex). i.perf) is))

pub returns-in-Perf-clause-member : goal.returns-in-Perf-clause-member
returns-in-Perf-clause-member c =
    let P = c.args.self.now in
    let is = index_some P c.args.cpu c.in_ok-index.index.now c.in_ok-index.ensures in
    member_is P.domains c.args.cpu (covers Perf c.args.cpu) c.in_ok-index.index.now.perf (ap (λ (i : CpuIndex). i.perf) is)

pub returns-in-Throttle-clause-place : goal.returns-in-Throttle-clause-place
returns-in-Throttle-clause-place c =
    let P = c.args.self.now in
    let is = index_some P c.args.cpu c.in_ok-index.index.now c.in_ok-index.ensures in
    rw c.in-Throttle.is (membership_is (covers Throttle c.args.cpu) P.domains (membership_in P.domains c.args.cpu) (λ k. refl) c.in_ok-index.index.now.throttle (ap (λ (i : CpuIndex). i.throttle) is))

pub returns-in-Throttle-clause-member : goal.returns-in-Throttle-clause-member
returns-in-Throttle-clause-member c =
    let P = c.args.self.now in
    let is = index_some P c.args.cpu c.in_ok-index.index.now c.in_ok-index.ensures in
    member_is P.domains c.args.cpu (covers Throttle c.args.cpu) c.in_ok-index.index.now.throttle (ap (λ (i : CpuIndex). i.throttle) is)

first_is : (c : goal.After-copied) → c.copied.result ≡ first_membership (covers Idle c.args.cpu) c.args.self.now.domains c.args.cpu
first_is c =
    let P = c.args.self.now in
    let is = index_some P c.args.cpu c.in_ok-index.index.now c.in_ok-index.ensures in
    let idle = c.as_slice.ensures ∙ ap (λ (i : CpuIndex). i.idle) is in
    c.copied.ensures ∙ c.first.ensures.value ∙ ap (λ xs. slice_get xs 0) idle ∙ first_idle P.domains c.args.cpu

pub returns-in-Idle-clause-place : goal.returns-in-Idle-clause-place
returns-in-Idle-clause-place c =
    let P = c.args.self.now in
    rw c.in-Idle.is (membership_is (covers Idle c.args.cpu) P.domains (membership_in P.domains c.args.cpu) (λ k. refl) c.copied.result (first_is c))

pub returns-in-Idle-clause-member : goal.returns-in-Idle-clause-member
returns-in-Idle-clause-member c = member_is c.args.self.now.domains c.args.cpu (covers Idle c.args.cpu) c.copied.result (first_is c)
