use Rattle.std.proofs.Common.{ap, refl}
use Rattle.pw_plan.specs.declared.domain.Group.{Group}
use Rattle.pw_plan.specs.declared.index.CpuIndex.{CpuIndex}
use Rattle.pw_plan.specs.Groups.{has_member}
use Rattle.pw_plan.specs.Index.{group_membership_in}
use Rattle.pw_plan.proofs.Memberships.{group_member_is, index_none, index_some, no_group_of, membership_is}
use Rattle.pw_plan.proofs.plan.Plan.group_of.Goals as goal

pub returns-in_err-index_of-clause-place : goal.returns-in_err-index_of-clause-place
returns-in_err-index_of-clause-place c =
    rw c.from_residual.ensures (no_group_of c.args.self.now c.args.cpu (index_none c.args.self.now c.args.cpu c.in_err-index_of.ensures))

pub returns-clause-place : goal.returns-clause-place
returns-clause-place c =
    let P = c.args.self.now in
    let i = c.in_ok-index_of.field-0.now in
    membership_is (λ (g : Group). has_member g.members c.args.cpu) P.groups (group_membership_in P.groups c.args.cpu) (λ k. refl) i.group
    (ap (λ (x : CpuIndex). x.group) (index_some P c.args.cpu i c.in_ok-index_of.ensures))

pub returns-clause-member : goal.returns-clause-member
returns-clause-member c =
    let P = c.args.self.now in
    let i = c.in_ok-index_of.field-0.now in
    group_member_is P.groups c.args.cpu i.group (ap (λ (x : CpuIndex). x.group) (index_some P c.args.cpu i c.in_ok-index_of.ensures))
