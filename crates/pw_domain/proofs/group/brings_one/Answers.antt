use Rattle.std.proofs.Common.{refl}
use Rattle.pw_plan.proofs.Indexing.{idle_within}
use Rattle.pw_plan.proofs.Memberships.{any_own}
use Rattle.pw_core.proofs.Owning.{idle_covers}
use Rattle.pw_domain.specs.inner.Brought.{brought_by}
use Rattle.pw_domain.proofs.group.brings_one.Goals as goal

pub loop-membership-init : goal.loop-membership-init
loop-membership-init c = rw c.idle_domains_of-membership-items.ensures (any_own c.args.plan.now c.args.cpu (brought_by c.args.members.now c.args.states.now c.args.place c.args.own c.args.cpu)
    (λ d h. rw h refl))

pub domain-domain-requires : goal.domain-domain-requires
domain-domain-requires c =
    rw c.idle_domains_of-membership-items.ensures (idle_within c.args.plan.now.domains c.args.cpu c.loop-membership.membership-index (record { place = 0; member = 0 })
    (rw c.idle_domains_of-membership-items.ensures at c.loop-membership-test.true))

pub is_brought-requires-clause-cover : goal.is_brought-requires-clause-cover
is_brought-requires-clause-cover c =
    let covered = idle_covers c.args.plan.now c.args.cpu c.loop-membership.membership-index (record { place = 0; member = 0 })
    (rw c.idle_domains_of-membership-items.ensures at c.loop-membership-test.true) in
    rw (c.domain-domain.ensures, c.idle_domains_of-membership-items.ensures) covered
