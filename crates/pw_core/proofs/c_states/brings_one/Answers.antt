use Rattle.std.proofs.Common.{◌<◌, length, get_or, refl}
use Rattle.pw_plan.specs.Groups.{no_domain}
use Rattle.pw_plan.proofs.Indexing.{idle_within}
use Rattle.pw_plan.proofs.Memberships.{any_own}
use Rattle.pw_model.specs.States.{with_change}
use Rattle.pw_core.specs.inner.Drawn.{brought_by}
use Rattle.pw_core.proofs.Owning.{idle_covers}
use Rattle.pw_core.proofs.c_states.brings_one.Goals as goal

pub loop-membership-init : goal.loop-membership-init
loop-membership-init c = rw c.idle_domains_of-membership-items.ensures (any_own c.args.plan.now c.args.cpu (brought_by c.args.state.now (with_change c.args.state.now c.args.change) c.args.cpu)
    (λ d h. rw h refl))

pub domain-domain-requires : goal.domain-domain-requires
domain-domain-requires c =
    rw c.idle_domains_of-membership-items.ensures (idle_within c.args.plan.now.domains c.args.cpu c.loop-membership.membership-index (record { place = 0; member = 0 })
    (rw c.idle_domains_of-membership-items.ensures at c.loop-membership-test.true))

pub is_brought-requires-clause-cover : goal.is_brought-requires-clause-cover
is_brought-requires-clause-cover c =
    let covered = idle_covers c.args.plan.now c.args.cpu c.loop-membership.membership-index (record { place = 0; member = 0 })
    (rw c.idle_domains_of-membership-items.ensures at c.loop-membership-test.true) in
    rw (c.domain-domain.ensures, c.idle_domains_of-membership-items.ensures) covered

pub is_brought-requires-clause-members : goal.is_brought-requires-clause-members
is_brought-requires-clause-members c =
    let P = c.args.plan.now in
    let k = (get_or c.idle_domains_of-membership-items.result.now c.loop-membership.membership-index (record { place = 0; member = 0 })).place in
    let lt : k < length P.domains =
    rw c.idle_domains_of-membership-items.ensures (idle_within P.domains c.args.cpu c.loop-membership.membership-index (record { place = 0; member = 0 })
    (rw c.idle_domains_of-membership-items.ensures at c.loop-membership-test.true)) in
    rw (c.domain-domain.ensures, c.requires.fits.votes) (P.sound.domains.members k no_domain lt)
