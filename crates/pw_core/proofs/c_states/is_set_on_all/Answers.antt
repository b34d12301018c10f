use Rattle.pw_plan.specs.declared.domain.Domain.{Domain}
use Rattle.pw_plan.proofs.Indexing.{idle_within}
use Rattle.pw_model.specs.Domains.{is_sw_all}
use Rattle.pw_core.proofs.Owning.{any_governing, idle_covers}
use Rattle.pw_core.proofs.c_states.is_set_on_all.Goals as goal

pub loop-membership-init : goal.loop-membership-init
loop-membership-init c = rw c.idle_domains_of-membership-items.ensures (any_governing c.args.plan.now c.args.cpu c.args.level (λ (d : Domain). is_sw_all d.coord))

pub domain-domain-requires : goal.domain-domain-requires
domain-domain-requires c =
    rw c.idle_domains_of-membership-items.ensures (idle_within c.args.plan.now.domains c.args.cpu c.loop-membership.membership-index (record { place = 0; member = 0 })
    (rw c.idle_domains_of-membership-items.ensures at c.loop-membership-test.true))

pub governs-requires : goal.governs-requires
governs-requires c =
    let covered = idle_covers c.args.plan.now c.args.cpu c.loop-membership.membership-index (record { place = 0; member = 0 })
    (rw c.idle_domains_of-membership-items.ensures at c.loop-membership-test.true) in
    rw (c.domain-domain.ensures, c.idle_domains_of-membership-items.ensures) covered
