use Rattle.std.proofs.Common.{◌<◌, length, get_or}
use Rattle.pw_plan.specs.Groups.{no_domain}
use Rattle.pw_plan.proofs.Indexing.{idle_within}
use Rattle.pw_model.specs.States.{with_change}
use Rattle.pw_model.specs.Domains.{is_gathered}
use Rattle.pw_core.proofs.Owning.{all_governing, idle_covers}
use Rattle.pw_core.proofs.c_states.may_enter.Goals as goal

pub loop-membership-init : goal.loop-membership-init
loop-membership-init c = rw c.idle_domains_of-membership-items.ensures (all_governing c.args.plan.now c.args.cpu c.args.level (is_gathered (with_change c.args.state.now c.args.change)))

pub domain-domain-requires : goal.domain-domain-requires
domain-domain-requires c =
    rw c.idle_domains_of-membership-items.ensures (idle_within c.args.plan.now.domains c.args.cpu c.loop-membership.membership-index (record { place = 0; member = 0 })
    (rw c.idle_domains_of-membership-items.ensures at c.loop-membership-test.true))

pub is_gathered-requires : goal.is_gathered-requires
is_gathered-requires c =
    let P = c.args.plan.now in
    let k = (get_or c.idle_domains_of-membership-items.result.now c.loop-membership.membership-index (record { place = 0; member = 0 })).place in
    let lt : k < length P.domains =
    rw c.idle_domains_of-membership-items.ensures (idle_within P.domains c.args.cpu c.loop-membership.membership-index (record { place = 0; member = 0 })
    (rw c.idle_domains_of-membership-items.ensures at c.loop-membership-test.true)) in
    rw (c.domain-domain.ensures, c.requires.votes) (P.sound.domains.members k no_domain lt)

pub governs-requires : goal.governs-requires
governs-requires c =
    let covered = idle_covers c.args.plan.now c.args.cpu c.loop-membership.membership-index (record { place = 0; member = 0 })
    (rw c.idle_domains_of-membership-items.ensures at c.loop-membership-test.true) in
    rw (c.domain-domain.ensures, c.idle_domains_of-membership-items.ensures) covered
