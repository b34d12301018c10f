use Rattle.std.proofs.Common.{◌<◌, refl, subst, sym}
use Rattle.pw_plan.specs.Places.{domain_of}
use Rattle.pw_domain.specs.Domains.{domain_part}
use Rattle.pw_walker.proofs.Members.{place_within}
use Rattle.pw_walker.proofs.Undoing.{limit_back, limit_stands}
use Rattle.pw_walker.proofs.scaling.limit.Goals as goal

pub own_limit-requires : goal.own_limit-requires
own_limit-requires c =
    let lt = place_within c.args.plan.now c.args.kind c.args.cpu c.requires.cpu c.requires.scale c.args.held.now.domain c.member_of-member.result c.requires.of.number c.member_of-member.ensures in
    subst (λ n. c.member_of-member.result < n) (sym c.requires.of.of.holds.limited) lt

pub returns-clause-old : goal.returns-clause-old
returns-clause-old c =
    let P = c.args.plan.now in
    let d = domain_of P c.args.kind c.args.cpu in
    let k = c.member_of-member.result in
    let held = c.args.held.now in
    let lt = place_within P c.args.kind c.args.cpu c.requires.cpu c.requires.scale d k refl c.member_of-member.ensures in
    record {
      fits = rw c.own_limit.ensures (limit_stands P d k held c.requires.of lt);
      back = limit_back P c.args.kind c.args.cpu d k held.asks held.limits (domain_part c.limit_domain-reply.new.levels) c.member_of-member.ensures
          c.args.n c.own_limit.result c.own_limit.ensures c.limit_domain-reply.ensures.part;
    }
