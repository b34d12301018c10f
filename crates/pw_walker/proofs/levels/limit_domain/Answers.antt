use Rattle.std.proofs.Common.{ap, ◌∙◌}
use Rattle.pw_domain.specs.Domains.{domain_part}
use Rattle.pw_walker.proofs.Members.{limited_index, limited_ops, place_within}
use Rattle.pw_core.proofs.Drawing.{with_more}
use Rattle.pw_walker.proofs.levels.limit_domain.Goals as goal

pub limit_ops-requires-clause-place : goal.limit_ops-requires-clause-place
limit_ops-requires-clause-place c = place_within c.args.plan.now c.args.kind c.args.cpu c.requires.cpu c.requires.scale c.args.levels.now.domain c.args.member c.requires.of.number c.requires.member

pub limit_ops-requires-clause-limit : goal.limit_ops-requires-clause-limit
limit_ops-requires-clause-limit c = limited_index c.args.plan.now c.args.kind c.args.cpu c.requires.cpu c.requires.scale
    c.args.levels.now.domain c.args.member c.requires.of.number c.requires.member c.args.n c.capped-limit.result c.capped-limit.ensures

pub returns-clause-list : goal.returns-clause-list
returns-clause-list c =
    let same = limited_ops c.args.plan.now c.args.kind c.args.cpu c.requires.cpu c.requires.scale
    c.args.levels.now.domain c.args.member c.requires.of.number c.requires.member c.args.n c.capped-limit.result
    (domain_part c.args.levels.now) (domain_part c.limit_ops.new.self) c.capped-limit.ensures c.limit_ops.ensures.part in
    c.limit_ops.ensures.list ∙ ap (with_more c.args.ops.now) same
