use Rattle.std.proofs.Common.{◌<◌, ◌≤◌, ap, sym, subst, ◌∙◌}
use Rattle.pw_domain.specs.Domains.{domain_part}
use Rattle.pw_model.specs.Calls.{own_limit}
use Rattle.pw_walker.proofs.Members.{asked_index, asked_ops, place_within}
use Rattle.pw_core.proofs.Drawing.{with_more}
use Rattle.pw_walker.proofs.levels.ask_domain.Goals as goal

pub own_limit-requires : goal.own_limit-requires
own_limit-requires c =
    let lt = place_within c.args.plan.now c.args.kind c.args.cpu c.requires.cpu c.requires.scale c.args.levels.now.domain c.args.member c.requires.of.number c.requires.member in
    subst (λ n. c.args.member < n) (sym c.requires.of.of.holds.limited) lt

pub ask_ops-requires-clause-place : goal.ask_ops-requires-clause-place
ask_ops-requires-clause-place c = place_within c.args.plan.now c.args.kind c.args.cpu c.requires.cpu c.requires.scale c.args.levels.now.domain c.args.member c.requires.of.number c.requires.member

pub ask_ops-requires-clause-index : goal.ask_ops-requires-clause-index
ask_ops-requires-clause-index c = asked_index c.args.plan.now c.args.kind c.args.cpu c.requires.cpu c.requires.scale
    c.args.levels.now.domain c.args.member c.requires.of.number c.requires.member c.args.index c.requires.index

pub returns-clause-list : goal.returns-clause-list
returns-clause-list c =
    let x = domain_part c.args.levels.now in
    let within : own_limit x c.args.member ≤ c.args.index = subst (λ l. l ≤ c.args.index) (c.from-limit.ensures ∙ c.own_limit.ensures) c.if-index-limit.false in
    let same = asked_ops c.args.plan.now c.args.kind c.args.cpu c.requires.cpu c.requires.scale c.args.levels.now.domain c.args.member c.requires.of.number c.requires.member c.args.index
    x (domain_part c.ask_ops.new.self) c.ask_ops.ensures.part within in
    c.ask_ops.ensures.list ∙ ap (with_more c.args.ops.now) same
