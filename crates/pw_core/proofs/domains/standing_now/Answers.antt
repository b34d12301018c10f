use Rattle.std.proofs.Common.{ap, ◌∙◌}
use Rattle.pw_plan.specs.Groups.{is_software}
use Rattle.pw_core.proofs.Standing.{software_stands}
use Rattle.pw_core.proofs.domains.standing_now.Goals as goal

pub returns-in-SwAll : goal.returns-in-SwAll
returns-in-SwAll c =
    (rw (c.asks_of-asks.ensures, c.limits_of-limits.ensures, c.as_slice.ensures) at c.together.ensures)
    ∙ software_stands c.args.plan.now c.args.state.now c.args.place c.args.cpu c.domain-domain.result.now c.domain-domain.ensures (ap is_software c.in-SwAll.is)

pub returns-in-SwAny : goal.returns-in-SwAny
returns-in-SwAny c =
    (rw (c.asks_of-asks.ensures, c.limits_of-limits.ensures, c.as_slice-in-SwAny.ensures) at c.together-in-SwAny.ensures)
    ∙ software_stands c.args.plan.now c.args.state.now c.args.place c.args.cpu c.domain-domain.result.now c.domain-domain.ensures (ap is_software c.in-SwAny.is)
