use Rattle.std.proofs.Common.{ap, ◌∙◌}
use Rattle.pw_plan.specs.Groups.{is_software}
use Rattle.pw_cppc.proofs.Software.{software_stands}
use Rattle.pw_cppc.proofs.standings.standing.Goals as goal

pub returns-in-SwAll : goal.returns-in-SwAll
returns-in-SwAll c =
    (rw (c.as_slice-asks.ensures, c.as_slice-minima.ensures, c.as_slice-maxima.ensures, c.as_slice-members.ensures) at c.together.ensures)
    ∙ software_stands c.args.plan.now c.args.numbers.now c.args.place c.args.cpu c.domain-domain.result.now c.domain-domain.ensures (ap is_software c.in-SwAll.is)

pub returns-in-SwAny : goal.returns-in-SwAny
returns-in-SwAny c =
    (rw (c.as_slice-asks.ensures, c.as_slice-minima.ensures, c.as_slice-maxima.ensures, c.as_slice-members.ensures) at c.together-in-SwAny.ensures)
    ∙ software_stands c.args.plan.now c.args.numbers.now c.args.place c.args.cpu c.domain-domain.result.now c.domain-domain.ensures (ap is_software c.in-SwAny.is)
