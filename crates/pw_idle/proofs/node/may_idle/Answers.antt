use Rattle.std.proofs.Common.{◌∙◌, ap}
use Rattle.pw_plan.specs.declared.parts.ContainerParts.{ContainerParts}
use Rattle.pw_plan.specs.Places.{row_at}
use Rattle.pw_idle.proofs.Counts.{may_counted}
use Rattle.pw_idle.proofs.node.may_idle.Goals as goal

pub returns-then-row : goal.returns-then-row
returns-then-row c =
    may_counted c.args.plan.now c.args.node c.args.votes.now c.args.allowing.now c.args.state c.row.result c.requires.counts c.requires.holds.children c.requires.first c.requires.last
    (c.row.ensures ∙ ap (λ (x : ContainerParts). row_at x.idle c.args.state) c.container.ensures) c.if-row.true
