use Rattle.std.proofs.Common.{sym, subst}
use Rattle.pw_cppc.specs.SpacePlan.{IsPlanOver}
use Rattle.pw_base.proofs.Facts.{if_ok}
use Rattle.pw_embed.proofs.blocks.steered_on.Goals as goal

pub returns : goal.returns
returns c =
    let over : IsPlanOver c.args.space.now c.in_ok-plan.plan = record {
      machine = c.args.machine;
      notes = c.requires.planned.0;
      made = c.requires.planned.1;
      paths = c.in_ok-plan.ensures.paths;
      parts = c.in_ok-plan.ensures.parts;
    } in
    if_ok c.open.result (λ k o. (subst (IsPlanOver c.args.space.now) (sym o.0) over, o.1)) c.open.ensures
