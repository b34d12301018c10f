use Rattle.std.proofs.Common.{◌∙◌, ap, sym}
use Rattle.pw_model.specs.History.{replies}
use Rattle.pw_drive.proofs.Entering.{replies_none}
use Rattle.pw_drive.proofs.driving.run.Goals as goal

pub returns-else-is_none-clause-replies : goal.returns-else-is_none-clause-replies
returns-else-is_none-clause-replies g c =
    c.requires.unanswered ∙ sym (ap (replies c.args.plan.now) c.open-opening.ensures.empty ∙ replies_none c.args.plan.now)
