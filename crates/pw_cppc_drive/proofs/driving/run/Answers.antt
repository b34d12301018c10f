use Rattle.std.proofs.Common.{◌∙◌, ap, sym}
use Rattle.pw_regs.specs.Seen.{registers_seen}
use Rattle.pw_cppc.specs.History.{replies}
use Rattle.pw_cppc_drive.proofs.Answered.{replies_none}
use Rattle.pw_cppc_drive.proofs.Requesting.{ended, ran_on}
use Rattle.pw_cppc_drive.proofs.driving.run.Goals as goal

pub returns-in-Err-clause-replies : goal.returns-in-Err-clause-replies
returns-in-Err-clause-replies g c =
    c.requires.unanswered ∙ sym (ap (replies c.args.plan.now) c.operate_opening.ensures.entries ∙ replies_none c.args.plan.now)

pub returns-in-Err-clause-operates : goal.returns-in-Err-clause-operates
returns-in-Err-clause-operates g c =
    let new = registers_seen g.R.Registers c.operate_opening.new.self.regs in
    ended c.args.plan.now c.args.lines.now (registers_seen g.R.Registers c.args.ledger.now.regs) new new c.in-Err.done c.in-Err.ensures.did

pub returns-clause-operates : goal.returns-clause-operates
returns-clause-operates g c =
    let seen = registers_seen g.R.Registers in
    ran_on c.args.plan.now c.args.lines.now (seen c.args.ledger.now.regs) (seen c.operate_opening.new.self.regs) (seen c.make_all.new.ledger.regs) c.make_all.new.ledger.entries
    c.in_default.ensures.did c.make_all.ensures.ran
