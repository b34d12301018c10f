use Rattle.pw_turns.proofs.Lonely.{finishes_full, finishes_stopped, is_full, is_stopped}
use Rattle.pw_turns.proofs.laws.alone_is_refused.Goals as goal

pub returns-clause-full : goal.returns-clause-full
returns-clause-full c = is_full

pub returns-clause-finishes_full : goal.returns-clause-finishes_full
returns-clause-finishes_full c = finishes_full

pub returns-clause-stopped : goal.returns-clause-stopped
returns-clause-stopped c = is_stopped

pub returns-clause-finishes_stopped : goal.returns-clause-finishes_stopped
returns-clause-finishes_stopped c = finishes_stopped
