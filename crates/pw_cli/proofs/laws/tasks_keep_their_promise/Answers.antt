use Rattle.pw_cli.proofs.Promising.{keeps_task}
use Rattle.pw_cli.proofs.laws.tasks_keep_their_promise.Goals as goal

pub returns : goal.returns
returns c = keeps_task
