use Rattle.std.proofs.Common.{true, Some}
use Rattle.pw_rule.specs.Rule.{given_of, promise_of}
use Rattle.pw_turns.specs.Asked.{entry_as}
use Rattle.pw_turns.proofs.coordinator.Coordinator.commit_for.Given as goal

abbrev pub ghosts-commit : goal.ghosts-commit
ghosts-commit g a = record {
  given = Some (given_of g.R.Registers a.self.now.table.shared.key);
  promise = promise_of g.R.Registers a.self.now.table.shared.key;
  request = a._request;
  gives_up = true;
  entry = entry_as a.raw.now.me.0.view.number a._request a._fault;
  count = g.R.Registers.faults a.journal.regs;
  last = 0;
}
