use Rattle.std.proofs.Common.{true, Some}
use Rattle.pw_rule.specs.Rule.{given_of, promise_of}
use Rattle.pw_turns.specs.Asked.{no_entry, no_request}
use Rattle.pw_turns.proofs.coordinator.Coordinator.unlock_journal_for.Given as goal

abbrev pub ghosts-unlock_journal : goal.ghosts-unlock_journal
ghosts-unlock_journal g a = record {
  given = Some (given_of g.R.Registers a.self.now.table.shared.key);
  promise = promise_of g.R.Registers a.self.now.table.shared.key;
  request = no_request;
  gives_up = true;
  entry = no_entry;
  count = g.R.Registers.faults a.journal.regs;
  last = 0;
}
