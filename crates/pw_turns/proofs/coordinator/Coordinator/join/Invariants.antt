use Rattle.std.proofs.Common.{true, Some}
use Rattle.pw_rule.specs.Rule.{given_of}
use Rattle.pw_turns.specs.Asked.{no_entry, no_promise, no_request}
use Rattle.pw_turns.proofs.coordinator.Coordinator.join.Given as goal

abbrev pub ghosts-look : goal.ghosts-look
ghosts-look g a = record {
  given = Some (given_of g.R.Registers a.self.now.table.shared.key);
  promise = no_promise;
  request = no_request;
  gives_up = true;
  entry = no_entry;
  count = 0;
  last = 0;
}
