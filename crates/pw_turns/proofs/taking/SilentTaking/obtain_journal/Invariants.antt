use Rattle.std.proofs.Common.{true, Some}
use Rattle.pw_rule.specs.Rule.{given_of, promise_of}
use Rattle.pw_turns.specs.Asked.{no_entry}
use Rattle.pw_turns.proofs.taking.SilentTaking.obtain_journal.Given as goal

abbrev pub ghosts-lock_journal : goal.ghosts-lock_journal
ghosts-lock_journal g a = record {
  given = Some (given_of g.R.Registers a.self.now.table.shared.key);
  promise = promise_of g.R.Registers a.self.now.table.shared.key;
  request = a._request;
  gives_up = true;
  entry = no_entry;
  count = 0;
  last = 0;
}
