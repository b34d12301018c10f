use Rattle.std.proofs.Common.{◌≡◌, false, true, Some}
use Rattle.pw_rule.specs.Rule.{given_of, promise_of}
use Rattle.pw_turns.specs.Asked.{no_entry}
use Rattle.pw_turns.specs.Went.{Walked}
use Rattle.pw_turns.specs.Views.{is_met}
use Rattle.pw_turns.proofs.Again.{IsAgain}
use Rattle.pw_turns.proofs.waiting.WaitingTaking.obtain_record.Given as goal

abbrev pub ghosts-lock_record : goal.ghosts-lock_record
ghosts-lock_record g a = record {
  given = Some (given_of g.R.Registers a.self.now.table.shared.key);
  promise = promise_of g.R.Registers a.self.now.table.shared.key;
  request = a._request;
  gives_up = false;
  entry = no_entry;
  count = 0;
  last = 0;
}

abbrev pub invariant-loop : goal.invariant-loop
invariant-loop g l =
    (l.raw.table_id ≡ l.initial.raw.table_id) × IsAgain l.initial.raw.me.0.view l.fn.request l.raw.me.0.view × (l.raw.me.1 ≡ l.initial.raw.me.1)
    × (is_met l.met l.raw.me.0.view ≡ true) × Walked true l.fn.request l.initial.raw.me.0.own l.raw.me.0.own
